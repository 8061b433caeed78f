use Rattle.std.proofs.Common.{length}
use denote.Text.{Utf8}
use denote.Shadow.{shadow}
use Rattle.gc_script.proofs.Lines.{UpTo}
use Rattle.gc_script.proofs.progress.read_lines.Given as goal

abbrev pub invariant-lines : goal.invariant-lines
invariant-lines l = shadow (Utf8 l.rest) × UpTo l.version l.text l.rest l.progress

abbrev pub decreases-lines : goal.decreases-lines
decreases-lines l = length l.rest
