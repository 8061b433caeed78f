use Rattle.std.specs.Io.KnownBytes.{Keeps}
use Rattle.play_report.proofs.standard.write_retried.Given as goal

abbrev pub invariant-loop-i : goal.invariant-loop-i
invariant-loop-i g l = Keeps (g.W.Write.contents l.initial.inner) (g.W.Write.contents l.inner)
