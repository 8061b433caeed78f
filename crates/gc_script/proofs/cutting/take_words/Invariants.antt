use Rattle.std.proofs.Common.{◌≡◌, ◌++◌, map, length}
use denote.Shadow.{shadow}
use denote.Text.{Utf8}
use Rattle.gc_script.specs.ScriptText.{words}
use Rattle.gc_script.specs.FirstLine.{first_line, after_line}
use Rattle.gc_script.proofs.cutting.take_words.Given as goal

abbrev pub invariant-line : goal.invariant-line
invariant-line l =
    shadow (Utf8 l.rest) × (map (λ w. w.now) l.found.items ++ words (first_line l.rest) ≡ words (first_line l.text)) × (after_line l.rest ≡ after_line l.text)

abbrev pub decreases-line : goal.decreases-line
decreases-line l = length l.rest
