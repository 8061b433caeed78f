use Rattle.std.proofs.Common.{◌++◌}
use Rattle.std.specs.String.{string_bytes}
use Rattle.load_gen.specs.Generated.{lines_text, last_state}
use Rattle.load_gen.proofs.Steps.{AreLines}
use Rattle.load_gen.proofs.text.push_warehouse.Given as goal

abbrev pub invariant-loop-line : goal.invariant-loop-line
invariant-loop-line l =
    AreLines (string_bytes l.text) (string_bytes l.initial.text ++ lines_text l.size 0 l.initial.draws.state) l.size l.line l.draws.state (last_state l.size 0 l.initial.draws.state)
