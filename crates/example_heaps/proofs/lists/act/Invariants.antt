use Rattle.std.proofs.Common.{◌≡◌}
use Rattle.std.specs.Arc.{arc_value}
use Rattle.example_heaps.proofs.lists.act.Given as goal

abbrev pub invariant-loop : goal.invariant-loop
invariant-loop g l = record { world : arc_value l.m.heap ≡ arc_value l.fn.m.heap }
