use Rattle.std.proofs.Common.{◌≡◌}
use Rattle.std.specs.Arc.{arc_value}
use Rattle.example_heaps.proofs.lists.make_list.Given as goal

abbrev pub invariant-loop-value : goal.invariant-loop-value
invariant-loop-value g l = record { world : arc_value l.m.heap ≡ arc_value l.fn.m.heap }
