use Rattle.std.proofs.Common.{◌≡◌}
use Rattle.std.specs.Arc.{arc_value}
use Rattle.shared_heap.specs.declared.mutator.Place.TheVariants.{Inside}
use Rattle.example_structures.specs.Maps.{Renews}
use Rattle.example_structures.proofs.map.SharedMap.change.Given as goal

abbrev pub invariant-loop-round : goal.invariant-loop-round
invariant-loop-round g l = record {
  next : (goal.iterator-loop-round g).can_next l._round-iterator;
  finite : (goal.iterator-loop-round g).is_finite l._round-iterator;
  inside : l.m.place ≡ Inside;
  world : arc_value l.m.heap ≡ arc_value l.fn.m.heap;
  renews : Renews 0 l.fn.m l.m;
}
