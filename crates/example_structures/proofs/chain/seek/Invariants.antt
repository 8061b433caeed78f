use Rattle.std.proofs.Common.{◌≡◌}
use Rattle.std.specs.Arc.{arc_value}
use Rattle.shared_heap.specs.declared.mutator.Place.TheVariants.{Inside}
use Rattle.example_structures.specs.Changes.{ChangesNone, IsTold}
use Rattle.example_structures.proofs.chain.seek.Given as goal

abbrev pub invariant-loop-round : goal.invariant-loop-round
invariant-loop-round g l = record {
  inside : l.m.place ≡ Inside;
  world : arc_value l.m.heap ≡ arc_value l.fn.m.heap;
  none : ChangesNone l.fn.m l.m;
  told : IsTold 21 l.fn.m → IsTold 21 l.m;
}
