use Rattle.std.proofs.Common.{◌≡◌}
use Rattle.std.specs.Arc.{arc_value}
use Rattle.shared_heap.specs.declared.mutator.Place.TheVariants.{Inside}
use Rattle.example_structures.specs.Changes.{ChangesNone}
use Rattle.example_structures.proofs.chain.let_go.Given as goal

abbrev pub invariant-loop-v : goal.invariant-loop-v
invariant-loop-v l = record {
  inside : l.m.place ≡ Inside;
  world : arc_value l.m.heap ≡ arc_value l.fn.m.heap;
  none : ChangesNone l.fn.m l.m;
}
