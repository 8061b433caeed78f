-- What is so of a world for two threads before they begin.
use Rattle.std.specs.Prelude.{◌≡◌}
use Rattle.std.specs.Arc.{arc_value}
use Rattle.managed_heap.specs.declared.mutator.Mutator.{Mutator}
use Rattle.managed_heap.specs.declared.world.World.{World}
use Rattle.shared_heap.specs.Lending.{IsFreshSharer}
use Rattle.shared_heap.specs.declared.mutator.SharedMutator.{SharedMutator}
use Rattle.shared_heap.specs.declared.world.SharedWorld.{SharedWorld}

-- these mutators are the world's
pub record AreOwn (w : World) (a b : Mutator) : Type 0 where
  pub first : arc_value a.heap ≡ arc_value w.heap
  pub second : arc_value b.heap ≡ arc_value w.heap

-- these are the world's mutators 1 and 2, which have done nothing
pub record AreNew (w : SharedWorld) (a b : SharedMutator) : Type 0 where
  pub first : IsFreshSharer (arc_value w.heap) w.sizes.name 1 a
  pub second : IsFreshSharer (arc_value w.heap) w.sizes.name 2 b
