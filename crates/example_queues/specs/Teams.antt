-- What is so of a world for three mutators before they begin.
use Rattle.std.specs.Arc.{arc_value}
use Rattle.shared_heap.specs.Lending.{IsFreshSharer}
use Rattle.shared_heap.specs.declared.mutator.SharedMutator.{SharedMutator}
use Rattle.shared_heap.specs.declared.world.SharedWorld.{SharedWorld}

-- these are the world's mutators 1, 2 and 3, which have done nothing
pub record AreNew (w : SharedWorld) (a b c : SharedMutator) : Type 0 where
  pub first : IsFreshSharer (arc_value w.heap) w.sizes.name 1 a
  pub second : IsFreshSharer (arc_value w.heap) w.sizes.name 2 b
  pub maker : IsFreshSharer (arc_value w.heap) w.sizes.name 3 c
