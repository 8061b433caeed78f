-- What is so of a world for four threads before they begin.
use Rattle.std.specs.Arc.{arc_value}
use Rattle.shared_heap.specs.Lending.{IsFreshSharer}
use Rattle.shared_heap.specs.declared.mutator.SharedMutator.{SharedMutator}
use Rattle.shared_heap.specs.declared.world.SharedWorld.{SharedWorld}

-- these are the world's mutators 1 to 4, which have done nothing
pub record AreNew (w : SharedWorld) (a b c d : SharedMutator) : Type 0 where
  pub value : IsFreshSharer (arc_value w.heap) w.sizes.name 1 a
  pub field : IsFreshSharer (arc_value w.heap) w.sizes.name 2 b
  pub first : IsFreshSharer (arc_value w.heap) w.sizes.name 3 c
  pub second : IsFreshSharer (arc_value w.heap) w.sizes.name 4 d
