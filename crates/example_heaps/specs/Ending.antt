-- What is so of a world in which two threads played.
use Rattle.std.specs.Prelude.{List, [], ◌∷◌}
use Rattle.std.specs.Arc.{arc_value}
use Rattle.mark_core.specs.declared.kinds.Event.{Event}
use Rattle.gc_table.specs.declared.words.Words.{Words}
use Rattle.managed_heap.specs.Closing.{IsWorldEnd, all_seats}
use Rattle.managed_heap.specs.Threads.{IsWhole}
use Rattle.managed_heap.specs.declared.mutator.Mutator.{Mutator}
use Rattle.managed_heap.specs.declared.world.World.{World}

-- the words are the end of one run of two mutators and nobody else, no event of which freed a reachable cell
pub record EndsWhole (w : Words) : Type 0 where
  pub world : World
  pub first : Mutator
  pub second : Mutator
  pub ended : IsWorldEnd world (first ∷ second ∷ []) [] w
  pub past : List Event
  pub whole : IsWhole (arc_value world.heap).shape (all_seats world ended.rest []) w past
