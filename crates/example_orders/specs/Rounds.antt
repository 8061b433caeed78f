-- What is so of a world in which four threads played.
use Rattle.std.specs.Prelude.{◌≡◌, List, [], ◌∷◌, IsFalse, IsTrue}
use Rattle.std.specs.Arc.{arc_value}
use Rattle.mark_core.specs.declared.kinds.Event.{Event}
use Rattle.gc_table.specs.Seats.{view_of}
use Rattle.gc_table.specs.declared.words.Words.{Words}
use Rattle.shared_heap.specs.Closing.{IsSharedEnd, all_seats}
use Rattle.shared_heap.specs.Threads.{IsWhole}
use Rattle.shared_heap.specs.declared.mutator.SharedMutator.{SharedMutator}
use Rattle.shared_heap.specs.declared.world.SharedWorld.{SharedWorld}
use Rattle.example_orders.specs.Threads.{ReadsFieldFirst, ReadsValueFirst, StoresField, StoresValue}
use Rattle.example_orders.specs.declared.ordering.Readings.{Readings}

-- one reader found the value stored and the field not, the other the field stored and the value not
abbrev pub AreAgainst : Readings → Type 0
AreAgainst r = (r.first.value ≡ 1) × IsFalse r.first.stored × IsTrue r.second.stored × (r.second.value ≡ 0)

-- the words are the end of one run of four mutators and nobody else; two stored, and two read what is told, which isn't that
pub record IsOrdered (r : Readings) (w : Words) : Type 0 where
  pub world : SharedWorld
  pub value : SharedMutator
  pub field : SharedMutator
  pub first : SharedMutator
  pub second : SharedMutator
  pub ended : IsSharedEnd world (value ∷ field ∷ first ∷ second ∷ []) [] w
  pub past : List Event
  pub whole : IsWhole (arc_value world.heap).shape (all_seats world ended.rest []) w past
  pub stored : StoresValue (view_of value.seat).log × StoresField (view_of field.seat).log
  pub read : ReadsValueFirst r.first (view_of first.seat).log × ReadsFieldFirst r.second (view_of second.seat).log
  pub agree : AreAgainst r → ⊥
