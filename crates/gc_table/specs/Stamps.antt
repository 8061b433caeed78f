-- Stamps of what seats have seen, and what histories of which one begins the other say.
use Rattle.std.specs.Prelude.{◌≡◌, List, length, take}
use Rattle.mark_core.specs.declared.kinds.Event.{Event}
use Rattle.gc_table.specs.declared.seat.Heap.{Heap}
use Rattle.gc_table.specs.declared.seat.HeapSeat.{HeapSeat}
use Rattle.gc_table.specs.declared.seat.Stamp.{Stamp}
use Rattle.gc_table.specs.declared.view.View.{View}
use Rattle.gc_table.specs.OpenRuns.{LogBegins}
use Rattle.gc_table.specs.Past.{log_of}
use Rattle.gc_table.specs.Seats.{seen_of, view_of}
use Rattle.gc_table.specs.Seen.{Begins, WereAll}

-- what its seat had seen when the stamp was taken
abbrev pub seen_by_stamp : Stamp → List Event
seen_by_stamp n = n.token.me.0.seen

-- what the seat knew then
abbrev pub stamp_view : Stamp → View
stamp_view n = n.token.me.0.view

-- the stamp is one of the heap's
abbrev pub StampFits : Heap → Stamp → Type 0
StampFits h n = (n.token.table_id ≡ h.table.shared.table_id) × ((stamp_view n).shape ≡ h.shape)

-- the stamp has what the seat has seen and knows
abbrev pub IsStampOf : HeapSeat → Stamp → Type 0
IsStampOf s n = (seen_by_stamp n ≡ seen_of s) × (stamp_view n ≡ view_of s)

-- both stamps have the same
abbrev pub IsSameStamp : Stamp → Stamp → Type 0
IsSameStamp m n = (seen_by_stamp n ≡ seen_by_stamp m) × (stamp_view n ≡ stamp_view m)

-- the seat knows what it knew; what it has seen goes on from what it had seen, and is all that had happened at some moment of the call
pub record SeesAll (s t : HeapSeat) : Type 0 where
  pub view : view_of t ≡ view_of s
  pub own : Begins (seen_of s) (seen_of t)
  pub all : WereAll (view_of t).shape (view_of t).plan (seen_of t)

-- what another seat had done when a stamp was taken is a part of the same run, if the seat goes on from the stamp
abbrev pub StampsShareRuns : Type 0
StampsShareRuns =
    (s : HeapSeat) (n : Stamp) → (stamp_view n).shape ≡ (view_of s).shape → Begins (seen_by_stamp n) (seen_of s)
    → ∥ LogBegins (stamp_view n).log (log_of (view_of s).shape (seen_of s) (stamp_view n).state.number) ∥₁

-- a seat that has learned stamp a takes stamp b, and these events go on from it: then the first of them, as many as stamp b has, have all that a's seat had done, and of b's seat exactly what it had done by then. So whatever b's seat did afterwards stands behind all that a's had done before
abbrev pub OrderKept : Type 0
OrderKept =
    (a b : Stamp) (es : List Event) → (stamp_view a).shape ≡ (stamp_view b).shape → Begins (seen_by_stamp a) (seen_by_stamp b) → Begins (seen_by_stamp b) es
    → let log = log_of (stamp_view b).shape (take (length (seen_by_stamp b)) es) in ∥ LogBegins (stamp_view a).log (log (stamp_view a).state.number) × (log (stamp_view b).state.number ≡ (stamp_view b).log) ∥₁
