-- What a closed heap hands out.
use Rattle.std.specs.Prelude.{ℕ, ◌≡◌, ◌⊎◌, ◌<◌, ◌≤◌, List, [], length, slice_get, slice_index, Some, IsFalse, vec_capacity}
use Rattle.std.specs.Global.{Vec}
use Rattle.mark_core.specs.Bits.{reference_in}
use Rattle.mark_core.specs.Layout.{region_sizes, words_of}
use Rattle.mark_core.specs.Seats.{phase_of}
use Rattle.mark_core.specs.Start.{spent_seat}
use Rattle.mark_core.specs.declared.kinds.Event.{Event}
use Rattle.mark_core.specs.declared.kinds.Shape.{Shape}
use Rattle.mark_core.specs.declared.kinds.Phase.TheVariants.{Full}
use Rattle.mark_core.specs.declared.seat.SeatState.{SeatState}
use Rattle.gc_table.specs.TableState.{TableState, start_state}
use Rattle.gc_table.specs.Rule.{IsState, KnowsFull, Leads}
use Rattle.gc_table.specs.Seats.{seen_of, view_of, IsOutside}
use Rattle.gc_table.specs.Operations.{Token}
use Rattle.gc_table.specs.Past.{LeadTo, log_of}
use Rattle.gc_table.specs.Seen.{Begins}
use Rattle.gc_table.specs.declared.seat.Heap.{Heap}
use Rattle.gc_table.specs.declared.seat.HeapSeat.{HeapSeat}
use Rattle.gc_table.specs.declared.words.Room.{Room}
use Rattle.gc_table.specs.declared.words.Words.{Words}

-- these are the words of the list, read by their meaning
pub record AreWords (sh : Shape) (ws : List ℕ) (w : Words) : Type 0 where
  pub idents : w.idents.items ≡ (words_of sh ws).identities
  pub values : w.values.items ≡ (words_of sh ws).values
  pub fields : w.fields.items ≡ (words_of sh ws).fields
  pub alloc : w.alloc.items ≡ (words_of sh ws).allocs
  pub positions : w.positions.items ≡ (words_of sh ws).positions
  pub phase : w.phase ≡ phase_of (words_of sh ws).phase
  pub named : w.named ≡ reference_in (words_of sh ws).named
  pub roots : w.roots.items ≡ (words_of sh ws).roots

-- the list is empty, and has room for so many words
abbrev pub IsRoomFor : ℕ → Vec ℕ → Type 0
IsRoomFor n v = (v.items ≡ []) × (n ≤ vec_capacity v)

-- there is room for the words that say what lies where in a heap of this shape
pub record HasRoom (sh : Shape) (r : Room) : Type 0 where
  pub idents : IsRoomFor (slice_index (region_sizes sh) 9) r.idents
  pub values : IsRoomFor (slice_index (region_sizes sh) 10) r.values
  pub fields : IsRoomFor (slice_index (region_sizes sh) 11) r.fields
  pub alloc : IsRoomFor (slice_index (region_sizes sh) 4) r.alloc
  pub positions : IsRoomFor (slice_index (region_sizes sh) 1) r.positions
  pub roots : IsRoomFor (slice_index (region_sizes sh) 2) r.roots

-- what is left of a seat of the heap that is outside, while others are joined into it
pub record IsLeft (h : Heap) (t : Token) : Type 0 where
  pub table : t.table_id ≡ h.table.shared.table_id
  pub shape : t.me.0.view.shape ≡ h.shape
  pub live : IsFalse t.me.0.view.state.spent
  pub seated : IsFalse t.me.0.stamp
  pub outside : IsOutside t.me.0.view

-- the record is what is left of a seat that was joined into the first, or the first seat's, which is outside the world, its stop and its help
abbrev pub IsResting : List HeapSeat → SeatState → Type 0
IsResting seats r = ((sh : Shape) × (k : ℕ) × (r ≡ spent_seat sh k)) ⊎ ((s : HeapSeat) × (slice_get seats 0 ≡ Some s) × (r ≡ (view_of s).state) × IsOutside (view_of s))

-- the words are those of a state that meets the rule, in which each section is as its seat left it
pub record IsEnd (sh : Shape) (seats : List HeapSeat) (w : Words) : Type 0 where
  pub state : TableState
  pub whole : IsState state
  pub shape : state.core.shape ≡ sh
  pub plan : (s : HeapSeat) → slice_get seats 0 ≡ Some s → state.plan ≡ (view_of s).plan
  pub words : AreWords sh state.core.words w
  pub sections : (i : ℕ) (s : HeapSeat) (k : ℕ) → slice_get seats i ≡ Some s → (view_of s).state.section ≡ Some k → slice_get state.sections k ≡ Some (view_of s).own
  -- a seat that saw the heap full saw what is so in the end
  pub full : (i : ℕ) (s : HeapSeat) → slice_get seats i ≡ Some s → KnowsFull (view_of s) → w.phase ≡ Full
  -- no seat with a section is at work, of those that were handed in
  pub resting : (j : ℕ) (r : SeatState) (k : ℕ) → j < length seats → slice_get state.core.seats j ≡ Some r → r.section ≡ Some k → IsResting seats r
  -- these events led from the start to the words in the end, and the log of each seat is its part of them
  pub past : List Event
  pub led : LeadTo sh past state.core
  -- what each seat had seen was the beginning of it
  pub since : (i : ℕ) (s : HeapSeat) → slice_get seats i ≡ Some s → Begins (seen_of s) past
  -- on the way each state met the rule, with what the sections had come to by then
  pub came : Leads past (start_state sh state.plan 1) state
  pub logs : (i : ℕ) (s : HeapSeat) → slice_get seats i ≡ Some s → (view_of s).log ≡ log_of sh past i
  -- nobody else took part, if all seats were handed in
  pub theirs : (s : HeapSeat) → slice_get seats 0 ≡ Some s → (view_of s).opened ≡ length seats → (i : ℕ) → length seats ≤ i → log_of sh past i ≡ []
