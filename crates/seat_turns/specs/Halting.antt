-- Why a mutator does no further step.
use Rattle.std.specs.Prelude.{◌≤◌, length}
use Rattle.gc_table.specs.Rule.{KnowsFull}
use Rattle.gc_table.specs.Seats.{view_of}
use Rattle.gc_table.specs.declared.seat.Heap.{Heap}
use Rattle.gc_table.specs.declared.seat.HeapSeat.{HeapSeat}
use Rattle.seat_turns.specs.Standing.{Halts, IsAtTurn, IsMutatorOutside, plain_of}
use Rattle.seat_turns.specs.declared.refused.Refused.{Refused}
use Rattle.seat_turns.specs.declared.refused.Refused.TheVariants as refusals

-- the heap is full: the mutator knows it, and has no cache
abbrev pub HaltsFull : Refused → Heap → HeapSeat → Type 0
HaltsFull refusals.Full h s = Halts h s × KnowsFull (view_of s)
HaltsFull e h s = ⊥

-- the heap is full and the mutator knows it, or the section has made all its objects
abbrev pub EndsFullOrSpent : Refused → Heap → HeapSeat → Type 0
EndsFullOrSpent refusals.Full h s = Halts h s × KnowsFull (view_of s)
EndsFullOrSpent refusals.Spent h s = IsAtTurn h s × (h.shape.objects ≤ length (plain_of s).objects)
EndsFullOrSpent e h s = ⊥

-- the heap is full: the mutator knows it, and has left the world
abbrev pub LeftFull : Refused → Heap → HeapSeat → Type 0
LeftFull refusals.Full h s = IsMutatorOutside h s × KnowsFull (view_of s)
LeftFull e h s = ⊥

-- no object was made: the heap is full, and the mutator has left the world, or its section has made all its objects
abbrev pub MadeNone : Refused → Heap → HeapSeat → Type 0
MadeNone refusals.Full h s = IsMutatorOutside h s × KnowsFull (view_of s)
MadeNone refusals.Spent h s = IsAtTurn h s × (h.shape.objects ≤ length (plain_of s).objects)
MadeNone e h s = ⊥
