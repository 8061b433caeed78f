-- A seat between two steps of a test.
use Rattle.std.specs.Prelude.{ℕ, ◌≡◌, ◌+◌, ◌&&◌, Bool, true, not, is_none, nat_lt, nat_le, length}
use Rattle.mark_core.specs.Numbers.{section_variables}
use Rattle.mark_core.specs.Steps.MutatorSteps.{is_next_part, fits_part, names_last}
use Rattle.mark_core.specs.Seats.{may_mutate, has_making}
use Rattle.mark_core.specs.declared.kinds.Shape.{Shape}
use Rattle.mark_core.specs.declared.seat.SeatState.{SeatState}
use Rattle.plain_heap.specs.PlainHeap.{variable, is_own}
use Rattle.gc_table.specs.declared.seat.Heap.{Heap}
use Rattle.gc_table.specs.declared.seat.HeapSeat.{HeapSeat}
use Rattle.gc_table.specs.Seats.{Sits, view_of}

-- the seat is the heap's, each cell that it made has an object, and its section has all its variables
abbrev pub Ready : Heap → HeapSeat → Type 0
Ready h x = Sits h x × (length (view_of x).own.meaning.heap.objects ≡ (view_of x).state.made) × (length (view_of x).own.meaning.heap.variables ≡ section_variables)

-- the seat is the heap's, and the cell that it made last has no object yet, as no variable names it
abbrev pub Unnamed : Heap → HeapSeat → Type 0
Unnamed h x = Sits h x × (length (view_of x).own.meaning.heap.objects + 1 ≡ (view_of x).state.made) × (length (view_of x).own.meaning.heap.variables ≡ section_variables)

-- the condition of a store of a word of a new cell
abbrev pub may_store_new : Shape → SeatState → ℕ → ℕ → ℕ → Bool
may_store_new sh s c part word = (nat_lt c sh.cells && nat_le part (sh.fields + 1) && may_mutate s) && is_next_part s c part && fits_part sh s part word

-- the condition of a store of the new cell in a variable
abbrev pub may_name : SeatState → ℕ → ℕ → Bool
may_name s v r = (nat_lt v section_variables && may_mutate s) && names_last s.cache r && (is_none s.owes && not (has_making s.cache))

-- variable v of the plain heap names an object of the own section
abbrev pub SeatHasOwn : HeapSeat → ℕ → Type 0
SeatHasOwn x v = is_own (variable (view_of x).own.meaning.heap v) ≡ true

-- the condition of a store of variable w in field i of that object, as far as the record tells, if objects aren't shared
abbrev pub may_link : Shape → SeatState → ℕ → ℕ → ℕ → Bool
may_link sh s v i w = (nat_lt v section_variables && nat_lt i sh.fields && nat_lt w section_variables && may_mutate s) && (is_none s.owes && not s.spent && not sh.sharing)
