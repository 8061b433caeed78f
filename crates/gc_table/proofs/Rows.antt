-- A short run of events, with the plain heap that it leaves.
use Rattle.std.specs.Prelude.{ℕ, false, ◌≡◌, List, [], ◌∷◌, map, refl, Some, None, Option, slice_get, slice_index_or}
use Rattle.mark_core.specs.Start.{start_seat}
use Rattle.mark_core.specs.Steps.{Core, start_core, after_event, first_refused}
use Rattle.mark_core.specs.declared.seat.SeatState.{SeatState}
use Rattle.mark_core.specs.declared.kinds.Shape.{Shape}
use Rattle.mark_core.specs.declared.kinds.Event.{Event}
use Rattle.mark_core.specs.declared.kinds.Phase.TheVariants.{Idle, Full}
use Rattle.mark_core.specs.declared.kinds.Step.{Step}
use Rattle.mark_core.specs.declared.kinds.Step.TheVariants.{ReadPhase, ReadOwn, StoreField, StoreValue, StoreRoot, ClaimBlock, ReadFree, StoreNew, EnterStep, ReadSeason}
use Rattle.plain_heap.specs.declared.object.Ref.TheVariants.{Own}
use Rattle.plain_heap.specs.declared.operation.Op.{Op}
use Rattle.plain_heap.specs.declared.operation.Op.TheVariants.{New, Set, Put, Get, Collect}
use Rattle.plain_heap.specs.PlainHeap.{Heap, empty_heap}
use Rattle.plain_heap.specs.PlainRun.{heap_from}
use Rattle.mark_core.specs.Places.{the_phase, the_next_card}
use Rattle.gc_table.specs.Rule.{newcomer}
use Rattle.gc_table.specs.Seats.{IsFresh}
use Rattle.gc_table.specs.StandsFor.{start_meanings}
use Rattle.gc_table.specs.declared.view.Meaning.{Meaning}
use Rattle.gc_table.specs.PlainSteps.{meaning_of, meanings_after, AsksIn}

-- a state with what its words mean
abbrev Both : Type 0
Both = Core × List Meaning

-- an event, and its plain step
abbrev by : ℕ → Step → Op → Event × Op
by seat step op = (record { seat = seat; step = step }, op)

abbrev after_of : Option SeatState → Event → Op → Both → Both
after_of None e op b = b
after_of (Some s) e op b = (after_event b.0 e, meanings_after b.0.shape s e.step op b.1)

abbrev run_both : List (Event × Op) → Both → Both
run_both [] b = b
run_both (x ∷ xs) b = run_both xs (after_of (slice_get b.0.seats x.0.seat) x.0 x.1 b)

abbrev pub small : Shape
small = record { cells = 64; packets = 2; entries = 2; sections = 2; fields = 1; objects = 2000000; sharing = false; slots = 0; stretch = 1 }

abbrev begin : Both
begin = (start_core small 2, start_meanings small)

-- the catalogue's seat makes a cell
abbrev making : List (Event × Op)
making = by 0 EnterStep Collect ∷ by 0 ReadPhase Collect ∷ by 0 ReadSeason Collect ∷ by 0 (ClaimBlock 0) Collect ∷ by 0 ReadFree Collect ∷ by 0 (StoreNew 0 0 0) Collect ∷ by 0 (StoreNew 0 1 7) Collect ∷ by 0 (StoreNew 0 2 0) Collect ∷ []

-- the catalogue's seat stores the cell in a variable, a reference of it to itself, and another value, and follows the reference
abbrev storing : List (Event × Op)
storing = by 0 (StoreRoot 3 1) (New 3 7) ∷ by 0 (StoreField 3 0 (Some 3)) (Set 3 0 3) ∷ by 0 (StoreValue 3 9) (Put 3 9) ∷ by 0 (ReadOwn 0 0) Collect ∷ by 0 (StoreRoot 4 1) (Get 4 3 0) ∷ []

abbrev heap_after_run : List (Event × Op) → Heap
heap_after_run xs = (meaning_of (run_both xs begin).1 0).heap

-- a cell without a variable is no object yet
none_made : heap_after_run making ≡ empty_heap 1 0
none_made = refl

-- each store is its plain step
all_stored : (meaning_of (run_both storing (run_both making begin)).1 0).heap ≡ heap_from None (empty_heap 1 0) (New 3 7 ∷ Set 3 0 3 ∷ Put 3 9 ∷ Get 4 3 0 ∷ [])
all_stored = refl

-- each of these steps is allowed
making_allowed : first_refused 0 (map (λ x. x.0) making) begin.0 ≡ None
making_allowed = refl

storing_allowed : first_refused 0 (map (λ x. x.0) storing) (run_both making begin).0 ≡ None
storing_allowed = refl

-- the first seat's record
abbrev first_seat : Both → SeatState
first_seat b = slice_index_or b.0.seats 0 (start_seat small 0)

idle_goes_on : Idle ≡ Full → ⊥
idle_goes_on e = cc

-- what is asked besides is met: of the new cell's first word, and of the store of the new object
asks_making : AsksIn (first_seat begin) begin.1 (StoreNew 0 0 0) Collect
asks_making e = refl

asks_new : AsksIn (first_seat (run_both making begin)) (run_both making begin).1 (StoreRoot 3 1) (New 3 7)
asks_new = ((Idle, refl, idle_goes_on), (refl, refl, refl, refl))

-- what the register got is the reference to the object itself
followed_is : (meaning_of (run_both (by 0 (StoreRoot 3 1) (New 3 7) ∷ by 0 (StoreField 3 0 (Some 3)) (Set 3 0 3) ∷ by 0 (ReadOwn 0 0) Collect ∷ []) (run_both making begin)).1 0).got ≡ Own 0
followed_is = refl

-- a newcomer has noted nothing
fresh_newcomer : IsFresh small [] 1 (newcomer small [] 1)
fresh_newcomer = record { shape = refl; state = refl; log = refl; known = refl; floors = refl; plan_is = refl; own = refl; joined = refl; logs = refl }

-- a view with a note, or with a floor, is no newcomer's, even if the word says what was noted
fresh_noted : IsFresh small [] 1 (record (newcomer small [] 1) { known = (the_phase, Some 0) ∷ [] }) → ⊥
fresh_noted k = let e : (the_phase, Some 0) ∷ [] ≡ [] = k.known in cc

fresh_floored : IsFresh small [] 1 (record (newcomer small [] 1) { floors = (the_next_card, Some 0) ∷ [] }) → ⊥
fresh_floored k = let e : (the_next_card, Some 0) ∷ [] ≡ [] = k.floors in cc
