-- The steps that a seat takes in a loop.
use Rattle.std.specs.Prelude.{ℕ, zero, suc, ◌≡◌, ◌%◌, List, [], ◌∷◌, ◌++◌, map}
use Rattle.mark_core.specs.declared.kinds.Step.{Step}
use Rattle.mark_core.specs.declared.kinds.Step.TheVariants.{ReadCount, ReadCard, DirtyCard, Reserve, Credit}
use Rattle.gc_table.specs.declared.view.Entry.{Entry}
use Rattle.gc_table.specs.declared.view.View.{View}
use Rattle.gc_table.specs.declared.seat.HeapSeat.{HeapSeat}
use Rattle.gc_table.specs.Seats.{view_of}
use Rattle.bench_steps.specs.Records.{cards_in_all}

-- all steps that a view tells of, in order
abbrev pub steps_in : View → List Step
steps_in v = map (λ (e : Entry). e.step) v.log

-- the steps of n rounds, of which each has its steps by its number
abbrev pub rounds_of : (ℕ → List Step) → ℕ → List Step
rounds_of f zero = []
rounds_of f (suc n) = rounds_of f n ++ f n

-- between the one state of the seat and the other it took this step, and no other
abbrev pub TakesOne : Step → HeapSeat → HeapSeat → Type 0
TakesOne step x y = steps_in (view_of y) ≡ steps_in (view_of x) ++ step ∷ []

-- between the one state of the seat and the other it took the steps of n rounds, and no other
abbrev pub TakesRounds : (ℕ → List Step) → ℕ → HeapSeat → HeapSeat → Type 0
TakesRounds f n x y = steps_in (view_of y) ≡ steps_in (view_of x) ++ rounds_of f n

-- a round of each loop
abbrev pub a_load : ℕ → List Step
a_load n = ReadCount ∷ []

-- round n of looking: one read of a card, of 256 in turn
abbrev pub a_look : ℕ → List Step
a_look n = ReadCard (n % cards_in_all) ∷ []

-- round n of storing: one card is dirtied, of 256 in turn
abbrev pub a_store : ℕ → List Step
a_store n = DirtyCard (n % cards_in_all) ∷ []

-- a round of two steps: a packet is reserved, and the reservation goes back
abbrev pub a_pair : ℕ → List Step
a_pair n = Reserve ∷ Credit ∷ []
