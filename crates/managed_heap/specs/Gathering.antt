-- The seats of what is handed in when a world is closed.
use Rattle.std.specs.Prelude.{ℕ, ◌≡◌, ◌+◌, ◌++◌, List, [], ◌∷◌, All, Some, length, slice_get}
use Rattle.gc_table.specs.Ends.{IsEnd}
use Rattle.gc_table.specs.Seats.{state_of, view_of}
use Rattle.gc_table.specs.declared.seat.Heap.{Heap}
use Rattle.gc_table.specs.declared.seat.HeapSeat.{HeapSeat}
use Rattle.gc_table.specs.declared.words.Words.{Words}
use Rattle.seat_turns.specs.declared.background.Tracer.{Tracer}

-- the seat of section 0 of a heap that was opened with a seat for each section and for this many tracers
pub record IsFirstSeat (h : Heap) (tracers : ℕ) (s : HeapSeat) : Type 0 where
  pub number : (state_of s).number ≡ 0
  pub opened : (view_of s).opened ≡ h.shape.sections + tracers

-- these have seats of this heap
abbrev pub AreOf : {X : Type 0} → (X → Heap) → Heap → List X → Type 0
AreOf heap_in h xs = All (λ x. heap_in x ≡ h) xs

-- the seats were left of these, one by one
abbrev pub AreLeft : {X : Type 0} → (X → HeapSeat → Type 0) → List X → List HeapSeat → Type 0
AreLeft L [] [] = Unit {0}
AreLeft L (x ∷ xs) (s ∷ ss) = L x s × AreLeft L xs ss
AreLeft L xs ss = ⊥

-- the seat was left of it, and kept its number
abbrev pub handed : {X : Type 0} → (X → HeapSeat) → (X → HeapSeat → Type 0) → X → HeapSeat → Type 0
handed seat_in L x s = L x s × ((state_of s).number ≡ (state_of (seat_in x)).number)

-- of all of these some are left to do, and the seats of the others stand behind those before
pub record Gathers {X : Type 0} (L : X → HeapSeat → Type 0) (all more : List X) (before seats : List HeapSeat) : Type 0 where
  pub front : List X
  pub parts : all ≡ front ++ more
  pub rest : List HeapSeat
  pub left : AreLeft L front rest
  pub seats_are : seats ≡ before ++ rest

-- the seats stand in the order of their numbers
abbrev pub AreInOrder : List HeapSeat → Type 0
AreInOrder xs = (i : ℕ) (s : HeapSeat) → slice_get xs i ≡ Some s → (state_of s).number ≡ i

-- these are so many, in the order of their numbers, the first of which is this
abbrev pub AreAll : {X : Type 0} → (X → HeapSeat) → ℕ → ℕ → List X → Type 0
AreAll {X} seat_in first count xs = (length xs ≡ count) × ((i : ℕ) (x : X) → slice_get xs i ≡ Some x → (state_of (seat_in x)).number ≡ first + i)

-- these are all mutators of the heap and all of so many tracers, each in the order of their numbers: those of the tracers come after those of the sections
pub record AreThere {X : Type 0} (seat_in : X → HeapSeat) (h : Heap) (tracers : ℕ) (ms : List X) (ts : List Tracer) : Type 0 where
  pub sections : length ms + 1 ≡ h.shape.sections
  pub mutators_are : AreAll seat_in 1 (length ms) ms
  pub tracers_are : AreAll (λ (t : Tracer). t.seat) h.shape.sections tracers ts

-- the seats of tracers, one by one
abbrev pub seats_of : List Tracer → List HeapSeat
seats_of [] = []
seats_of (t ∷ ts) = t.seat ∷ seats_of ts

-- the words are those in the end of one run, of which the log of section 0's seat is a part, the log of each mutator's, and that of each tracer's; nobody else
-- took part
pub record IsEndOf {X : Type 0} (L : X → HeapSeat → Type 0) (h : Heap) (zero : HeapSeat) (mutators : List X) (tracers : List Tracer) (w : Words) : Type 0 where
  pub rest : List HeapSeat
  pub left : AreLeft L mutators rest
  -- the seats of the tracers come after those of the sections
  pub workers : length mutators + 1 ≡ h.shape.sections
  pub ends : IsEnd h.shape (zero ∷ rest ++ seats_of tracers) w
  -- so the run has no event of a seat past these: `IsEnd.theirs`
  pub all : (view_of zero).opened ≡ length (zero ∷ rest ++ seats_of tracers)
