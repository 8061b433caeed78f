-- A mutator of a heap whose objects are shared: what it is between two calls, and which steps a call takes.
use Rattle.std.specs.Prelude.{ℕ, Bool, ◌≡◌, ◌+◌, ◌*◌, ◌-◌, ◌==◌, if◌then◌else◌, List, [], ◌∷◌, ◌++◌, length, None, Some, IsTrue, IsFalse, slice_set}
use Rattle.mark_core.specs.Bits.{reference_in, with_bit}
use Rattle.mark_core.specs.Numbers.{section_span}
use Rattle.mark_core.specs.Seats.{has_making, work_in_hand}
use Rattle.mark_core.specs.Steps.MutatorSteps.{seat_variable as word_in}
use Rattle.mark_core.specs.declared.kinds.Step.{Step}
use Rattle.mark_core.specs.declared.kinds.Step.TheVariants.{HoldRoot, ReadCat, ReadOwn, ReadSlot, StoreValue}
use Rattle.mark_core.specs.declared.seat.SeatState.{SeatState}
use Rattle.plain_heap.specs.PlainStep.{heap_after}
use Rattle.plain_heap.specs.declared.operation.Op.TheVariants as ops
use Rattle.alloc_cache.specs.Making.{making_steps, with_cell}
use Rattle.gc_table.specs.PlainSteps.{own_section}
use Rattle.gc_table.specs.declared.view.View.{View}
use Rattle.gc_table.specs.Log.{event, events, steps_of}
use Rattle.gc_table.specs.Running.{Ran}
use Rattle.card_clean.specs.Barrier.{MayStore, barrier_steps, was_dirty}

-- the heap's objects are shared; the seat may store, has nothing in hand, makes no cell, has nothing in its register, and each cell that it made has its object
pub record SharesReady (v : View) : Type 0 where
  pub shared : IsTrue v.shape.sharing
  pub stores : MayStore v
  pub idle : IsFalse (work_in_hand v.shape.fields v.state)
  pub whole : IsFalse (has_making v.state.cache)
  pub register : v.state.got ≡ 0
  pub counted : length v.own.meaning.heap.objects ≡ v.state.made

-- these steps were taken, in this order, and nothing else; the seat's record is as it was
pub record TakesSteps (steps : List Step) (v w : View) : Type 0 where
  pub ran : Ran v w
  pub steps_are : steps_of (events v w) ≡ steps
  pub state : w.state ≡ v.state

-- the steps of a store in variable u's object: none if the variable is nil
abbrev pub setting_steps : SeatState → ℕ → ℕ → ℕ → Bool → List Step
setting_steps s u i w dirty = if word_in s u == 0 then [] else barrier_steps s u i (Some w) dirty

-- the record with this word in variable u, whose root lags
abbrev pub holding : SeatState → ℕ → ℕ → SeatState
holding s u r = record s { env = slice_set s.env u r; lags = with_bit s.lags u }

-- field i of variable u's object became what variable w is: these steps were taken, by whether the card was found dirty
abbrev pub SetsField : ℕ → ℕ → ℕ → View → View → Type 0
SetsField u i w v x = TakesSteps (setting_steps v.state u i w (was_dirty (events v x))) v x

-- variable u became what field i of variable w's object was found to be, by one read; w isn't nil. Its root, which has the old word, lags
pub record FollowsFound (u w i : ℕ) (v x : View) : Type 0 where
  pub ran : Ran v x
  pub found : ℕ
  pub old : ℕ
  pub events_are : events v x ≡ event (ReadOwn (word_in v.state w - 1) i) found ∷ event (HoldRoot u (reference_in found)) old ∷ []
  pub state : x.state ≡ holding v.state u (reference_in found)

-- the step of a store of a value in variable u's object: none if the variable is nil
abbrev pub putting_steps : SeatState → ℕ → ℕ → List Step
putting_steps s u n = if word_in s u == 0 then [] else StoreValue u n ∷ []

-- variable u became this word, by one step. Its root, which has the old word, lags
pub record SetsVariable (u r : ℕ) (v x : View) : Type 0 where
  pub ran : Ran v x
  pub old : ℕ
  pub events_are : events v x ≡ event (HoldRoot u r) old ∷ []
  pub state : x.state ≡ holding v.state u (reference_in r)

-- variable u became what variable c of section 0 was found to be, by one read. Its root, which has the old word, lags
pub record LendsFound (u c : ℕ) (v x : View) : Type 0 where
  pub ran : Ran v x
  pub found : ℕ
  pub old : ℕ
  pub events_are : events v x ≡ event (ReadCat c) found ∷ event (HoldRoot u (reference_in found)) old ∷ []
  pub state : x.state ≡ holding v.state u (reference_in found)

-- the identity of the seat's next object, as a word
abbrev pub next_word : SeatState → ℕ
next_word s = own_section s * section_span + s.made

-- an object was made in this cell with this value, and variable u refers to it; its root lags
pub record ShareCreates (u n cell : ℕ) (v w : View) : Type 0 where
  pub ran : Ran v w
  pub steps_are : steps_of (events v w) ≡ making_steps v.shape.fields cell n (next_word v.state) ++ HoldRoot u (cell + 1) ∷ []
  pub state : w.state ≡ holding (with_cell v.state cell) u (reference_in (cell + 1))
  -- what the seat keeps of its own section counts one more
  pub heap : w.own.meaning.heap ≡ heap_after v.own.meaning.heap None (ops.New u n)
  pub seasons : w.own.seasons ≡ v.own.seasons

-- variable u became what slot k was found to be, by one read. Its root, which has the old word, lags
pub record FillsFound (u k : ℕ) (v x : View) : Type 0 where
  pub ran : Ran v x
  pub found : ℕ
  pub old : ℕ
  pub events_are : events v x ≡ event (ReadSlot k) found ∷ event (HoldRoot u (reference_in found)) old ∷ []
  pub state : x.state ≡ holding v.state u (reference_in found)
