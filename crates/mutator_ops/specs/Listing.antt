-- Which steps a command takes, in order: by the record before it, and by what it found.
use Rattle.std.specs.Prelude.{ℕ, ◌+◌, ◌-◌, ◌==◌, if◌then◌else◌, List, [], ◌∷◌, ◌++◌}
use Rattle.mark_core.specs.Bits.{reference_in}
use Rattle.mark_core.specs.Steps.MutatorSteps.{seat_variable as word_in}
use Rattle.mark_core.specs.declared.kinds.Step.{Step}
use Rattle.mark_core.specs.declared.kinds.Step.TheVariants.{ReadCat, ReadIdent, ReadOwn, ReadValue, StoreRoot}
use Rattle.mark_core.specs.declared.seat.SeatState.{SeatState}
use Rattle.alloc_cache.specs.Making.{making_steps}
use Rattle.gc_table.specs.declared.view.Entry.{Entry}
use Rattle.gc_table.specs.Log.{event}
use Rattle.mutator_ops.specs.Sharing.{next_word}
use Rattle.mutator_ops.specs.declared.objects.Holds.{Holds}
use Rattle.mutator_ops.specs.declared.objects.Holds.TheVariants.{LentObject, Nothing, OwnObject}

-- variable u becomes field i of variable w's object, as it was found; if w is nil, nothing is read
abbrev pub following_events : SeatState → ℕ → ℕ → ℕ → ℕ → List Entry
following_events s u w i found =
    if word_in s w == 0 then event (StoreRoot u 0) 0 ∷ []
    else event (ReadOwn (word_in s w - 1) i) found ∷ event (StoreRoot u (reference_in found)) (reference_in found) ∷ []

-- variable u becomes what variable c of the catalogue was found to be
abbrev pub lending_events : ℕ → ℕ → ℕ → List Entry
lending_events u c found = event (ReadCat c) found ∷ event (StoreRoot u (reference_in found)) (reference_in found) ∷ []

-- the value of variable u's object is read, if there is one
abbrev pub saying_steps : SeatState → ℕ → List Step
saying_steps s u = if word_in s u == 0 then [] else ReadValue (word_in s u - 1) ∷ []

-- the object in this cell is asked whose it is, and these steps are taken if it is of the own section
abbrev pub storing_steps : Holds → ℕ → List Step → List Step
storing_steps Nothing cell steps = []
storing_steps OwnObject cell steps = ReadIdent cell ∷ steps
storing_steps LentObject cell steps = ReadIdent cell ∷ []

-- the words of a new object are stored, and then variable u, which refers to it
abbrev pub creating_steps : ℕ → SeatState → ℕ → ℕ → ℕ → List Step
creating_steps fields s u n cell = making_steps fields cell n (next_word s) ++ StoreRoot u (cell + 1) ∷ []
