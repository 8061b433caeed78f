-- What a mutator changed of the objects of its world, as its log tells.
use Rattle.std.specs.Prelude.{ℕ, ◌≡◌, ◌+◌, ◌==◌, ◌++◌, ◌∷◌, [], List, Bool, true, if◌then◌else◌, Option, Some, None}
use Rattle.mark_core.specs.declared.kinds.Step.{Step}
use Rattle.mark_core.specs.declared.kinds.Step.TheVariants.{ExchangeField, ExchangeValue, StoreField, StoreRoot, StoreValue, HoldRoot}
use Rattle.mark_core.specs.Steps.MutatorSteps.{seat_variable as word_in}
use Rattle.gc_table.specs.Seats.{state_of, view_of}
use Rattle.gc_table.specs.declared.view.Entry.{Entry}
use Rattle.shared_heap.specs.declared.mutator.SharedMutator.{SharedMutator}

-- a step that stores or exchanges a reference or a value of an object, and whether it took place: an exchange does if it found what it expected
pub record Change : Type 0 where
  pub step : Step
  pub won : Bool

-- the words of the variables after a step, by what they were before it
abbrev pub words_after : (ℕ → ℕ) → Step → ℕ → ℕ
words_after words (StoreRoot v r) u = if u == v then r else words u
words_after words (HoldRoot v r) u = if u == v then r else words u
words_after words step u = words u

-- the word of this variable, or of none
abbrev pub word_of : (ℕ → ℕ) → Option ℕ → ℕ
word_of words (Some v) = words v
word_of words None = 0

-- what a step that found n changed
abbrev pub changed_by : (ℕ → ℕ) → Step → ℕ → List Change
changed_by words (StoreField v i w) n = record { step = StoreField v i w; won = true } ∷ []
changed_by words (StoreValue v m) n = record { step = StoreValue v m; won = true } ∷ []
changed_by words (ExchangeField v i x y) n = record { step = ExchangeField v i x y; won = n == word_of words x } ∷ []
changed_by words (ExchangeValue v m k) n = record { step = ExchangeValue v m k; won = n == m } ∷ []
changed_by words step n = []

-- the words after these events, and what these changed, in order
abbrev pub words_by : (ℕ → ℕ) → List Entry → ℕ → ℕ
words_by words [] = words
words_by words (e ∷ es) = words_by (words_after words e.step) es

abbrev pub changed_in : (ℕ → ℕ) → List Entry → List Change
changed_in words [] = []
changed_in words (e ∷ es) = changed_by words e.step e.found ++ changed_in (words_after words e.step) es

-- the variables before all, which refer to nothing
abbrev pub no_words : ℕ → ℕ
no_words u = 0

-- all that the mutator changed so far of objects, its new ones too
unfoldable pub changes_of : SharedMutator → List Change
changes_of m = changed_in no_words (view_of m.seat).log

-- the word that it stored last in variable u
unfoldable pub told_of : SharedMutator → ℕ → ℕ
told_of m = words_by no_words (view_of m.seat).log

-- the mutator's log tells what variable u refers to
abbrev pub IsTold : ℕ → SharedMutator → Type 0
IsTold u m = told_of m u ≡ word_in (state_of m.seat) u

-- the mutator changed nothing of any object
abbrev pub ChangesNone : SharedMutator → SharedMutator → Type 0
ChangesNone x y = changes_of y ≡ changes_of x

-- how many changes are of this sort
abbrev pub count_of : (Step → Bool → Bool) → List Change → ℕ
count_of P [] = 0
count_of P (c ∷ cs) = (if P c.step c.won then 1 else 0) + count_of P cs
