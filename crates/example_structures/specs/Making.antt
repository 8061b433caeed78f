-- What a mutator did to a structure that it makes, as its log tells.
use Rattle.std.specs.Prelude.{ℕ, ◌≡◌, ◌+◌, ◌==◌, ◌&&◌, Bool, false, not, Some}
use Rattle.mark_core.specs.declared.kinds.Step.{Step}
use Rattle.mark_core.specs.declared.kinds.Step.TheVariants.{StoreField}
use Rattle.example_structures.specs.Changes.{changes_of, count_of}
use Rattle.shared_heap.specs.declared.mutator.SharedMutator.{SharedMutator}

-- a reference of variable v's object became what variable 20 refers to
abbrev pub is_laid : ℕ → Step → Bool → Bool
is_laid v (StoreField u i (Some w)) won = (u == v) && (w == 20)
is_laid v step won = false

-- any other change
abbrev pub is_not_laid : ℕ → Step → Bool → Bool
is_not_laid v step won = not (is_laid v step won)

-- this many references of variable v's object were laid, and nothing else was changed
pub record Lays (v count : ℕ) (x y : SharedMutator) : Type 0 where
  pub laid : count_of (is_laid v) (changes_of y) ≡ count_of (is_laid v) (changes_of x) + count
  pub others : count_of (is_not_laid v) (changes_of y) ≡ count_of (is_not_laid v) (changes_of x)
