-- What a mutator did to a queue, as its log tells.
use Rattle.std.specs.Prelude.{ℕ, ◌≡◌, ◌+◌, ◌==◌, ◌&&◌, ◌||◌, Bool, false, not, Option, None, Some}
use Rattle.mark_core.specs.declared.kinds.Step.{Step}
use Rattle.mark_core.specs.declared.kinds.Step.TheVariants.{ExchangeField, StoreField}
use Rattle.example_structures.specs.Changes.{changes_of, count_of}
use Rattle.shared_heap.specs.declared.mutator.SharedMutator.{SharedMutator}

-- an exchange was won by which the node of variable 20 came behind that of variable 22, behind which there was none
abbrev pub is_put : Step → Bool → Bool
is_put (ExchangeField v i (Some x) (Some y)) won = (x == 21) && (y == 20) && (v == 22) && (i == 0) && won
is_put step won = false

-- an exchange was won by which the first node of variable q's queue, that of variable 21, was followed by that of variable 23
abbrev pub is_taking : ℕ → Step → Bool → Bool
is_taking q (ExchangeField v i (Some x) (Some y)) won = (x == 21) && (y == 23) && (i == 0) && (v == q) && won
is_taking q step won = false

-- the change is of what a node keeps beside its number, of the queue's last, or an exchange that was lost
abbrev pub is_beside : ℕ → Step → Bool → Bool
is_beside q (StoreField v i w) won = (i == 1) && ((v == 20) || (v == 23))
is_beside q (ExchangeField v i x y) won = not won || ((i == 1) && (v == q))
is_beside q step won = false

-- any other change
abbrev pub is_other : ℕ → Step → Bool → Bool
is_other q step won = not (is_put step won || is_taking q step won || is_beside q step won)

-- this many nodes were put in, and this many taken out of variable q's queue; nothing else was changed but what is beside
pub record Moves (q puts takes : ℕ) (x y : SharedMutator) : Type 0 where
  pub put : count_of is_put (changes_of y) ≡ count_of is_put (changes_of x) + puts
  pub taken : count_of (is_taking q) (changes_of y) ≡ count_of (is_taking q) (changes_of x) + takes
  pub others : count_of (is_other q) (changes_of y) ≡ count_of (is_other q) (changes_of x)

-- how many a call took that answers this
abbrev pub taken_by : Option ℕ → ℕ
taken_by None = 0
taken_by (Some n) = 1
