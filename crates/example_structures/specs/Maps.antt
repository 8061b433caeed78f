-- What a mutator did to a map, as its log tells.
use Rattle.std.specs.Prelude.{ℕ, ◌≡◌, ◌+◌, ◌==◌, ◌&&◌, ◌||◌, Bool, false, not, Some, nat_lt, if◌then◌else◌}
use Rattle.mark_core.specs.declared.kinds.Step.{Step}
use Rattle.mark_core.specs.declared.kinds.Step.TheVariants.{ExchangeField, StoreField}
use Rattle.example_structures.specs.Changes.{changes_of, count_of}
use Rattle.shared_heap.specs.declared.mutator.SharedMutator.{SharedMutator}

-- an exchange was won by which a chain of variable 20's row, that of variable 21, became that of variable 24
abbrev pub is_renewed : Step → Bool → Bool
is_renewed (ExchangeField v i (Some x) (Some y)) won = (x == 21) && (y == 24) && (v == 20) && won
is_renewed step won = false

-- the change is of an entry that is made, that of variable 26, or an exchange that was lost
abbrev pub is_made : Step → Bool → Bool
is_made (StoreField v i w) won = v == 26
is_made (ExchangeField v i x y) won = not won
is_made step won = false

-- any other change
abbrev pub is_unlike : Step → Bool → Bool
is_unlike step won = not (is_renewed step won || is_made step won)

-- this many chains were renewed, and no object was changed but entries that were made
pub record Renews (count : ℕ) (x y : SharedMutator) : Type 0 where
  pub renewed : count_of is_renewed (changes_of y) ≡ count_of is_renewed (changes_of x) + count
  pub others : count_of is_unlike (changes_of y) ≡ count_of is_unlike (changes_of x)

-- how many references the objects of a map want with this many rows and chains
abbrev pub width_of : ℕ → ℕ → ℕ
width_of rows chains = let greater : ℕ = if nat_lt rows chains then chains else rows in if nat_lt greater 2 then 2 else greater
