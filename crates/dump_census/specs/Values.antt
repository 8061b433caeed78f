-- How often each value occurs.
use Rattle.std.specs.Prelude.{ℕ, suc, ◌≡◌, ◌<◌, ◌≤◌, ◌+◌, ◌-◌, List, [], ◌∷◌, ◌++◌, length, get_or, slice_set, count_by, ◌==◌, ◌&&◌, nat_lt, if◌then◌else◌}
use Rattle.std.specs.List.Sorted.{IsPermutation}
use Rattle.dump_census.specs.declared.counts.ValueCount.{ValueCount}

-- the i-th value with its count, or zeros past the end
abbrev pub value_count_at : List ValueCount → ℕ → ValueCount
value_count_at vs i = get_or vs i (record { value = 0; count = 0 })

-- how many of these values are v
abbrev pub occurrences : List ℕ → ℕ → ℕ
occurrences values v = count_by (λ x. x == v) values

-- each value that occurs, once, and how often; by value
pub record AreValueCounts (values : List ℕ) (vs : List ValueCount) : Type 0 where
  pub rising : (i : ℕ) → suc i < length vs → (value_count_at vs i).value < (value_count_at vs (suc i)).value
  pub counted : (i : ℕ) → i < length vs → ((value_count_at vs i).count ≡ occurrences values (value_count_at vs i).value) × (0 < (value_count_at vs i).count)
  pub each : (v : ℕ) → 0 < occurrences values v → (i : ℕ) × (i < length vs) × ((value_count_at vs i).value ≡ v)

-- none is below one before it
abbrev pub IsRising : List ℕ → Type 0
IsRising xs = (i j : ℕ) → i ≤ j → j < length xs → get_or xs i 0 ≤ get_or xs j 0

-- sorted has each of the values as often as values has it, and is in rising order
abbrev pub IsSortedOf : List ℕ → List ℕ → Type 0
IsSortedOf values sorted = IsPermutation values sorted × IsRising sorted

-- one more value, which is no less than those counted before
abbrev pub count_value : List ValueCount → ℕ → List ValueCount
count_value vs v =
    let last = length vs - 1 in
    if nat_lt 0 (length vs) && ((value_count_at vs last).value == v) then slice_set vs last (record { value = v; count = (value_count_at vs last).count + 1 })
    else vs ++ record { value = v; count = 1 } ∷ []
