-- The search for levels: the records whose level is new, in rounds.
use Rattle.std.specs.Prelude.{ℕ, zero, suc, ◌≡◌, ◌<◌, ◌≤◌, ◌+◌, List, [], ◌∷◌, ◌++◌, length, get_or, Option, Some, None, Bool, true, false, if◌then◌else◌, slice_set, count_by, ◌==◌}
use Rattle.std.specs.List.{fold}
use Rattle.heap_dump.specs.Final.{DumpedHeap, object}
use Rattle.dump_census.specs.Levels.{HasPath}

-- the level of each record, as far as it is known, and the records that were found last
pub record Progress : Type 0 where
  pub found : List (Option ℕ)
  pub fresh : List ℕ

-- the test of a record's level
abbrev pub is_at : ℕ → Option ℕ → Bool
is_at level None = false
is_at level (Some n) = n == level

-- no level is known
abbrev pub is_unknown : Option ℕ → Bool
is_unknown None = true
is_unknown (Some n) = false

-- the record that a reference names gets the level if it has none
abbrev pub reach : ℕ → Progress → ℕ → Progress
reach level s zero = s
reach level s (suc k) =
    if is_unknown (get_or s.found k None) then record { found = slice_set s.found k (Some level); fresh = s.fresh ++ k ∷ [] } else s

-- one reference after the other
abbrev pub reach_all : ℕ → Progress → List ℕ → Progress
reach_all level s references = fold (reach level) s references

-- all references of these records
abbrev pub reach_from : DumpedHeap → ℕ → Progress → List ℕ → Progress
reach_from h level s records = fold (λ t k. reach_all level t (object h k).refs) s records

-- a search among the records of a heap: each level below `known` is final, and the fresh records are those of the last level
pub record IsSearch (h : DumpedHeap) (level known : ℕ) (s : Progress) : Type 0 where
  pub long : length s.found ≡ length h.records
  pub sound : (k n : ℕ) → get_or s.found k None ≡ Some n → HasPath h n k × (n ≤ level)
  pub complete : (k n : ℕ) → n < known → HasPath h n k → (least : ℕ) × (least ≤ n) × (get_or s.found k None ≡ Some least)
  pub listed : (k : ℕ) → get_or s.found k None ≡ Some level → (i : ℕ) × (i < length s.fresh) × (get_or s.fresh i 0 ≡ k)
  pub fresh : (i : ℕ) → i < length s.fresh → get_or s.found (get_or s.fresh i 0) None ≡ Some level
  pub counted : length s.fresh ≡ count_by (is_at level) s.found

-- how many records each level has, from level 0 on, up to the greatest
abbrev pub AreCounts : List (Option ℕ) → List ℕ → Type 0
AreCounts found counts = (n : ℕ) → n < length counts → (get_or counts n 0 ≡ count_by (is_at n) found) × (0 < get_or counts n 0)

-- a search whose levels before the last are counted
pub record IsLeveling (h : DumpedHeap) (s : Progress) (counts : List ℕ) : Type 0 where
  pub search : IsSearch h (length counts) (suc (length counts)) s
  pub counted : AreCounts s.found counts
  pub few : length counts + (count_by is_unknown s.found + length s.fresh) ≤ length h.records
