-- Notes of words: a list of pairs, read as a function. The first pair for a place counts, and a pair may say that the note has ended.
use Rattle.std.specs.Prelude.{ℕ, Bool, List, [], ◌∷◌, map, if◌then◌else◌, Option, Some, None}
use Rattle.mark_core.specs.Notes.{same_place}

-- places, by region and index, each with a number or nothing
abbrev pub Notes : Type 0
Notes = List ((ℕ × ℕ) × Option ℕ)

-- what is noted of a place
abbrev pub look : ℕ × ℕ → Notes → Option ℕ
look at [] = None
look at (x ∷ xs) = if same_place x.0 at then x.1 else look at xs

-- the note, if it may be kept
abbrev pub if_kept : (ℕ × ℕ → ℕ → Bool) → ℕ × ℕ → Option ℕ → Option ℕ
if_kept keeps at None = None
if_kept keeps at (Some n) = if keeps at n then Some n else None

-- the notes that may be kept, with a new one
abbrev pub noting : (ℕ × ℕ → ℕ → Bool) → ℕ × ℕ → ℕ → Notes → Notes
noting keeps at n xs = map (λ x. (x.0, if_kept keeps x.0 x.1)) ((at, Some n) ∷ xs)
