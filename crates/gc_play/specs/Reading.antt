-- What was read of a source.
use Rattle.std.specs.Prelude.{ℕ, ◌≡◌, ◌<◌, ◌≤◌, ◌⊎◌, List, [], ◌++◌, length, Option, Some, Result, Ok, Err, Vec}
use Rattle.std.specs.Io.KnownBytes.{Consumes, IsAtEnd}
use Rattle.play_report.specs.Causes.{Rose}
use Rattle.gc_play.specs.declared.source.Unread.{Unread}
use Rattle.gc_play.specs.declared.source.Unread.TheVariants as unread

-- at most this many bytes were taken
abbrev pub TakesAtMost : ℕ → Option (List ℕ) → Option (List ℕ) → Type 0
TakesAtMost most old new = (taken : List ℕ) × Consumes old new taken × (length taken ≤ most)

-- these bytes were taken: all there are, or as many as decide and no more
abbrev pub ReadsEnough : {Z : Type 0} → ℕ → Result (Vec ℕ Z) Unread → Option (List ℕ) → Option (List ℕ) → ℕ → ℕ → Type 0
ReadsEnough enough (Ok bytes) old new before now = Consumes old new bytes.items × (IsAtEnd new ⊎ (enough ≤ length bytes.items)) × (length bytes.items ≤ enough) × (now ≡ before)
ReadsEnough enough (Err unread.Failed) old new before now = Rose before now
ReadsEnough enough (Err unread.Memory) old new before now = now ≡ before

-- if the bytes are fewer than decide, nothing is left of them, and else just as many as decide were taken
pub record IsSpent (enough : ℕ) (bytes : List ℕ) (left : Option (List ℕ)) : Type 0 where
  pub short : length bytes < enough → left ≡ Some []
  pub long : enough ≤ length bytes → (taken : List ℕ) × (rest : List ℕ) × (bytes ≡ taken ++ rest) × (length taken ≡ enough) × (left ≡ Some rest)
