-- What was read of a source.
use Rattle.std.specs.Prelude.{ℕ, ◌≡◌, ◌⊎◌, List, length, Option, Result, Ok, Err, Vec}
use Rattle.std.specs.Io.KnownBytes.{Consumes, IsAtEnd}
use Rattle.play_report.specs.Causes.{Rose}
use Rattle.schedule_states.specs.declared.source.Unread.{Unread}
use Rattle.schedule_states.specs.declared.source.Unread.TheVariants as unread

-- these bytes were taken: all there are, or one more than a schedule may have
abbrev pub ReadsAll : {Z : Type 0} → Result (Vec ℕ Z) Unread → Option (List ℕ) → Option (List ℕ) → ℕ → ℕ → Type 0
ReadsAll (Ok bytes) old new before now = Consumes old new bytes.items × (IsAtEnd new ⊎ (length bytes.items ≡ 4194305)) × (now ≡ before)
ReadsAll (Err unread.Failed) old new before now = Rose before now
ReadsAll (Err unread.Memory) old new before now = now ≡ before
