-- What a job is: its number, and the script that it plays.
use Rattle.std.specs.Prelude.{◌≡◌, ℕ, ◌+◌, List, [], ◌∷◌}
use Rattle.std.specs.Bool.{⊤}

-- a job, counted from 0
pub record Scripted : Type 0 where
  pub number : ℕ
  pub script : List ℕ

-- a job with this number and script
abbrev pub scripted : ℕ → List ℕ → Scripted
scripted number script = record { number = number; script = script }

-- the jobs have the numbers from this one on, in order
abbrev pub AreNumbered : ℕ → List Scripted → Type 0
AreNumbered next [] = ⊤
AreNumbered next (j ∷ js) = (j.number ≡ next) × AreNumbered (next + 1) js
