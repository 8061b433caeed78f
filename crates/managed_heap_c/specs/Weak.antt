-- What an export answers for a weak reference.
use Rattle.std.specs.Prelude.{ℕ, ◌≡◌, Result, Ok, Err}
use Rattle.seat_turns.specs.Weak.{TakesWeakIn}
use Rattle.seat_turns.specs.declared.weak.Weak.{Weak}
use Rattle.seat_steps.specs.declared.came.Came.{Came}
use Rattle.seat_steps.specs.declared.came.Came.TheVariants as cames
use Rattle.seat_steps.specs.Acting.{IsVariable, StepperActs}
use Rattle.seat_steps.specs.Weak.{HasNoWeak}
use Rattle.seat_steps.specs.declared.stepper.Stepper.{Stepper}

-- what asking for a weak reference came to, by what the variable of C was and is: it is written, or nothing is
abbrev pub WeaksTo : ℕ → Weak → Weak → Came → Stepper → Stepper → Type 0
WeaksTo v before after cames.Done x y = StepperActs (IsVariable v) 4 (TakesWeakIn x.name v after) x y
WeaksTo v before after came x y = HasNoWeak came v x y × (after ≡ before)

-- the weak reference was written, or there is none and nothing is written
abbrev pub WritesWeak : Came → Result Weak Came → Weak → Weak → Type 0
WritesWeak came (Ok weak) before after = (came ≡ cames.Done) × (after ≡ weak)
WritesWeak came (Err why) before after = (came ≡ why) × (after ≡ before)
