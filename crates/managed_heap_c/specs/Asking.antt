-- What an export answers that asks of variables.
use Rattle.std.specs.Prelude.{ℕ, ◌≡◌, ◌⊎◌, Bool, true, false, Result, Ok, Err}
use Rattle.plain_heap.specs.declared.operation.Op.{Op}
use Rattle.seat_steps.specs.Doing.{RefersToNothing, RefersToOne}
use Rattle.seat_steps.specs.declared.came.Came.{Came}
use Rattle.seat_steps.specs.declared.came.Came.TheVariants as cames
use Rattle.seat_steps.specs.Asking.{DeclinesToTell, MayAsk}
use Rattle.seat_steps.specs.Stepping.{shares}
use Rattle.seat_steps.specs.Waiting.{is_stopping_at}
use Rattle.seat_steps.specs.declared.stepper.Stepper.{Stepper}

-- the variable refers to nothing
abbrev pub IsNil : ℕ → Stepper → Type 0
IsNil v s = RefersToNothing (shares s) v s.seat

-- the variables refer to one object, or both to nothing
abbrev pub AreOne : ℕ → ℕ → Stepper → Type 0
AreOne v w s = RefersToOne (shares s) v w s.seat

-- what is written for an answer
abbrev pub number_of_answer : Bool → ℕ
number_of_answer true = 1
number_of_answer false = 0

-- the answer was written, or there is none and nothing is written
abbrev pub WritesAnswer : Came → Result Bool Came → ℕ → ℕ → Type 0
WritesAnswer came (Ok told) before after = (came ≡ cames.Done) × (after ≡ number_of_answer told)
WritesAnswer came (Err why) before after = (came ≡ why) × (after ≡ before)

-- 1 if it is so, and 0 if it isn't
abbrev pub SaysWhether : Type 0 → ℕ → Type 0
SaysWhether P n = ((n ≡ 1) × P) ⊎ ((n ≡ 0) × (P → ⊥))

-- what asking came to, by what the variable of C was and is; the mutator is as it was
abbrev pub TestsTo : (Stepper → Type 0) → Op → ℕ → ℕ → Came → Stepper → Stepper → Type 0
TestsTo P op before after cames.Done x y = SaysWhether (P x) after × MayAsk op x × (y ≡ x)
TestsTo P op before after came x y = DeclinesToTell came op x × (y ≡ x) × (after ≡ before)

-- it is written whether the mutator waits for a stop that it asked for; the mutator is as it was
abbrev pub TellsStopping : ℕ → Came → Stepper → Stepper → Type 0
TellsStopping after came x y = (came ≡ cames.Done) × (y ≡ x) × (after ≡ number_of_answer (is_stopping_at x.stage))
