-- What a stepper waits for.
use Rattle.std.specs.Prelude.{Bool, true, false}
use Rattle.seat_steps.specs.declared.stepper.Stage.{Stage}
use Rattle.seat_steps.specs.declared.stepper.Stage.TheVariants.{Stopping}

-- it has asked for a stop, and hasn't begun to collect
abbrev pub is_stopping_at : Stage → Bool
is_stopping_at Stopping = true
is_stopping_at stage = false
