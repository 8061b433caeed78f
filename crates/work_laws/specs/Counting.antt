-- How often the events of a run are of one sort, each judged in the state in which it comes.
use Rattle.std.specs.Prelude.{ℕ, ◌+◌, List, [], ◌∷◌, Bool, Option, None, Some, is_none, if◌then◌else◌, slice_get}
use Rattle.mark_core.specs.Steps.{Core, failing_part, after_event}
use Rattle.mark_core.specs.declared.kinds.Event.{Event}
use Rattle.mark_core.specs.declared.kinds.Step.{Step}
use Rattle.mark_core.specs.declared.seat.SeatState.{SeatState}

-- a sort of steps: in this state a seat with this record takes such a step
abbrev pub Sort : Type 0
Sort = Core → SeatState → Step → Bool

-- 1 for a step of the sort, if the seat's record was looked up, and 0 for any other
abbrev pub one_of : Sort → Core → Option SeatState → Step → ℕ
one_of sort c None step = 0
one_of sort c (Some s) step = if sort c s step then 1 else 0

-- the sum of what each event comes to in its turn, up to the first that isn't allowed
abbrev pub sum_events : (Core → Event → ℕ) → List Event → Core → ℕ
sum_events cost [] c = 0
sum_events cost (e ∷ es) c = if is_none (failing_part c e) then cost c e + sum_events cost es (after_event c e) else 0

-- 1 for an event of the sort, and 0 for any other
abbrev pub one_in : Sort → Core → Event → ℕ
one_in sort c e = one_of sort c (slice_get c.seats e.seat) e.step

-- how many of these events are of the sort, up to the first that isn't allowed
abbrev pub count_events : Sort → List Event → Core → ℕ
count_events sort es c = sum_events (one_in sort) es c
