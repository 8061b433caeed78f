-- What is written of events in their turns.
use Rattle.std.specs.Prelude.{ℕ, List, [], ◌∷◌, ◌++◌, Option, None, Some, slice_get, codes}
use Rattle.mark_core.specs.Effects.{place}
use Rattle.mark_core.specs.Kinds.{kind_of}
use Rattle.mark_core.specs.Layout.{address}
use Rattle.mark_core.specs.Steps.{Core, failing_part, after_event}
use Rattle.mark_core.specs.declared.kinds.Event.{Event}
use Rattle.mark_core.specs.declared.kinds.Step.{Step}
use Rattle.mark_core.specs.declared.seat.SeatState.{SeatState}
use Rattle.schedule_check.specs.declared.line.Line.{Line}
use Rattle.schedule_states.specs.Rows.{row_text}
use Rattle.schedule_states.specs.States.{state_text}
use Rattle.schedule_states.specs.declared.turns.Ended.{Ended}
use Rattle.schedule_states.specs.declared.turns.Ended.TheVariants.{Accepted, Refused}

-- the index of the word of a step, if the seat's record was looked up
abbrev pub place_of : Core → Option SeatState → Step → ℕ
place_of c None step = 0
place_of c (Some s) step = address c.shape (place c.shape s step)

-- the index of the word on which the event acts
abbrev pub place_in : Core → Event → ℕ
place_in c e = place_of c (slice_get c.seats e.seat) e.step

-- an event: its line, the word on which it acted, and the state after it
abbrev pub event_text : ℕ → ℕ → Core → List ℕ
event_text line at after = row_text (codes "event") (line ∷ at ∷ []) ++ state_text after

-- the line of the event that isn't allowed, the kind of its step, and the part of the condition that fails
abbrev pub refused_row : ℕ → ℕ → ℕ → List ℕ
refused_row line kind part = row_text (codes "refused") (line ∷ kind ∷ part ∷ [])

-- what is written of an event, by the part of its condition that fails
abbrev pub text_by : Core → Line → Option ℕ → List ℕ
text_by c l None = event_text l.line (place_in c l.event) (after_event c l.event)
text_by c l (Some part) = refused_row l.line (kind_of l.event.step) part

-- what is written of an event in this state
abbrev pub turn_text : Core → Line → List ℕ
turn_text c l = text_by c l (failing_part c l.event)

-- how an event ends, by the part of its condition that fails
abbrev pub ends_by : Option ℕ → Ended
ends_by None = Accepted
ends_by (Some part) = Refused

-- how an event in this state ends
abbrev pub turn_ends : Core → Line → Ended
turn_ends c l = ends_by (failing_part c l.event)

-- what follows an event that ended like this
abbrev pub then_text : Ended → List ℕ → List ℕ
then_text Accepted rest = rest
then_text Refused rest = []

-- how what follows it ends
abbrev pub then_ends : Ended → Ended → Ended
then_ends Accepted rest = rest
then_ends Refused rest = Refused

-- what is written of these lines' events from this state on: each event and the state after it, up to the first that isn't allowed, which is told
abbrev pub turns_text : List Line → Core → List ℕ
turns_text [] c = row_text (codes "accepted") []
turns_text (l ∷ ls) c = turn_text c l ++ then_text (turn_ends c l) (turns_text ls (after_event c l.event))

-- how they end
abbrev pub turns_end : List Line → Core → Ended
turns_end [] c = Accepted
turns_end (l ∷ ls) c = then_ends (turn_ends c l) (turns_end ls (after_event c l.event))
