-- Small schedules and their faults, computed by the definitions.
use Rattle.std.proofs.Common.{◌≡◌, refl, codes, ℕ, ◌∷◌}
use Rattle.std.specs.Prelude.{Err, Ok, Some, None, [], false}
use Rattle.schedule_check.specs.Table.{step_of}
use Rattle.schedule_check.specs.Faults.{NotAscii, BadHeader, BadShape, BadEvent, TooManyEvents}
use Rattle.schedule_check.specs.Schedule.{schedule, events_from}
use Rattle.gc_script.specs.ScriptText.{words}
use Rattle.mark_core.specs.declared.kinds.Step.TheVariants.{Take, StoreField, NextSeason, EnterStep, StorePhase, ReadPhase, Reserve, ReadCount}
use Rattle.mark_core.specs.declared.kinds.Step.{Step}
use Rattle.mark_core.specs.declared.kinds.Phase.TheVariants.{Marking}
use Rattle.schedule_check.specs.declared.line.Line.{Line}

take_row : step_of (codes "take") (words (codes "0 7")) ≡ Some (Take 0 7)
take_row = refl

store_nil : step_of (codes "store_field") (words (codes "3 0 -")) ≡ Some (StoreField 3 0 None)
store_nil = refl

past_type : step_of (codes "take") (words (codes "256 0")) ≡ None
past_type = refl

last_row : step_of (codes "next_season") [] ≡ Some NextSeason
last_row = refl

no_header : schedule (codes "gcschedule 2\n") ≡ Err BadHeader
no_header = refl

no_shape : schedule (codes "gcschedule 1") ≡ Err BadShape
no_shape = refl

not_ascii : schedule (codes "gcschedule 1\n\t") ≡ Err (NotAscii 13)
not_ascii = refl

past_limit : schedule (codes "gcschedule 1\nshape 65 2 2 2 4 2\n") ≡ Err BadShape
past_limit = refl

unknown_step : schedule (codes "gcschedule 1\n# a note\n\nshape 64 2 2 2 4 2\n1 enter_step\n1 enter\n") ≡ Err (BadEvent 6)
unknown_step = refl

-- the first event past the most
too_many : events_from 7 100000 (words (codes "0 credit") ∷ []) ≡ Err (TooManyEvents 7)
too_many = refl

-- a line that is no event is no event too many
bad_at_last : events_from 7 100000 (words (codes "0 credits") ∷ []) ≡ Err (BadEvent 7)
bad_at_last = refl

abbrev event_at : ℕ → ℕ → Step → Line
event_at n seat step = record { line = n; event = record { seat = seat; step = step } }

one_start : schedule (codes "gcschedule 1\nshape 64 2 2 2 4 2\n1 enter_step\n1 store_phase 1\n1 read_phase\n1 reserve\n1 read_count\n")
    ≡ Ok (record { shape = record { cells = 64; packets = 2; entries = 2; sections = 2; fields = 4; objects = 2000000; sharing = false; slots = 0; stretch = 1 }; seats = 2; events = event_at 3 1 EnterStep ∷ event_at 4 1 (StorePhase Marking) ∷ event_at 5 1 ReadPhase ∷ event_at 6 1 Reserve ∷ event_at 7 1 ReadCount ∷ [] })
one_start = refl
