-- A state of the core together with what only contracts see: the catalogue's plan, and what each section has come to.
use Rattle.std.specs.Prelude.{ℕ, List, [], map, false, Option, Some, None, slice_get, slice_set, slice_index_or}
use Rattle.mark_core.specs.Layout.{words_of}
use Rattle.mark_core.specs.Steps.{Core, after_event, start_core}
use Rattle.mark_core.specs.declared.kinds.Shape.{Shape}
use Rattle.mark_core.specs.declared.kinds.Event.{Event}
use Rattle.mark_core.specs.declared.kinds.Step.{Step}
use Rattle.mark_core.specs.declared.seat.SeatState.{SeatState}
use Rattle.plain_heap.specs.declared.operation.Op.{Op}
use Rattle.gc_table.specs.declared.view.Meaning.{Meaning}
use Rattle.gc_table.specs.declared.view.SectionState.{SectionState}
use Rattle.gc_table.specs.PlainSteps.{no_meaning, own_section}
use Rattle.gc_table.specs.Sections.{section_after, start_sections, AskedOf}

-- a state of the core, the plan, and what each section has come to
pub record TableState : Type 0 where
  pub core : Core
  -- the operations of the catalogue, part by part
  pub plan : List (List Op)
  -- by section
  pub sections : List SectionState

-- what the words mean, by section
abbrev pub meanings_of : List SectionState → List Meaning
meanings_of xs = map (λ (x : SectionState). x.meaning) xs

-- what stands before anything is known
abbrev pub no_section : SectionState
no_section = record { meaning = no_meaning; places = []; history = []; position = 0; seasons = 0; full = false; settled = false }

-- section w
abbrev pub section_at : List SectionState → ℕ → SectionState
section_at xs w = slice_index_or xs w no_section

-- the sections when that of a seat changes
abbrev pub with_section : Option ℕ → (SectionState → SectionState) → List SectionState → List SectionState
with_section None f xs = xs
with_section (Some w) f xs = slice_set xs w (f (section_at xs w))

-- the sections after a step of a seat, if its record was looked up
abbrev pub sections_after : Shape → List (List Op) → Option SeatState → Step → List SectionState → List SectionState
sections_after sh plan None step xs = xs
sections_after sh plan (Some s) step xs = with_section s.section (section_after sh plan s step) xs

-- the state after an event that is allowed
abbrev pub state_after : TableState → Event → TableState
state_after x e =
    record {
      core = after_event x.core e;
      plan = x.plan;
      sections = sections_after x.core.shape x.plan (slice_get x.core.seats e.seat) e.step x.sections;
    }

-- the state in which n seats have done nothing
abbrev pub start_state : Shape → List (List Op) → ℕ → TableState
start_state sh plan n = record { core = start_core sh n; plan = plan; sections = start_sections sh }

-- what is asked of a step of the seat with this record, besides its own condition
abbrev pub AskedIn : TableState → SeatState → Step → Type 0
AskedIn x s step = AskedOf x.core.shape x.plan s (section_at x.sections (own_section s)) (Some (words_of x.core.shape x.core.words).named) step
