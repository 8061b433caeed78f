-- The variables of a seat by name: each refers to what the plain heap has there, and what a step finds is of the object of its variable.
use Rattle.std.specs.Prelude.{ℕ, ◌≡◌, ◌+◌, ◌<◌, length, None, Some, IsFalse, slice_get}
use Rattle.plain_heap.specs.Paths.{Name}
use Rattle.mark_core.specs.Layout.{words_of}
use Rattle.mark_core.specs.Numbers.{section_variables}
use Rattle.mark_core.specs.Steps.{Core, failing_part}
use Rattle.mark_core.specs.Steps.MutatorSteps.{seat_variable}
use Rattle.mark_core.specs.declared.kinds.Event.{Event}
use Rattle.mark_core.specs.declared.kinds.Step.{Step}
use Rattle.mark_core.specs.declared.kinds.Step.TheVariants.{ReadIdent, ReadOwn, ReadValue}
use Rattle.mark_core.specs.declared.seat.SeatState.{SeatState}
use Rattle.gc_table.specs.AgreementLaws.{found_of}
use Rattle.gc_table.specs.Finding.{heap_found}
use Rattle.gc_table.specs.RunWorlds.{World, WorldObject, name_in, object_of, own_section, reference_of, referred, variable_of}
use Rattle.gc_table.specs.Taking.{Finds}
use Rattle.gc_table.specs.declared.view.View.{View}
use Rattle.heap_laws.specs.Moments.{IsMoment}

-- the word that the seat has as its variable v refers to what the heap has there, for each variable of each seat that has a section
abbrev pub VariablesNamed : Type 0
VariablesNamed =
    (c : Core) (world : World) → IsMoment c world → (i : ℕ) (s : SeatState) → slice_get c.seats i ≡ Some s → IsFalse s.spent → i < c.shape.sections → (v : ℕ) → v < section_variables
    → referred (words_of c.shape c.words).identities (seat_variable s v) ≡ variable_of world i v

-- this word is what the heap has of the object to which variable v of the seat refers, if the step reads the cell that this variable names
abbrev pub FindsOf : Core → World → SeatState → Step → ℕ → ℕ → Type 0
FindsOf c world s (ReadValue x) v word =
    seat_variable s v ≡ x + 1 → (name : Name) × (object : WorldObject) × (variable_of world (own_section s) v ≡ Some name) × (object_of world name ≡ Some object) × (word ≡ object.value)
FindsOf c world s (ReadOwn x i) v word =
    seat_variable s v ≡ x + 1 → (name : Name) × (object : WorldObject) × (variable_of world (own_section s) v ≡ Some name) × (object_of world name ≡ Some object) × (i < length object.refs)
    × (referred (words_of c.shape c.words).identities word ≡ reference_of object i)
FindsOf c world s (ReadIdent x) v word = seat_variable s v ≡ x + 1 → variable_of world (own_section s) v ≡ Some (name_in word)
FindsOf c world s step v word = Unit {0}

-- whatever a mutator reads by way of a variable is its object's: the one to which the plain heap's variable refers at that moment
abbrev pub VariablesRead : Type 0
VariablesRead =
    (c : Core) (world : World) → IsMoment c world → (e : Event) (s : SeatState) → failing_part c e ≡ None → slice_get c.seats e.seat ≡ Some s → (v : ℕ) → v < section_variables
    → FindsOf c world s e.step v (found_of c (Some s) e.step)

-- so it is as a thread takes a step on an open heap: each of its variables refers to what the heap has there, and what it reads by way of one is its object's
pub record StepsRead : Type 0 where
  pub variables : (step : Step) (n : ℕ) (v : View) (f : Finds step n v) (w u : ℕ) → v.state.section ≡ Some w → u < section_variables
      → referred (words_of f.state.core.shape f.state.core.words).identities (seat_variable v.state u) ≡ variable_of (heap_found step n v f) w u
  pub reads : (step : Step) (n : ℕ) (v : View) (f : Finds step n v) (u : ℕ) → u < section_variables → FindsOf f.state.core (heap_found step n v f) v.state step u n
