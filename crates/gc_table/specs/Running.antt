-- What a call did: the steps that it added to the log, one after another, and nothing else.
use Rattle.std.specs.Prelude.{ℕ, ◌≡◌, ◌≤◌, List, [], ◌∷◌, Bool, true, false, Some, IsTrue, IsFalse}
use Rattle.mark_core.specs.Effects.{written}
use Rattle.mark_core.specs.Notes.{steady, keeps_bound}
use Rattle.mark_core.specs.Places.{the_phase}
use Rattle.mark_core.specs.Seats.{phase_number}
use Rattle.mark_core.specs.declared.kinds.Phase.{Phase}
use Rattle.mark_core.specs.declared.kinds.Step.{Step}
use Rattle.mark_core.specs.declared.kinds.Step.TheVariants.{StoreField, StoreValue, StoreRoot, StoreNew, StorePosition, OpenStep, DropStep, StorePhase, ReadOwn, ReadCat, NextSeason, ExchangeField, ExchangeValue, StoreSlot, ReadSlot, HoldRoot}
use Rattle.gc_table.specs.declared.view.Entry.{Entry}
use Rattle.gc_table.specs.declared.view.View.{View}
pub use Rattle.gc_table.specs.Entries.{is_store}
use Rattle.gc_table.specs.Notes.{look}
use Rattle.gc_table.specs.Log.{events}
use Rattle.gc_table.specs.Taking.{after, Finds}

-- the word of the event is what the step found, or what it stored
pub record IsSeen (step : Step) (n : ℕ) (v : View) : Type 0 where
  pub found : IsFalse (is_store step) → Finds step n v
  pub stored : IsTrue (is_store step) → n ≡ written v.shape v.state step 0

-- the view after these steps, each with the word that it found
abbrev pub after_all : List Entry → View → View
after_all [] v = v
after_all (e ∷ es) v = after_all es (after e.step e.found v)

-- each of these steps, taken one after another, found its word
abbrev pub AllSeen : List Entry → View → Type 0
AllSeen [] v = Unit {0}
AllSeen (e ∷ es) v = IsSeen e.step e.found v × AllSeen es (after e.step e.found v)

-- the call took the steps that it added to the log, and did nothing else
pub record Ran (v w : View) : Type 0 where
  pub steps : w ≡ after_all (events v w) v
  pub seen : AllSeen (events v w) v

-- the seat has noted the word at this place, and it stays while others step
abbrev pub Known : View → ℕ × ℕ → ℕ → Type 0
Known v at n = (look at v.known ≡ Some n) × IsTrue (steady v.state at n)

-- the seat has noted that the counter at this place doesn't fall below n
pub record AtLeast (v : View) (at : ℕ × ℕ) (n : ℕ) : Type 0 where
  pub floor : ℕ
  pub noted : look at v.floors ≡ Some floor
  pub above : n ≤ floor
  pub kept : IsTrue (keeps_bound v.state at)

-- the seat stopped the world and is alone in it, in this phase
pub record Alone (p : Phase) (v : View) : Type 0 where
  pub knows : IsTrue v.state.knows
  pub alone : IsTrue v.state.alone
  pub phase : look the_phase v.known ≡ Some (phase_number p)

-- a step after which the seat is no longer alone, or the phase may be another
abbrev pub ends_alone : Step → Bool
ends_alone OpenStep = true
ends_alone DropStep = true
ends_alone (StorePhase to) = true
ends_alone step = false

-- a step that changes what its seat's section has come to
abbrev pub changes_section : Step → Bool
changes_section (ReadOwn c i) = true
changes_section (ReadCat v) = true
changes_section (ReadSlot k) = true
changes_section (StoreField v i w) = true
changes_section (StoreValue v n) = true
changes_section (StoreRoot v r) = true
changes_section (HoldRoot v r) = true
changes_section (StoreSlot k r) = true
changes_section (ExchangeField v i x y) = true
changes_section (ExchangeValue v m n) = true
changes_section (StoreNew c part word) = true
changes_section (StorePosition done) = true
changes_section (StorePhase to) = true
changes_section NextSeason = true
changes_section step = false
