-- What a stepper is told of the death of an object to which it once took a weak reference.
use Rattle.std.specs.Prelude.{ℕ, ◌≡◌, ◌⊎◌, List, [], ◌∷◌}
use Rattle.mark_core.specs.declared.kinds.Step.{Step}
use Rattle.mark_core.specs.declared.kinds.Step.TheVariants.{HoldRoot, ReadIdent, ReadWeak}
use Rattle.gc_table.specs.Agreement.{AgreesWith}
use Rattle.gc_table.specs.Finding.{heap_found}
use Rattle.gc_table.specs.Log.{event, events}
use Rattle.gc_table.specs.Running.{Ran}
use Rattle.gc_table.specs.Seats.{Across, view_of}
use Rattle.gc_table.specs.Taking.{Finds, after}
use Rattle.gc_table.specs.Weak.{HasWeak, IsLostForGood}
use Rattle.gc_table.specs.declared.view.Entry.{Entry}
use Rattle.gc_table.specs.declared.view.View.{View}
use Rattle.seat_turns.specs.Weak.{identity_of}
use Rattle.seat_turns.specs.declared.weak.Weak.{Weak}
use Rattle.seat_steps.specs.declared.came.Came.{Came}
use Rattle.seat_steps.specs.declared.came.Came.TheVariants as cames
use Rattle.seat_steps.specs.declared.stepper.Stepper.{Stepper}

-- the stepper once took this weak reference
abbrev pub HasTaken : Weak → Stepper → Type 0
HasTaken weak m = HasWeak weak.place (identity_of weak) (view_of m.seat).log

-- what it took it has taken, whatever its later calls do
abbrev pub TakenStays : Type 0
TakenStays = (weak : Weak) (x y : Stepper) → Across Ran x.seat y.seat → HasTaken weak x → HasTaken weak y

-- at the moment of this read the object was lost: no path from any variable or slot of any mutator led to it in the one heap of all, nor will whatever happens
pub record FindsLost (id : ℕ) (step : Step) (n : ℕ) (v : View) : Type 0 where
  pub finds : Finds step n v
  pub agrees : AgreesWith finds.state.core (heap_found step n v finds)
  pub lost : IsLostForGood finds.state.core (heap_found step n v finds) id

-- a call with variable u found so: the cell has no object, after which it did no more than this, by what the root of the variable has, or another
abbrev pub FindsDeath : (ℕ → List Entry) → ℕ → ℕ → ℕ → View → View → Type 0
FindsDeath more u c id v x =
    ((bits old : ℕ) × (events v x ≡ event (ReadWeak c) bits ∷ more old) × FindsLost id (ReadWeak c) bits v)
    ⊎ ((bits other old : ℕ) × (events v x ≡ event (ReadWeak c) bits ∷ event (ReadIdent c) other ∷ event (HoldRoot u 0) old ∷ []) × FindsLost id (ReadIdent c) other (after (ReadWeak c) bits v))

-- a stepper whose upgrade is answered `Dead`, and that took the weak reference itself, has found the object lost
abbrev pub UpgradeTellsDeath : Came → Weak → ℕ → Stepper → Stepper → Type 0
UpgradeTellsDeath cames.Dead weak u x y = HasTaken weak x → Across (FindsDeath (λ old. event (HoldRoot u 0) old ∷ []) u weak.place (identity_of weak)) x.seat y.seat
UpgradeTellsDeath came weak u x y = Unit {0}

-- so has one that only asked
abbrev pub AskingTellsDeath : Came → Weak → ℕ → Stepper → Stepper → Type 0
AskingTellsDeath cames.Dead weak u x y = HasTaken weak x → Across (FindsDeath (λ old. []) u weak.place (identity_of weak)) x.seat y.seat
AskingTellsDeath came weak u x y = Unit {0}
