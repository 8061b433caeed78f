-- A stepper that only asks whether a weak reference's object is dead: it stores nothing for one that is.
use Rattle.std.specs.Prelude.{ℕ, ◌≡◌, ◌≢◌, ◌⊎◌, [], ◌∷◌, Bool, true, false}
use Rattle.mark_core.specs.Steps.MutatorSteps.{weak_reference}
use Rattle.mark_core.specs.declared.kinds.Step.TheVariants.{ReadWeak}
use Rattle.gc_table.specs.Log.{event, events}
use Rattle.gc_table.specs.Running.{Ran}
use Rattle.gc_table.specs.declared.view.View.{View}
use Rattle.mutator_ops.specs.Upgrading.{FindsIdentity}
use Rattle.seat_turns.specs.Weak.{identity_of}
use Rattle.seat_turns.specs.declared.weak.Weak.{Weak}
use Rattle.seat_steps.specs.Acting.{DeclinesToAct, StepperActs}
use Rattle.seat_steps.specs.Weak.{CanUpgrade}
use Rattle.seat_steps.specs.declared.came.Came.{Came}
use Rattle.seat_steps.specs.declared.came.Came.TheVariants as cames
use Rattle.seat_steps.specs.declared.stepper.Stepper.{Stepper}

-- nothing was found in cell c, by one read, and nothing else was done
pub record FindsBare (c : ℕ) (v x : View) : Type 0 where
  pub ran : Ran v x
  pub bits : ℕ
  pub none : weak_reference v.state c bits ≡ 0
  pub events_are : events v x ≡ event (ReadWeak c) bits ∷ []
  pub state : x.state ≡ v.state

-- an object of this identity is in cell c; or nothing is there, or another. Where something is, variable u is nil afterwards
abbrev pub AsksFor : ℕ → ℕ → ℕ → Bool → View → View → Type 0
AsksFor u c id true v x = FindsIdentity u c id 0 v x
AsksFor u c id false v x = FindsBare c v x ⊎ ((other : ℕ) × (other ≢ id) × FindsIdentity u c other 0 v x)

-- what asking came to: the weak reference was of this world, and its object is there, or dead; or it was of another
abbrev pub AsksTo : Came → Weak → ℕ → Stepper → Stepper → Type 0
AsksTo cames.Done weak v x y = (weak.world ≡ x.name) × StepperActs (CanUpgrade x weak v) 3 (AsksFor v weak.place (identity_of weak) true) x y
AsksTo cames.Dead weak v x y = (weak.world ≡ x.name) × StepperActs (CanUpgrade x weak v) 3 (AsksFor v weak.place (identity_of weak) false) x y
AsksTo cames.OtherWorld weak v x y = (weak.world ≢ x.name) × (y ≡ x)
AsksTo c weak v x y = DeclinesToAct c (CanUpgrade x weak v) x y
