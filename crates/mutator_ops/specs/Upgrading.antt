-- What a mutator does that asks for an object by its cell and its identity, whether or not it knows the object: a weak reference.
use Rattle.std.specs.Prelude.{ℕ, ◌≡◌, ◌≢◌, ◌⊎◌, ◌+◌, [], ◌∷◌, Bool, true, false}
use Rattle.mark_core.specs.Steps.MutatorSteps.{weak_reference}
use Rattle.mark_core.specs.declared.kinds.Step.TheVariants.{HoldRoot, ReadIdent, ReadWeak}
use Rattle.gc_table.specs.declared.view.View.{View}
use Rattle.gc_table.specs.Log.{event, events}
use Rattle.gc_table.specs.Running.{Ran}
use Rattle.mutator_ops.specs.Sharing.{holding}

-- nothing was found in cell c, by one read: variable u is nil. Its root, which has the old word, lags
pub record FindsNothing (u c : ℕ) (v x : View) : Type 0 where
  pub ran : Ran v x
  -- the allocation bits of the cell's block
  pub bits : ℕ
  pub old : ℕ
  pub none : weak_reference v.state c bits ≡ 0
  pub events_are : events v x ≡ event (ReadWeak c) bits ∷ event (HoldRoot u 0) old ∷ []
  pub state : x.state ≡ holding v.state u 0

-- an object of identity `id` was found in cell c: variable u has this word. Its root, which has the old word, lags
pub record FindsIdentity (u c id word : ℕ) (v x : View) : Type 0 where
  pub ran : Ran v x
  pub bits : ℕ
  pub old : ℕ
  pub some : weak_reference v.state c bits ≡ c + 1
  pub events_are : events v x ≡ event (ReadWeak c) bits ∷ event (ReadIdent c) id ∷ event (HoldRoot u word) old ∷ []
  pub state : x.state ≡ holding v.state u word

-- variable u became the object of identity `id`, if that is in cell c; else it is nil, since nothing is there or another object
abbrev pub Upgrades : ℕ → ℕ → ℕ → Bool → View → View → Type 0
Upgrades u c id true v x = FindsIdentity u c id (c + 1) v x
Upgrades u c id false v x = FindsNothing u c v x ⊎ ((other : ℕ) × (other ≢ id) × FindsIdentity u c other 0 v x)
