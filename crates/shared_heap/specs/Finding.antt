-- What the calls of a mutator find while its world is open.
use Rattle.std.specs.Prelude.{ℕ, ◌≡◌, ◌≢◌, ◌⊎◌, ◌+◌, ◌-◌, ◌<◌, List, [], ◌∷◌, Bool, true, false, IsFalse, Some, length}
use Rattle.plain_heap.specs.Paths.{Name}
use Rattle.mark_core.specs.Layout.{words_of}
use Rattle.mark_core.specs.Numbers.{section_variables}
use Rattle.mark_core.specs.Steps.MutatorSteps.{seat_variable as word_in, weak_reference}
use Rattle.mark_core.specs.Weak.{IsAt, MayConclude}
use Rattle.mark_core.specs.declared.kinds.Step.{Step}
use Rattle.mark_core.specs.declared.kinds.Step.TheVariants.{ReadIdent, ReadOwn, ReadValue, ReadWeak}
use Rattle.plain_heap.specs.declared.operation.Op.TheVariants as ops
use Rattle.gc_table.specs.Entries.{is_store}
use Rattle.gc_table.specs.Running.{Ran}
use Rattle.gc_table.specs.Seats.{Across, did, state_of, view_of}
use Rattle.gc_table.specs.Taking.{Finds, after}
use Rattle.gc_table.specs.declared.view.Entry.{Entry}
use Rattle.gc_table.specs.declared.view.View.{View}
use Rattle.gc_table.specs.Agreement.{AgreesWith}
use Rattle.gc_table.specs.AgreementLaws.{IsLost, TellsIn}
use Rattle.gc_table.specs.Finding.{heap_found}
use Rattle.gc_table.specs.RunWorlds.{World, WorldObject, object_of, own_section, reference_of, referred, variable_of}
use Rattle.heap_laws.specs.Variables.{FindsOf}
use Rattle.mutator_ops.specs.Sharing.{FollowsFound}
use Rattle.mutator_ops.specs.Upgrading.{Upgrades}
use Rattle.seat_steps.specs.declared.stepper.Stepper.{Stepper}
use Rattle.shared_heap.specs.Calls.{FindsValue, SharerDoes}
use Rattle.shared_heap.specs.declared.mutator.SharedMutator.{SharedMutator}

-- the step found what one plain heap of all mutators had at its moment: the one that the events before it made of a heap without objects
pub record FindsHeap (step : Step) (n : ℕ) (v : View) : Type 0 where
  pub finds : Finds step n v
  pub agrees : AgreesWith finds.state.core (heap_found step n v finds)
  pub tells : TellsIn finds.state.core (heap_found step n v finds) v.state step n
  -- each of the mutator's variables referred to what this heap had there
  pub variables : (w u : ℕ) → v.state.section ≡ Some w → u < section_variables → referred (words_of finds.state.core.shape finds.state.core.words).identities (word_in v.state u) ≡ variable_of (heap_found step n v finds) w u
  -- and what was read by way of one was its object's
  pub reads : (u : ℕ) → u < section_variables → FindsOf finds.state.core (heap_found step n v finds) v.state step u n

-- so did each of these events that isn't a store, each at its own moment
abbrev pub AllFindHeap : List Entry → View → Type 0
AllFindHeap [] v = Unit {0}
AllFindHeap (e ∷ es) v = (IsFalse (is_store e.step) → FindsHeap e.step e.found v) × AllFindHeap es (after e.step e.found v)

-- whatever a call of a mutator did, so did each of its events
abbrev pub CallsFind : Type 0
CallsFind = (x y : SharedMutator) → Across Ran x.seat y.seat → AllFindHeap (did x.seat y.seat) (view_of x.seat)

-- so did each event of a mutator in steps
abbrev pub SteppersFind : Type 0
SteppersFind = (x y : Stepper) → Across Ran x.seat y.seat → AllFindHeap (did x.seat y.seat) (view_of x.seat)

-- n is the value that the object of variable v of section w had
abbrev pub IsValueOf : World → ℕ → ℕ → ℕ → Type 0
IsValueOf world w v n = (name : Name) × (object : WorldObject) × (variable_of world w v ≡ Some name) × (object_of world name ≡ Some object) × (n ≡ object.value)

-- the number that `value` answers is the value that the object to which its variable referred had in this heap
abbrev pub ValueFound : Type 0
ValueFound = (v n : ℕ) (x y : SharedMutator) → SharerDoes (FindsValue v n) (ops.Say v) x y
    → (f : FindsHeap (ReadValue (word_in (state_of x.seat) v - 1)) n (view_of x.seat)) × IsValueOf (heap_found (ReadValue (word_in (state_of x.seat) v - 1)) n (view_of x.seat) f.finds) (own_section (state_of x.seat)) v n

-- this word is the reference that field i of the object of variable v of section w had
abbrev pub IsFieldOf : List ℕ → World → ℕ → ℕ → ℕ → ℕ → Type 0
IsFieldOf identities world w v i word =
    (name : Name) × (object : WorldObject) × (variable_of world w v ≡ Some name) × (object_of world name ≡ Some object) × (i < length object.refs) × (referred identities word ≡ reference_of object i)

-- what `get` found is the reference that the field of its variable's object had in this heap
abbrev pub FieldFound : Type 0
FieldFound = (w v i : ℕ) (x y : SharedMutator) (f : FollowsFound w v i (view_of x.seat) (view_of y.seat))
    → (h : FindsHeap (ReadOwn (word_in (state_of x.seat) v - 1) i) f.found (view_of x.seat))
    × (v < section_variables → 0 < word_in (state_of x.seat) v → IsFieldOf (words_of h.finds.state.core.shape h.finds.state.core.words).identities (heap_found (ReadOwn (word_in (state_of x.seat) v - 1) i) f.found (view_of x.seat) h.finds) (own_section (state_of x.seat)) v i f.found)

-- an upgrade that found the object: in the cell is one in use, whole, and the identity that was read there is its own
pub record FindsAlive (c id : ℕ) (v : View) : Type 0 where
  pub bits : ℕ
  pub there : weak_reference v.state c bits ≡ c + 1
  pub asked : FindsHeap (ReadWeak c) bits v
  pub read : FindsHeap (ReadIdent c) id (after (ReadWeak c) bits v)

-- one that found nothing in the cell: what was published there, and what the mutator's own section made there, is lost
pub record FindsNone (c id : ℕ) (v : View) : Type 0 where
  pub bits : ℕ
  pub none : weak_reference v.state c bits ≡ 0
  pub asked : FindsHeap (ReadWeak c) bits v
  pub lost : MayConclude asked.finds.state.core v.state id c → IsLost asked.finds.state.core (heap_found (ReadWeak c) bits v asked.finds) id

-- one that found another object in the cell: what was made there before is lost
pub record FindsAnother (c id : ℕ) (v : View) : Type 0 where
  pub bits : ℕ
  pub other : ℕ
  pub differs : other ≢ id
  pub read : FindsHeap (ReadIdent c) other (after (ReadWeak c) bits v)
  pub lost : IsAt read.finds.state.core id c → IsLost read.finds.state.core (heap_found (ReadIdent c) other (after (ReadWeak c) bits v) read.finds) id

-- what an upgrade of a weak reference to this cell and this identity found, by its answer
abbrev pub UpgradeTells : Bool → ℕ → ℕ → View → Type 0
UpgradeTells true c id v = FindsAlive c id v
UpgradeTells false c id v = FindsNone c id v ⊎ FindsAnother c id v

-- so did each upgrade
abbrev pub UpgradeFound : Type 0
UpgradeFound = (v c id : ℕ) (there : Bool) (x y : SharedMutator) → Upgrades v c id there (view_of x.seat) (view_of y.seat) → UpgradeTells there c id (view_of x.seat)
