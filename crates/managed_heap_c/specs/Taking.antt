-- What opening a world and taking a mutator come to.
use Rattle.std.specs.Prelude.{ℕ, ◌≡◌, ◌⊎◌, Option, Some, None, IsFalse}
use Rattle.seat_steps.specs.declared.stepper.Stepper.{Stepper}
use Rattle.managed_heap_c.specs.Kinds.{IsOpenedAs, LacksMutator, LendsSteps}
use Rattle.managed_heap_c.specs.Sizing.{FitEither}
use Rattle.managed_heap_c.specs.declared.hands.AnyWorld.{AnyWorld}
use Rattle.managed_heap_c.specs.declared.hands.Hand.{Hand}
use Rattle.managed_heap_c.specs.declared.hands.Whole.{Whole}
use Rattle.managed_heap_c.specs.declared.sizes.CSizes.{CSizes}
use Rattle.managed_heap_c.specs.declared.slots.MutatorSlot.{MutatorSlot}
use Rattle.managed_heap_c.specs.declared.slots.WorldSlot.{WorldSlot}

-- why no world is opened: a size is out of its range, or there is no memory
abbrev pub OpensNone : ℕ → CSizes → Type 0
OpensNone n c = ((n ≡ 6) × (FitEither c → ⊥)) ⊎ (n ≡ 10)

-- the handle is filled, and what is behind it has this world
abbrev pub HandleHoldsWorld : AnyWorld → WorldSlot → Type 0
HandleHoldsWorld w slot = (whole : Whole) × (slot.whole ≡ Some whole) × (whole.world ≡ Some w)

-- a world of these sizes was opened, and the handle has it, or nothing is written
abbrev pub OpensWorld : ℕ → CSizes → WorldSlot → WorldSlot → Type 0
OpensWorld n c before after = ((n ≡ 0) × ((w : AnyWorld) × IsOpenedAs c w × HandleHoldsWorld w after)) ⊎ ((after ≡ before) × OpensNone n c)

-- the world had this mutator, which it lends in steps, and has the others still
abbrev pub Lends : Stepper → Option AnyWorld → Option AnyWorld → Type 0
Lends s (Some w) (Some x) = LendsSteps s w x
Lends s w x = ⊥

-- the world was closed, or has no mutator left, and has all that it had
abbrev pub HasNone : ℕ → Option AnyWorld → Option AnyWorld → Type 0
HasNone n None y = (n ≡ 11) × (y ≡ None)
HasNone n (Some w) None = ⊥
HasNone n (Some w) (Some x) = (n ≡ 13) × LacksMutator w x

-- the handle is filled, what is behind it has this mutator, and no call uses it
abbrev pub HoldsSteps : Stepper → MutatorSlot → Type 0
HoldsSteps s slot = (hand : Hand) × (slot.hand ≡ Some hand) × (hand.stepper ≡ Some s) × IsFalse hand.busy

-- a mutator of the world was taken, and the handle has it; or nothing is written, and there was no memory, or no mutator
abbrev pub TakesMutator : ℕ → Option AnyWorld → Option AnyWorld → MutatorSlot → MutatorSlot → Type 0
TakesMutator n w x before after = ((n ≡ 0) × ((s : Stepper) × Lends s w x × HoldsSteps s after)) ⊎ ((after ≡ before) × (((n ≡ 10) × (x ≡ w)) ⊎ HasNone n w x))
