-- Weak references of a shared world.
use Rattle.std.specs.Prelude.{ℕ, ◌≡◌, ◌≢◌, ◌<◌, Option, Some, None, false, true}
use Rattle.std.specs.Arc.{arc_value}
use Rattle.mark_core.specs.Numbers.{section_variables}
use Rattle.mutator_ops.specs.Upgrading.{Upgrades}
use Rattle.mutator_ops.specs.Weak.{FindsUnpublished}
use Rattle.seat_turns.specs.Weak.{TakesWeakIn, identity_of}
use Rattle.seat_turns.specs.declared.weak.Upgraded.{Upgraded}
use Rattle.seat_turns.specs.declared.weak.Upgraded.TheVariants.{Alive, Dead, OtherWorld}
use Rattle.seat_turns.specs.declared.weak.Weak.{Weak}
use Rattle.shared_heap.specs.Calls.{SharerActs}
use Rattle.shared_heap.specs.Wanting.{IsVariable}
use Rattle.shared_heap.specs.declared.mutator.SharedMutator.{SharedMutator}

-- variable v's object has this weak reference, or another mutator hasn't published it yet
abbrev pub AsksForWeak : ℕ → Option Weak → SharedMutator → SharedMutator → Type 0
AsksForWeak v (Some weak) x y = SharerActs (IsVariable v) (TakesWeakIn x.name v weak) x y
AsksForWeak v None x y = SharerActs (IsVariable v) (FindsUnpublished v) x y

-- the mutator has this variable, and its world can have made an object of these numbers in this cell
abbrev pub CanUpgrade : SharedMutator → Weak → ℕ → Type 0
CanUpgrade m weak v =
    let sh = (arc_value m.heap).shape in (v < section_variables) × (weak.place < sh.cells) × (weak.section < sh.sections) × (weak.number < sh.objects)

-- the weak reference was of this world, and its object is alive, which variable v refers to, or dead; or it was of another
abbrev pub UpgradesTo : Upgraded → Weak → ℕ → SharedMutator → SharedMutator → Type 0
UpgradesTo Alive weak v x y = (weak.world ≡ x.name) × SharerActs (CanUpgrade x weak v) (Upgrades v weak.place (identity_of weak) true) x y
UpgradesTo Dead weak v x y = (weak.world ≡ x.name) × SharerActs (CanUpgrade x weak v) (Upgrades v weak.place (identity_of weak) false) x y
UpgradesTo OtherWorld weak v x y = (weak.world ≢ x.name) × (y ≡ x)
