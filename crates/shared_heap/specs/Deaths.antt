-- What a mutator is told of the death of an object to which it, or another, once took a weak reference.
use Rattle.std.specs.Prelude.{ℕ, ◌≡◌, ◌⊎◌, List, [], ◌∷◌}
use Rattle.mark_core.specs.Steps.{Core, start_core}
use Rattle.mark_core.specs.declared.kinds.Event.{Event}
use Rattle.mark_core.specs.declared.kinds.Step.{Step}
use Rattle.mark_core.specs.declared.kinds.Step.TheVariants.{HoldRoot, ReadIdent, ReadWeak}
use Rattle.gc_table.specs.AgreementLaws.{world_run}
use Rattle.gc_table.specs.Finding.{heap_found}
use Rattle.gc_table.specs.Log.{event, events}
use Rattle.gc_table.specs.OpenRuns.{LogBegins}
use Rattle.gc_table.specs.Past.{LeadTo, log_of}
use Rattle.gc_table.specs.Running.{Ran}
use Rattle.gc_table.specs.RunWorlds.{start_world}
use Rattle.gc_table.specs.Seats.{Across, seen_of, state_of, view_of}
use Rattle.gc_table.specs.Seen.{Begins}
use Rattle.gc_table.specs.Stamps.{stamp_view}
use Rattle.gc_table.specs.Taking.{after}
use Rattle.gc_table.specs.Weak.{HasWeak, IsLostForGood}
use Rattle.gc_table.specs.declared.view.View.{View}
use Rattle.seat_turns.specs.Weak.{identity_of}
use Rattle.seat_turns.specs.declared.weak.Upgraded.{Upgraded}
use Rattle.seat_turns.specs.declared.weak.Upgraded.TheVariants.{Dead}
use Rattle.seat_turns.specs.declared.weak.Weak.{Weak}
use Rattle.seat_steps.specs.Received.{KnowsDeath}
use Rattle.seat_steps.specs.declared.stamping.Stamp.{Stamp}
use Rattle.shared_heap.specs.Finding.{FindsHeap}
use Rattle.shared_heap.specs.Stamping.{GoesOnFrom, Stamps}
use Rattle.shared_heap.specs.declared.mutator.SharedMutator.{SharedMutator}

-- the mutator once took this weak reference
abbrev pub HasTaken : Weak → SharedMutator → Type 0
HasTaken weak m = HasWeak weak.place (identity_of weak) (view_of m.seat).log

-- what it took it has taken, whatever its later calls do
abbrev pub TakenStays : Type 0
TakenStays = (weak : Weak) (x y : SharedMutator) → Across Ran x.seat y.seat → HasTaken weak x → HasTaken weak y

-- at the moment of this read the object was lost: no path from any variable or slot of any mutator led to it in the one heap of all, nor will whatever happens
pub record FindsLost (id : ℕ) (step : Step) (n : ℕ) (v : View) : Type 0 where
  pub asked : FindsHeap step n v
  pub lost : IsLostForGood asked.finds.state.core (heap_found step n v asked.finds) id

-- an upgrade into variable u found so: the cell has no object, or another
abbrev pub TellsDeath : ℕ → ℕ → ℕ → View → View → Type 0
TellsDeath u c id v x =
    ((bits old : ℕ) × (events v x ≡ event (ReadWeak c) bits ∷ event (HoldRoot u 0) old ∷ []) × FindsLost id (ReadWeak c) bits v)
    ⊎ ((bits other old : ℕ) × (events v x ≡ event (ReadWeak c) bits ∷ event (ReadIdent c) other ∷ event (HoldRoot u 0) old ∷ []) × FindsLost id (ReadIdent c) other (after (ReadWeak c) bits v))

-- a mutator that is answered that the object is dead, and that took the weak reference itself, has found the object lost
abbrev pub IsToldDeath : Upgraded → Weak → ℕ → SharedMutator → SharedMutator → Type 0
IsToldDeath Dead weak u x y = HasTaken weak x → Across (TellsDeath u weak.place (identity_of weak)) x.seat y.seat
IsToldDeath upgraded weak u x y = Unit {0}

-- whoever took the weak reference, a mutator that is answered so knows the object's death in each history
abbrev pub IsDeadToAll : Upgraded → Weak → SharedMutator → SharedMutator → Type 0
IsDeadToAll Dead weak x y = Across (KnowsDeath weak.place (identity_of weak)) x.seat y.seat
IsDeadToAll upgraded weak x y = Unit {0}

-- a mutator that had taken a weak reference gave a stamp; another came after the stamp, went on, and was answered `Dead`: then the object is lost for good at the
-- end of each history that goes on from what that one had seen as it came after the stamp, and has what it has done
abbrev pub DeathReceived : Type 0
DeathReceived =
    (weak : Weak) (a : Stamp) (m n x y z d : SharedMutator) (es : List Event) (end : Core) → HasTaken weak m → Stamps a m n → GoesOnFrom a x y → (stamp_view a.stamp).shape ≡ (view_of y.seat).shape → Across Ran y.seat z.seat
    → IsDeadToAll Dead weak z d → Begins (seen_of y.seat) es
    → let sh = (view_of z.seat).shape in LeadTo sh es end → LogBegins (view_of d.seat).log (log_of sh es (state_of z.seat).number)
    → ∥ IsLostForGood end (world_run es (start_core sh 1) (start_world sh)) (identity_of weak) ∥₁
