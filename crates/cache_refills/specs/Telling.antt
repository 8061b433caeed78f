-- What a watch is told of a call, by what the call did.
use Rattle.std.specs.Prelude.{◌≡◌, if◌then◌else◌, List, [], ◌∷◌, ◌++◌, Bool, Option, Some, None, IsTrue}
use Rattle.mark_core.specs.declared.kinds.Step.TheVariants.{DropStep, RaiseStep}
use Rattle.gc_table.specs.Log.{Only, events}
use Rattle.gc_table.specs.Running.{Ran}
use Rattle.gc_table.specs.Seats.{Took}
use Rattle.gc_table.specs.declared.view.Entry.{Entry}
use Rattle.gc_table.specs.declared.view.View.{View}
use Rattle.packet_pools.specs.Seeking.{some_event}
use Rattle.gc_cycle.specs.Cycles.{collects}
use Rattle.gc_cycle.specs.Ending.{InEach, IsExact}
use Rattle.gc_cycle.specs.Events.{never}
use Rattle.gc_cycle.specs.Mutating.{spares_world}
use Rattle.gc_cycle.specs.OneCycle.{EndsCycle}
use Rattle.gc_cycle.specs.Sorts.{begins_exactly, claims}
use Rattle.gc_cycle.specs.declared.counts.Counts.{Counts}
use Rattle.gc_cycle.specs.declared.counts.Refill.{Refill}
use Rattle.gc_cycle.specs.declared.counts.Refill.TheVariants as refills
use Rattle.cache_refills.specs.Notices.{Notice}
use Rattle.cache_refills.specs.Notices as notices
use Rattle.cache_refills.specs.Pace.Paying.{claimed_in_stop}

-- one precise collection
pub record CollectsExactly (counts : Counts) (v w : View) : Type 0 where
  pub ends : EndsCycle counts v w
  pub collected : IsTrue (collects (events v w))
  pub exact : InEach IsExact w

-- these steps are what the notice says: one try to raise the flag, one ordinary cycle, one precise collection, or the one step that resumes the world; what was
-- paid is no part of a stop
abbrev pub IsToldOf : Notice → View → View → Type 0
IsToldOf (notices.pays paid) v w = ⊥
IsToldOf notices.asks v w = Took RaiseStep v w
IsToldOf (notices.finishes counts) v w = EndsCycle counts v w × IsTrue (never begins_exactly (events v w))
IsToldOf (notices.collects counts) v w = CollectsExactly counts v w
IsToldOf notices.resumes v w = Took DropStep v w

-- steps of which a watch isn't told
abbrev pub IsUntold : View → View → Type 0
IsUntold v w = Ran v w × Only spares_world v w

-- a watch is told of each try to raise the flag, each end of a cycle and each time that the world was resumed, in their order, and of nothing else
abbrev pub TellsStops : List Notice → View → View → Type 0
TellsStops [] v w = IsUntold v w
TellsStops (n ∷ ns) v w = (before : View) × (after : View) × IsUntold v before × IsToldOf n before after × Ran before after × TellsStops ns after w

-- what is told of a payment
abbrev pub payment : Refill → List Notice
payment (refills.Cache h paid) = notices.pays paid ∷ []
payment refills.Full = []

-- the payment for a cache claimed outside a stop is told, and no other
abbrev pub TellsPaid : Refill → List Notice → List Entry → Type 0
TellsPaid (refills.Cache h paid) ns es = IsTrue (some_event claims es) × (ns ≡ (if claimed_in_stop es then [] else notices.pays paid ∷ []))
TellsPaid refills.Full ns es = ns ≡ []

-- a refill answered so, and told of its stops, and last of what was paid
pub record TellsRefill (r : Refill) (ns : List Notice) (v w : View) : Type 0 where
  pub stops : List Notice
  pub last : List Notice
  pub all : ns ≡ stops ++ last
  pub tells : TellsStops stops v w
  pub paid : TellsPaid r last (events v w)

-- a round of a refill: with no answer, or with this one
abbrev pub TellsRound : Option Refill → List Notice → View → View → Type 0
TellsRound None ns v w = TellsStops ns v w
TellsRound (Some r) ns v w = TellsRefill r ns v w

-- the cache of this answer was claimed in a stop
abbrev pub IsInside : Option Refill → List Entry → Type 0
IsInside None es = Unit {0}
IsInside (Some refills.Full) es = Unit {0}
IsInside (Some (refills.Cache h paid)) es = IsTrue (some_event claims es) × IsTrue (claimed_in_stop es)
