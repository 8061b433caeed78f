-- A mutator's round raises the flag with cause, one of this visit, and pops when it may.
use Rattle.std.proofs.Common.{◌≡◌, [], ap, ◌∙◌, true, false, Option, None, Some}
use Rattle.std.specs.Prelude.{IfNone, IsFalse}
use Rattle.mark_core.specs.declared.kinds.Shape.{Shape}
use Rattle.gc_table.specs.Log.{events, Only}
use Rattle.gc_table.specs.Running.{Ran}
use Rattle.gc_table.specs.declared.view.View.{View}
use Rattle.gc_table.proofs.Running.{ran-events}
use Rattle.gc_cycle.proofs.Sequences.{some-none}
use Rattle.gc_cycle.specs.Events.{each_after, never}
use Rattle.packet_pools.specs.Seeking.{some_event}
use Rattle.gc_cycle.specs.Mutating.{pops_in_stops, stays_calm}
use Rattle.gc_cycle.specs.Sorts.{claims, comes_in, pops, raises_flag}
use Rattle.gc_cycle.specs.declared.counts.Refill.{Refill}
use Rattle.cache_refills.specs.Pace.Paying.{pops_where_paid}
use Rattle.cache_refills.specs.Stops.{may_stop, stops_in_visit, stops_with_cause}
use Rattle.cache_refills.proofs.Causes.{caused-stops, stops-join, unraised-stops}
use Rattle.cache_refills.proofs.Refills.Popping.{claimed-paid, paid-join, pops-join, unpopped}
use Rattle.cache_refills.proofs.Refills.Rounds.{calm-raises, Leads}
use Rattle.cache_refills.proofs.Stops.Visits.{caused-visits, unraised-visits, visits-join}

pub calm-stops : (sh : Shape) (v w : View) → Only stays_calm v w → stops_with_cause sh (events v w) ≡ true
calm-stops sh v w o = unraised-stops sh (events v w) (calm-raises v w o)

-- what comes before raises no flag
pub leads-stops : (sh : Shape) (u v w : View) → Leads u v → Ran v w → stops_with_cause sh (events v w) ≡ true → stops_with_cause sh (events u w) ≡ true
leads-stops sh u v w l r h = ap (stops_with_cause sh) (ran-events u v w l.ran r) ∙ stops-join sh (events u v) (events v w) (unraised-stops sh (events u v) l.calm) h

-- what comes before the flag gives cause to raise it
pub leads-caused : (sh : Shape) (u v w : View) → Leads u v → Ran v w → may_stop sh (events u v) ≡ true → stops_with_cause sh (events u w) ≡ true
leads-caused sh u v w l r h = ap (stops_with_cause sh) (ran-events u v w l.ran r) ∙ caused-stops sh (events u v) (events v w) l.calm h

pub calm-visits : (sh : Shape) (v w : View) → Only stays_calm v w → stops_in_visit sh (events v w) ≡ true
calm-visits sh v w o = unraised-visits sh (events v w) (calm-raises v w o)

-- what comes before raises no flag
pub leads-visits : (sh : Shape) (u v w : View) → Leads u v → Ran v w → stops_in_visit sh (events v w) ≡ true → stops_in_visit sh (events u w) ≡ true
leads-visits sh u v w l r h = ap (stops_in_visit sh) (ran-events u v w l.ran r) ∙ visits-join sh (events u v) (events v w) (unraised-visits sh (events u v) l.calm) h

-- what comes before the flag gives cause to raise it, in the same visit
pub leads-visited : (sh : Shape) (u v w : View) → Leads u v → Ran v w → may_stop sh (events u v) ≡ true → each_after (never comes_in) raises_flag [] (events v w) ≡ true → stops_in_visit sh (events u w) ≡ true
leads-visited sh u v w l r h o = ap (stops_in_visit sh) (ran-events u v w l.ran r) ∙ caused-visits sh (events u v) (events v w) l.calm l.within h o

-- what comes before pops nothing
pub leads-pops : (u v w : View) → Leads u v → Ran v w → pops_in_stops (events v w) ≡ true → pops_in_stops (events u w) ≡ true
leads-pops u v w l r h = ap pops_in_stops (ran-events u v w l.ran r) ∙ pops-join (events u v) (events v w) (unpopped (events u v) l.unpopped) h

pub leads-paid : (u v w : View) → Leads u v → Ran v w → pops_where_paid (events v w) ≡ true → pops_where_paid (events u w) ≡ true
leads-paid u v w l r h = ap pops_where_paid (ran-events u v w l.ran r) ∙ paid-join (events u v) (events v w) (unpopped (events u v) l.unpopped) h

-- what comes before claims the block, and it is paid for then
pub leads-claimed : (u v w : View) → Leads u v → Ran v w → some_event claims (events u v) ≡ true → some_event claims (events v w) ≡ false → pops_where_paid (events u w) ≡ true
leads-claimed u v w l r h n = ap pops_where_paid (ran-events u v w l.ran r) ∙ claimed-paid (events u v) (events v w) h (unpopped (events u v) l.unpopped) n

-- what comes before pops nothing, and nothing was popped if the answer is none
pub none-pops : (o : Option Refill) (u v w : View) → Leads u v → Ran v w → IfNone o (IsFalse (some_event pops (events v w))) → IfNone o (IsFalse (some_event pops (events u w)))
none-pops None u v w l r h = ap (some_event pops) (ran-events u v w l.ran r) ∙ some-none pops (events u v) (events v w) l.unpopped h
none-pops (Some x) u v w l r h = tt
