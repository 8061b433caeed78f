-- A mutator's collection ends one cycle, exactly.
use Rattle.std.proofs.Common.{ℕ, ◌≡◌, ◌+◌, ◌≤◌, arith, refl, ap, ◌∙◌, true, false}
use Rattle.std.proofs.lemmas.Bool.{false≢true}
use Rattle.mark_core.specs.declared.kinds.Step.{Step}
use Rattle.mark_core.specs.declared.kinds.Step.TheVariants.{StorePhase}
use Rattle.gc_table.specs.Log.{Only, events}
use Rattle.gc_table.specs.Running.{Ran}
use Rattle.gc_table.specs.declared.view.View.{View}
use Rattle.gc_table.proofs.Running.{ran-events, ran-join}
use Rattle.packet_pools.specs.Counts.{count_of}
use Rattle.packet_pools.proofs.Counting.{count-join}
use Rattle.gc_cycle.specs.Collecting.{EndsExactly}
use Rattle.gc_cycle.specs.Cycles.{collects}
use Rattle.gc_cycle.specs.Mutating.{tries_stopping}
use Rattle.gc_cycle.specs.Sorts.{begins_exactly, ends_cycle}
use Rattle.gc_cycle.proofs.Sequences.{count-none, followed-later, none-of-steps}

-- a seat that tries to stop the world ends no cycle
pub tries-unended : (step : Step) (n : ℕ) → tries_stopping step ≡ true → ends_cycle step n ≡ false
tries-unended (StorePhase to) n e = absurd (false≢true e)
tries-unended step n e = refl

pub tried-unended : (v w : View) → Only tries_stopping v w → count_of ends_cycle (events v w) ≡ 0
tried-unended v w o = count-none ends_cycle (events v w) (none-of-steps tries_stopping ends_cycle tries-unended (events v w) o)

-- the cycles of one call after another
pub cycles-join : (u v w : View) (k n : ℕ) → Ran u v → Ran v w → count_of ends_cycle (events u v) ≡ k → count_of ends_cycle (events v w) ≤ n → count_of ends_cycle (events u w) ≤ k + n
cycles-join u v w k n r q a b = let all = ap (count_of ends_cycle) (ran-events u v w r q) ∙ count-join ends_cycle (events u v) (events v w) in omega (arith, all, a, b)

-- an exact end with more done before and after it
pub exactly-within : (u v w x : View) → Ran u v → Ran w x → EndsExactly v w → EndsExactly u x
exactly-within u v w x r q e =
    record {
      ended = e.ended;
      before = ran-join u v e.ended r e.before;
      later = ran-join e.ended w x e.later q;
      stopped = e.stopped;
      collects = ap collects (ran-events u v e.ended r e.before) ∙ followed-later begins_exactly ends_cycle (events u v) (events v e.ended) e.collects;
      exact = e.exact;
    }
