use Rattle.std.proofs.Common.{◌≡◌, ◌-◌, drop, length}
use Rattle.mark_core.specs.Steps.{run_of, first_refused}
use Rattle.mark_core.proofs.state.CoreState.run.Given as goal

abbrev pub invariant-loop-i : goal.invariant-loop-i
invariant-loop-i l =
    (run_of (drop l.i l.events) l.self ≡ run_of l.events l.initial.self) × (first_refused l.i (drop l.i l.events) l.self ≡ first_refused 0 l.events l.initial.self)

abbrev pub decreases-loop-i : goal.decreases-loop-i
decreases-loop-i l = length l.events - l.i
