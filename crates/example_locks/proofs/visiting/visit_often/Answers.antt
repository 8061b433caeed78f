use Rattle.std.proofs.Common.{ℕ, ◌≡◌, ◌+◌, arith, subst}
use Rattle.std.specs.Prelude.{false}
use Rattle.example_locks.specs.Visits.{AddsVisits}
use Rattle.example_locks.proofs.Calls.{visits-then}
use Rattle.example_locks.proofs.visiting.visit_often.Goals as goal

pub loop-preserved : goal.loop-preserved
loop-preserved g c =
    let d = c.loop.done in
    let x = c.args.m.now in
    let z = c.visit_once.new.m in
    let less = c.if-done-times.false in
    let sum : (d + d) + 2 ≡ (d + 1) + (d + 1) = omega arith in
    record {
      next = tt;
      finite = tt;
      visited = subst (λ (k : ℕ). AddsVisits false false k x z) sum (visits-then x c.loop.m z false false false (d + d) 2 c.loop.invariant.visited c.in_ok-whole.ensures.visited);
      below = omega (arith, less);
    }
