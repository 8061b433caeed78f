use Rattle.std.proofs.Common.{ℕ, ◌≡◌, ◌+◌, arith, subst}
use Rattle.std.specs.Prelude.{Bool, false, if◌then◌else◌}
use Rattle.example_locks.specs.Visits.{AddsVisits}
use Rattle.example_locks.proofs.Calls.{visits-then}
use Rattle.example_locks.proofs.visiting.take.Goals as goal

none_before : (n : ℕ) → 0 + n ≡ n
none_before n = omega arith

pub loop-preserved : goal.loop-preserved
loop-preserved g c =
    let x = c.args.m.now in
    let y = c.loop.m in
    let z = c.try_take.new.m in
    let won = c.in-Some-try_take.won in
    let n : ℕ = if won then 1 else 0 in
    let none : AddsVisits false false 0 x y = subst (λ (b : Bool). AddsVisits false b (if b then 1 else 0) x y) c.if-had.false c.loop.invariant.taken in
    record { next = tt; finite = tt; taken = subst (λ (k : ℕ). AddsVisits false won k x z) (none_before n) (visits-then x y z false false won 0 n none c.in-Some-try_take.ensures.taken) }
