use Rattle.std.proofs.Common.{ℕ, ◌≡◌, ◌≤◌, ◌∙◌, arith, refl, subst, sym, Bool, true, false}
use Rattle.std.specs.Prelude.{if◌then◌else◌}
use Rattle.shared_heap.specs.Logs.{AddsRaises}
use Rattle.shared_heap.proofs.Logs.{same-quiet}
use Rattle.example_heaps.proofs.Joined.{raises-first}
use Rattle.example_heaps.proofs.counting.round.Goals as goal
use mir.Val.{bool_byte}

byte : (b : Bool) → bool_byte b ≡ (if b then 1 else 0)
byte true = refl
byte false = refl

one : (b : Bool) → bool_byte b ≤ 1
one true = omega arith
one false = omega arith

pub returns-in-Ok : goal.returns-in-Ok
returns-in-Ok g c =
    let x = c.args.m.now in
    let y = c.raise_once.new.m in
    let z = c.safe_point.new.self in
    let won = c.in_ok-won.won in
    record {
      raised = (
        subst (λ (n : ℕ). n ≤ 1) (sym c.from.ensures) (one won),
        subst (λ (n : ℕ). AddsRaises n x z) (sym (c.from.ensures ∙ byte won)) (raises-first x y z (if won then 1 else 0) c.in_ok-won.ensures.raised (same-quiet y z c.in-Ok.ensures.passed.same)),
      );
    }
