use Rattle.std.proofs.Common.{inl, inr}
use Rattle.std.proofs.lemmas.Result.{IfErr-weaker, IfOk-weaker}
use Rattle.gc_table.specs.Seats.{view_of}
use Rattle.gc_table.specs.declared.view.View.{View}
use Rattle.seat_turns.proofs.Held.{turn-holds}
use Rattle.seat_turns.proofs.Leaving.{leaves-join}
use Rattle.shared_heap.proofs.Passed.{stopped-by, stopped-out}
use Rattle.shared_heap.proofs.passing.pass.Goals as goal

pub returns-in-Done : goal.returns-in-Done
returns-in-Done g c = record { ok = c.in-Done.ensures.arrives; err = tt; leaves = c.pass_once.ensures.leaves; passes = inl c.in-Done.ensures.found; full = tt }

pub returns-in-Full : goal.returns-in-Full
returns-in-Full g c = record { ok = tt; err = c.in-Full.ensures.arrives; leaves = c.pass_once.ensures.leaves; passes = tt; full = inl c.in-Full.ensures.found }

pub enter_turn-requires : goal.enter_turn-requires
enter_turn-requires g c = record { waits = stopped-out c.pass_once.result c.args.heap.now c.pass_once.new.seat c.in_default.not-Done c.in_default.not-Full c.pass_once.ensures.arrives }

pub returns-in_default : goal.returns-in_default
returns-in_default g c =
    let u : View = view_of c.args.seat.now in
    let v : View = view_of c.pass_once.new.seat in
    let w : View = view_of c.enter_turn.new.seat in
    let p = c.pass_once.ensures in
    let e = c.enter_turn.ensures in
    let stopped = stopped-by c.pass_once.result u v c.in_default.not-Done c.in_default.not-Full p.found in
    record {
      ok = IfOk-weaker c.enter_turn.result _ _ (λ _ t. turn-holds c.args.heap.now c.enter_turn.new.seat t) e.ok;
      err = e.err;
      leaves = leaves-join u v w p.leaves e.leaves;
      passes = IfOk-weaker c.enter_turn.result _ _ (λ _ k. inr (record { left = v; leaves = stopped; later = k })) e.enters;
      full = IfErr-weaker c.enter_turn.result _ _ (λ _ k. inr (record { left = v; leaves = stopped; later = k })) e.full;
    }
