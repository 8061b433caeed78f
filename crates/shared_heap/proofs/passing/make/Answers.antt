use Rattle.std.proofs.Common.{inl, inr}
use Rattle.std.proofs.lemmas.Result.{IfErr-weaker, IfOk-weaker}
use Rattle.gc_table.specs.Seats.{view_of}
use Rattle.gc_table.specs.declared.view.View.{View}
use Rattle.seat_turns.proofs.Leaving.{leaves-join}
use Rattle.shared_heap.proofs.Passed.{left-none}
use Rattle.shared_heap.proofs.passing.make.Goals as goal

pub returns-in-Ok : goal.returns-in-Ok
returns-in-Ok g c =
    let u : View = view_of c.args.seat.now in
    let v : View = view_of c.pass.new.seat in
    let w : View = view_of c.make_on.new.seat in
    let p = c.in-Ok.ensures.passes in
    let l = c.pass.ensures.leaves in
    let m = c.make_on.ensures in
    record {
      ok = IfOk-weaker c.make_on.result _ _ (λ _ k. (k.0, record { came = k.1.came; leaves = leaves-join u v k.1.came l k.1.leaves; makes = k.1.makes })) m.ok;
      err = m.err;
      leaves = IfErr-weaker c.make_on.result _ _ (λ _ k. leaves-join u v w l k) m.leaves;
      made = IfOk-weaker c.make_on.result _ _ (λ _ k. record { passed = v; passes = p; later = k }) m.made;
      none = IfErr-weaker c.make_on.result _ _ (λ e k. inr (record { passed = v; passes = p; later = k })) m.none;
    }

pub returns-in-Err : goal.returns-in-Err
returns-in-Err g c =
    let e = c.in-Err.ensures in
    record { ok = tt; err = left-none c.in-Err.full c.args.heap.now c.pass.new.seat e.err; leaves = c.pass.ensures.leaves; made = tt; none = inl e.full }
