use Rattle.std.proofs.Common.{false, inl, inr, subst}
use Rattle.std.proofs.lemmas.Bool.{OnFalse_at, OnTrue_at}
use Rattle.std.proofs.lemmas.Result.{IfErr-weaker, IfOk-weaker}
use Rattle.gc_table.specs.Seats.{view_of}
use Rattle.gc_table.specs.declared.view.View.{View}
use Rattle.seat_turns.specs.Coming.{FlushesFirst, MakesNoneAtTurn, MakesSharedAtTurn}
use Rattle.seat_turns.specs.Sharing.{LeavesHeap, MakesSharedAfter}
use Rattle.seat_turns.proofs.Leaving.{leaves-none}
use Rattle.shared_heap.proofs.Passed.{none-left}
use Rattle.shared_heap.proofs.passing.make_on.Goals as goal

pub returns-then-makes_here : goal.returns-then-makes_here
returns-then-makes_here g c =
    let u : View = view_of c.args.seat.now in
    let made = OnTrue_at c.if-makes_here.true c.makes_here.ensures.made in
    record { ok = (c.makes_here.ensures.turn, record { came = u; leaves = leaves-none u; makes = made }); err = tt; leaves = tt; made = inl made; none = tt }

pub returns : goal.returns
returns g c =
    let u : View = view_of c.args.seat.now in
    let w : View = view_of c.make_flushed.new.seat in
    let same = OnFalse_at c.if-makes_here.false c.makes_here.ensures.none in
    let m = c.make_flushed.ensures in
    let sh = c.args.heap.now.shape in
    record {
      ok = IfOk-weaker c.make_flushed.result _ _ (λ _ k. (k.0, subst (λ (x : View). MakesSharedAfter c.args.v c.args.value x w) same k.1)) m.ok;
      err = IfErr-weaker c.make_flushed.result _ _ (λ e k. none-left e c.args.heap.now c.make_flushed.new.seat k) m.err;
      leaves = IfErr-weaker c.make_flushed.result _ _ (λ _ k. subst (λ (x : View). LeavesHeap x w) same k) m.leaves;
      made = IfOk-weaker c.make_flushed.result _ _ (λ _ k. inr (subst (λ (x : View). FlushesFirst (MakesSharedAtTurn sh c.args.v c.args.value) x w) same k)) m.made;
      none = IfErr-weaker c.make_flushed.result _ _ (λ e k. subst (λ (x : View). FlushesFirst (MakesNoneAtTurn e false sh) x w) same k) m.none;
    }
