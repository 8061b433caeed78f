use Rattle.std.proofs.Common.{ap, ◌∙◌, refl, subst, sym}
use Rattle.std.specs.Prelude.{is_none}
use Rattle.mark_core.specs.Held.{holds_any}
use Rattle.mark_core.specs.Seats.{work_in_hand}
use Rattle.mark_core.specs.declared.kinds.Shape.{Shape}
use Rattle.mark_core.specs.declared.seat.SeatState.{SeatState}
use Rattle.gc_table.specs.Log.{events}
use Rattle.gc_table.specs.Seats.{view_of}
use Rattle.gc_table.specs.declared.view.View.{View}
use Rattle.packet_pools.specs.Seeking.{deferred_pools}
use Rattle.packet_pools.proofs.Few.{few-join}
use Rattle.tracer.specs.Recycling.{Recycled}
use Rattle.tracer.specs.StepBounds.{recycle_steps}
use Rattle.seat_turns.specs.StepBounds.{turn_steps}
use Rattle.seat_turns.proofs.TracerStanding.{empty-of, marks-idle, marks-later, marks-trace}
use Rattle.seat_turns.proofs.Tending.{marks-tend, moves-pop, tends-by, tends-join}
use Rattle.seat_turns.proofs.tracer_marking.mark_and_recycle.Goals as goal

pub recycle_deferred-requires-clause-seat : goal.recycle_deferred-requires-clause-seat
recycle_deferred-requires-clause-seat c = let m = c.mark_some-traced.ensures.seat in (m.goes.sits, marks-trace c.args.heap.now c.mark_some-traced.new.seat m)

pub recycle_deferred-requires-clause-idle : goal.recycle_deferred-requires-clause-idle
recycle_deferred-requires-clause-idle c = marks-idle c.args.heap.now c.mark_some-traced.new.seat c.mark_some-traced.new.seat.possible c.mark_some-traced.ensures.seat

pub returns-clause-seat : goal.returns-clause-seat
returns-clause-seat c =
    let h = c.args.heap.now in
    let x = c.mark_some-traced.new.seat in
    let m = c.mark_some-traced.ensures.seat in
    let e = c.recycle_deferred.ensures in
    let n = empty-of h.shape (view_of x).state m.goes.idle in
    marks-later h x c.recycle_deferred.new.seat m e.only e.seat.0 e.seat.1 (ap (λ (s : SeatState). holds_any s.held) e.state ∙ n.held)
    (ap (λ (s : SeatState). work_in_hand h.shape.fields s) e.state ∙ n.work) (ap (λ (s : SeatState). is_none s.owes) e.state ∙ n.owes)

pub returns-clause-marks : goal.returns-clause-marks
returns-clause-marks c =
    let u : View = view_of c.mark_some-traced.new.seat in
    let w : View = view_of c.recycle_deferred.new.seat in
    let m = c.mark_some-traced.ensures.marks in
    let e = c.recycle_deferred.ensures in
    record {
      between = m.between;
      traces = m.traces;
      tends = tends-join 0 0 0 m.between u w refl m.cards.tends (tends-by 0 u w e.only (moves-pop deferred_pools (events u w) e.recycled.moves));
      tended = u;
      cards = m.cards;
      passes = m.passes;
      ran = e.only.ran;
      brings = (c.recycle_deferred.result, subst (λ (sh : Shape). Recycled sh c.recycle_deferred.result (events u w)) (sym c.requires.goes.sits.1) e.recycled);
    }

pub returns-clause-few : goal.returns-clause-few
returns-clause-few c =
    let v : View = view_of c.args.seat.now in
    let u : View = view_of c.mark_some-traced.new.seat in
    let a = c.mark_some-traced.ensures in
    let b = c.recycle_deferred.ensures in
    few-join (turn_steps c.args.heap.now.shape) (recycle_steps c.args.heap.now.shape) v u (view_of c.recycle_deferred.new.seat) (marks-tend c.mark_some-traced.result v u a.marks).ran b.only.ran a.few b.few
