use Rattle.std.proofs.Common.{ap, ◌∙◌, ◌+◌, ◌≤◌, arith, sym, inl, inr, ⊎_elim}
use Rattle.std.specs.Prelude.{is_none}
use Rattle.mark_core.specs.Held.{holds_any}
use Rattle.mark_core.specs.Seats.{work_in_hand}
use Rattle.mark_core.specs.declared.kinds.Shape.{Shape}
use Rattle.gc_table.specs.Seats.{view_of}
use Rattle.gc_table.specs.declared.view.View.{View}
use Rattle.packet_pools.proofs.Few.{few-join}
use Rattle.tracer.specs.StepBounds.{trace_steps}
use Rattle.tracer.proofs.Few.{traces-fewer}
use Rattle.seat_turns.specs.StepBounds.{late_steps}
use Rattle.seat_turns.specs.Tending.{turn_quota}
use Rattle.seat_turns.proofs.CardPass.{passes-after}
use Rattle.seat_turns.proofs.TracerStanding.{empty-of, is-none, marks-idle, marks-later, marks-trace}
use Rattle.seat_turns.proofs.Tending.{tends-by}
use Rattle.seat_turns.proofs.tracer_marking.mark_some.Goals as goal

pub trace-traced-requires-clause-seat : goal.trace-traced-requires-clause-seat
trace-traced-requires-clause-seat c = (c.requires.goes.sits, marks-trace c.args.heap.now c.args.seat.now c.requires)

pub trace-traced-requires-clause-idle : goal.trace-traced-requires-clause-idle
trace-traced-requires-clause-idle c = marks-idle c.args.heap.now c.args.seat.now c.args.seat.now.possible c.requires

pub clean_after-requires : goal.clean_after-requires
clean_after-requires c =
    let h = c.args.heap.now in
    let x = c.args.seat.now in
    let y = c.trace-traced.new.seat in
    let e = c.trace-traced.ensures in
    marks-later h x y c.requires e.only e.seat.0 e.seat.1 (ap holds_any e.idle.held) (ap (λ (sh : Shape). work_in_hand sh.fields (view_of y).state) (sym e.seat.0.1) ∙ e.idle.work)
    (ap is_none (e.state.owes (is-none (view_of x).state.owes (empty-of h.shape (view_of x).state c.requires.goes.idle).owes)))

pub returns-clause-marks : goal.returns-clause-marks
returns-clause-marks c =
    let v : View = view_of c.args.seat.now in
    let u : View = view_of c.trace-traced.new.seat in
    let e = c.trace-traced.ensures in
    record {
      between = u;
      traces = record { tends = tends-by c.trace-traced.result.done v u e.only e.tally.done; only = e.only.only; ends = ⊎_elim (λ q. inl q.1) (λ q. inr (q.1, q.2)) e.stopped; defers = e.deferral };
      cards = c.clean_after.ensures.tends;
      passes = passes-after c.trace-traced.result.stopped c.trace-traced.result.done v u (view_of c.clean_after.new.seat) e.stopped c.clean_after.ensures.passes;
    }

pub returns-clause-few : goal.returns-clause-few
returns-clause-few c =
    let sh : Shape = c.args.heap.now.shape in
    let a = c.trace-traced.ensures in
    let b = c.clean_after.ensures in
    let traced = a.few in
    let done : c.trace-traced.result.done ≤ turn_quota = ⊎_elim (λ q. omega (arith, q.1)) (λ q. omega (arith, q.1)) a.stopped in
    let most = traces-fewer c.trace-traced.result.done turn_quota sh done in
    let all = few-join (trace_steps turn_quota sh) (late_steps sh) (view_of c.args.seat.now) (view_of c.trace-traced.new.seat) (view_of c.clean_after.new.seat) a.only.ran b.tends.tends.ran (omega (arith, traced, most)) b.few in
    omega (arith, all)
