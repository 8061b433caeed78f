use Rattle.std.proofs.Common.{ap, sym, ◌∙◌, ◌≡◌, ◌≤◌, ◌&&◌, true, Some, length, subst, refl}
use Rattle.std.specs.Prelude.{is_none}
use Rattle.std.proofs.lemmas.Bool.{and_from, or_right}
use Rattle.mark_core.specs.Seats.{saw}
use Rattle.mark_core.specs.declared.kinds.Phase.TheVariants.{Drain}
use Rattle.mark_core.specs.declared.kinds.Shape.{Shape}
use Rattle.mark_core.specs.declared.seat.SeatState.{SeatState}
use Rattle.gc_table.specs.Log.{events}
use Rattle.gc_table.specs.Seats.{view_of}
use Rattle.gc_table.specs.declared.view.View.{View}
use Rattle.packet_pools.specs.Tracing.{traces}
use Rattle.tracer.specs.StepBounds.{trace_steps}
use Rattle.gc_cycle.specs.Lower.{HasTraced}
use Rattle.gc_cycle.specs.Standing.{IsAdmitted, is_at_rest}
use Rattle.gc_cycle.proofs.Stops.Beside.{traces-beside}
use Rattle.gc_cycle.proofs.Stops.OutAndIn.{no-cache}
use Rattle.gc_cycle.proofs.Traced.{nothing-rest, rest-nothing}
use Rattle.gc_cycle.proofs.Turns.{traced-for}
use Rattle.gc_cycle.proofs.help_turns.trace_helping.Goals as goal

helper-traces : (v : View) → v.state.admitted ≡ true → v.state.phase_seen ≡ Some Drain → traces v ≡ true
helper-traces v a p = or_right _ (v.state.admitted && saw v.state.phase_seen Drain) (and_from _ _ a (ap (λ o. saw o Drain) p))

admitted-still : (v w : View) → IsAdmitted v → HasTraced v w → IsAdmitted w
admitted-still v w a t =
    record {
      admitted = ap (λ (s : SeatState). s.admitted) t.record_is ∙ a.admitted;
      rest = rest-nothing w.shape w.state t.rest (ap (λ (s : SeatState). is_none s.cache) t.record_is ∙ ap (λ o. is_none o) (no-cache v.shape v.state a.rest));
    }

pub trace-requires-clause-seat : goal.trace-requires-clause-seat
trace-requires-clause-seat c = let q = c.requires.seat in (q.0, helper-traces (view_of c.args.seat.now) q.1.admitted c.requires.drain)

pub trace-requires-clause-rest : goal.trace-requires-clause-rest
trace-requires-clause-rest c =
    let v : View = view_of c.args.seat.now in
    let q = c.requires.seat in
    ap (λ (sh : Shape). is_at_rest sh v.state) (sym q.0.1) ∙ nothing-rest v.shape v.state q.1.rest

pub returns : goal.returns
returns c =
    let v : View = view_of c.args.seat.now in
    let w : View = view_of c.trace.new.seat in
    let e = c.trace.ensures in
    let r = c.trace.result in
    record {
      seat = (e.seat, admitted-still v w c.requires.seat.1 e.traced);
      stays = traces-beside v w e.traced.ran e.traced.only;
      traces =
          record {
            only = e.traced.only;
            popped = e.ends.done;
            within = e.most;
            worked = traced-for r.stopped c.args.objects r v w refl e.ends;
            few = subst (λ (sh : Shape). length (events v w) ≤ trace_steps r.done sh) (sym c.requires.seat.0.1) e.few;
          };
    }
