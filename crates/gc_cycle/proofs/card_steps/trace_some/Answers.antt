use Rattle.std.proofs.Common.{arith, sym, ap, ◌∙◌}
use Rattle.mark_core.specs.declared.kinds.Shape.{Shape}
use Rattle.gc_table.specs.Log.{events}
use Rattle.gc_table.specs.Seats.{view_of}
use Rattle.gc_table.specs.declared.view.View.{View}
use Rattle.gc_table.proofs.Running.{ran-refl}
use Rattle.gc_cycle.specs.Sorts.{pops}
use Rattle.gc_cycle.specs.Standing.{is_at_rest}
use Rattle.gc_cycle.proofs.Turns.{has-traced, brings-back, traced-within}
use Rattle.gc_cycle.proofs.Stops.Admitted.{count-none, count-run}
use Rattle.gc_cycle.proofs.Traced.{drains-on, drains-rest, drains-trace}
use Rattle.tracer.specs.StepBounds.{recycle_steps, trace_steps}
use Rattle.gc_cycle.proofs.Few.{few-join}
use Rattle.mark_core.specs.declared.seat.SeatState.{SeatState}
use Rattle.packet_pools.specs.Seeking.{deferred_pools}
use Rattle.gc_cycle.proofs.Ends.Settled.{knows-still}
use Rattle.gc_cycle.proofs.Ends.Stepwise.{traced-all, traces-down}
use Rattle.gc_cycle.proofs.Traced.{traced-part}
use Rattle.gc_cycle.proofs.card_steps.trace_some.Goals as goal

pub recycle_deferred-requires-clause-seat : goal.recycle_deferred-requires-clause-seat
recycle_deferred-requires-clause-seat c = (c.requires.seat, drains-trace (view_of c.args.seat.now) c.requires.drains)

pub recycle_deferred-requires-clause-rest : goal.recycle_deferred-requires-clause-rest
recycle_deferred-requires-clause-rest c =
    let v : View = view_of c.args.seat.now in ap (λ (sh : Shape). is_at_rest sh v.state) (sym c.requires.seat.1) ∙ drains-rest v c.requires.drains

pub trace-traced-requires-clause-seat : goal.trace-traced-requires-clause-seat
trace-traced-requires-clause-seat c =
    let w : View = view_of c.recycle_deferred.new.seat in
    let r = c.recycle_deferred.ensures in
    (r.seat, drains-trace w (drains-on (view_of c.args.seat.now) w c.requires.drains r.traced))

pub trace-traced-requires-clause-rest : goal.trace-traced-requires-clause-rest
trace-traced-requires-clause-rest c =
    let w : View = view_of c.recycle_deferred.new.seat in
    let r = c.recycle_deferred.ensures in
    ap (λ (sh : Shape). is_at_rest sh w.state) (sym r.seat.1) ∙ r.traced.rest

pub returns-clause-traced : goal.returns-clause-traced
returns-clause-traced c = has-traced (view_of c.args.seat.now) (view_of c.recycle_deferred.new.seat) (view_of c.trace-traced.new.seat) c.recycle_deferred.ensures.traced c.trace-traced.ensures.traced

pub returns-clause-popped : goal.returns-clause-popped
returns-clause-popped c =
    let v : View = view_of c.args.seat.now in
    let w : View = view_of c.recycle_deferred.new.seat in
    let x : View = view_of c.trace-traced.new.seat in
    let r = c.recycle_deferred.ensures in
    let t = c.trace-traced.ensures in
    let both = count-run pops v w x r.traced.ran t.traced.ran in
    let none = count-none pops (events v w) r.unpopped in
    let done = t.ends.done in
    (t.most, omega (arith, both, none, done))

pub returns-clause-brings : goal.returns-clause-brings
returns-clause-brings c =
    let v : View = view_of c.args.seat.now in
    let w : View = view_of c.recycle_deferred.new.seat in
    let r = c.recycle_deferred.ensures in
    brings-back c.args.heap.now.shape c.recycle_deferred.result v w (view_of c.trace-traced.new.seat) c.requires.seat.1 r.traced.ran r.recycled c.trace-traced.ensures.traced.ran

pub returns-clause-worked : goal.returns-clause-worked
returns-clause-worked c =
    let x : View = view_of c.trace-traced.new.seat in
    let t = c.trace-traced.ensures in
    traced-within c.args.most c.trace-traced.result (view_of c.args.seat.now) (view_of c.recycle_deferred.new.seat) x x c.recycle_deferred.ensures.traced.ran t.traced.ran (ran-refl x) t.ends

pub returns-clause-few : goal.returns-clause-few
returns-clause-few c =
    let sh : Shape = c.args.heap.now.shape in
    let r = c.recycle_deferred.ensures in
    let t = c.trace-traced.ensures in
    few-join (recycle_steps sh) (trace_steps c.trace-traced.result.done sh) (view_of c.args.seat.now) (view_of c.recycle_deferred.new.seat) (view_of c.trace-traced.new.seat) r.traced.ran t.traced.ran r.few t.few

pub returns-clause-falls : goal.returns-clause-falls
returns-clause-falls c = λ alone.
    let v : View = view_of c.args.seat.now in
    let w : View = view_of c.recycle_deferred.new.seat in
    let r = c.recycle_deferred.ensures in
    let t = c.trace-traced.ensures in
    let still = ap (λ (s : SeatState). s.active) r.traced.record_is ∙ knows-still v c.args.seat.now.possible alone.rest.knows in
    traces-down deferred_pools v w (view_of c.trace-traced.new.seat) alone r.traced r.recycled.moves t.traced (t.spills (traced-part v w alone r.traced).alone.alone still)

pub returns-clause-all : goal.returns-clause-all
returns-clause-all c = λ alone some none.
    let v : View = view_of c.args.seat.now in
    let w : View = view_of c.recycle_deferred.new.seat in
    let r = c.recycle_deferred.ensures in
    let t = c.trace-traced.ensures in
    traced-all w (view_of c.trace-traced.new.seat) (traced-part v w alone r.traced).alone t.traced (r.outside alone.rest.alone) (t.noted some none)
