use Rattle.std.proofs.Common.{sym, ap, ◌∙◌, ◌+◌}
use Rattle.mark_core.specs.Numbers.{empty_offset}
use Rattle.mark_core.specs.declared.kinds.Shape.{Shape}
use Rattle.gc_table.specs.Log.{events}
use Rattle.gc_table.specs.Seats.{view_of}
use Rattle.gc_table.specs.declared.view.View.{View}
use Rattle.gc_table.proofs.Running.{ran-events, ran-join}
use Rattle.packet_pools.specs.Seeking.{some_event}
use Rattle.packet_pools.proofs.Searches.{some-right}
use Rattle.gc_cycle.specs.Sorts.{sees_all_empty}
use Rattle.gc_cycle.specs.Standing.{is_at_rest}
use Rattle.gc_cycle.specs.Turns.{round_quota}
use Rattle.gc_cycle.proofs.Turns.{has-traced, brings-back, traced-within}
use Rattle.gc_cycle.proofs.Traced.{drains-on, drains-rest, drains-trace, rescans-last}
use Rattle.gc_cycle.proofs.draining.trace_and_look.Goals as goal

pub recycle_deferred-requires-clause-seat : goal.recycle_deferred-requires-clause-seat
recycle_deferred-requires-clause-seat c = (c.requires.seat, drains-trace (view_of c.args.seat.now) c.requires.drains)

pub recycle_deferred-requires-clause-rest : goal.recycle_deferred-requires-clause-rest
recycle_deferred-requires-clause-rest c =
    let v : View = view_of c.args.seat.now in ap (λ (sh : Shape). is_at_rest sh v.state) (sym c.requires.seat.1) ∙ drains-rest v c.requires.drains

pub trace-requires-clause-seat : goal.trace-requires-clause-seat
trace-requires-clause-seat c =
    let w : View = view_of c.recycle_deferred.new.seat in
    (c.recycle_deferred.ensures.seat, drains-trace w (drains-on (view_of c.args.seat.now) w c.requires.drains c.recycle_deferred.ensures.traced))

pub returns-clause-traced : goal.returns-clause-traced
returns-clause-traced c =
    let v : View = view_of c.args.seat.now in
    let w : View = view_of c.recycle_deferred.new.seat in
    let x : View = view_of c.trace.new.seat in
    let y : View = view_of c.sees_all_empty.new.seat in
    has-traced v w y c.recycle_deferred.ensures.traced (has-traced w x y c.trace.ensures.traced c.sees_all_empty.ensures.traced)

pub returns-clause-rescanned : goal.returns-clause-rescanned
returns-clause-rescanned c =
    rescans-last (view_of c.args.seat.now) (view_of c.recycle_deferred.new.seat) (view_of c.trace.new.seat) (view_of c.sees_all_empty.new.seat) 0
    c.recycle_deferred.ensures.traced.ran c.trace.ensures.traced.ran c.sees_all_empty.ensures.traced.ran c.recycle_deferred.ensures.rescanned c.trace.ensures.rescanned c.sees_all_empty.ensures.rescanned

pub returns-clause-worked : goal.returns-clause-worked
returns-clause-worked c =
    traced-within round_quota c.trace.result (view_of c.args.seat.now) (view_of c.recycle_deferred.new.seat) (view_of c.trace.new.seat) (view_of c.sees_all_empty.new.seat)
    c.recycle_deferred.ensures.traced.ran c.trace.ensures.traced.ran c.sees_all_empty.ensures.traced.ran c.trace.ensures.ends

pub returns-clause-empty : goal.returns-clause-empty
returns-clause-empty c = λ yes.
    let v : View = view_of c.args.seat.now in
    let w : View = view_of c.recycle_deferred.new.seat in
    let x : View = view_of c.trace.new.seat in
    let y : View = view_of c.sees_all_empty.new.seat in
    let f = sees_all_empty (empty_offset + c.args.heap.now.shape.packets) in
    ap (some_event f) (ran-events v x y (ran-join v w x c.recycle_deferred.ensures.traced.ran c.trace.ensures.traced.ran) c.sees_all_empty.ensures.traced.ran)
    ∙ some-right f (events v x) (events x y) (c.sees_all_empty.ensures.empty yes)

pub returns-clause-brings : goal.returns-clause-brings
returns-clause-brings c =
    let v : View = view_of c.args.seat.now in
    let w : View = view_of c.recycle_deferred.new.seat in
    let x : View = view_of c.trace.new.seat in
    let y : View = view_of c.sees_all_empty.new.seat in
    let r = c.recycle_deferred.ensures in
    brings-back c.args.heap.now.shape c.recycle_deferred.result v w y c.requires.seat.1 r.traced.ran r.recycled (ran-join w x y c.trace.ensures.traced.ran c.sees_all_empty.ensures.traced.ran)
