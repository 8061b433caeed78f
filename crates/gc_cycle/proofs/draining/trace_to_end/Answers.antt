use Rattle.std.proofs.Common.{ap, ◌∙◌, ◌+◌}
use Rattle.mark_core.specs.Numbers.{empty_offset}
use Rattle.gc_table.specs.Log.{events}
use Rattle.gc_table.specs.Seats.{view_of}
use Rattle.gc_table.specs.declared.view.View.{View}
use Rattle.gc_table.proofs.History.Log.{events-none}
use Rattle.gc_table.proofs.Running.{ran-events, ran-refl}
use Rattle.packet_pools.specs.Seeking.{some_event}
use Rattle.packet_pools.proofs.Searches.{some-right}
use Rattle.card_clean.specs.Leaving.{rescanned_in}
use Rattle.gc_cycle.specs.Sorts.{sees_all_empty}
use Rattle.gc_cycle.specs.Turns.{round_quota}
use Rattle.gc_cycle.proofs.Turns.{has-traced, drained-within}
use Rattle.gc_cycle.proofs.Traced.{drains-on, drains-rest, rescans-none, traced-nothing-done}
use Rattle.gc_cycle.proofs.draining.trace_to_end.Goals as goal

pub loop-init : goal.loop-init
loop-init g c =
    let v : View = view_of c.args.seat.now in
    record { next = tt; finite = tt; sits = c.requires.seat; drains = c.requires.drains; traced = traced-nothing-done v (drains-rest v c.requires.drains); none = ap (rescanned_in v) (events-none v) }

pub loop-preserved : goal.loop-preserved
loop-preserved g c =
    let v : View = view_of c.args.seat.now in
    let w : View = view_of c.loop.seat in
    let x : View = view_of c.trace_and_look.new.seat in
    let i = c.loop.invariant in
    let e = c.trace_and_look.ensures in
    record {
      next = tt;
      finite = tt;
      sits = e.seat;
      drains = drains-on w x i.drains e.traced;
      traced = has-traced v w x i.traced e.traced;
      none = rescans-none v w x i.traced.ran e.traced.ran i.none e.rescanned;
    }

pub returns-then-trace_and_look-clause-traced : goal.returns-then-trace_and_look-clause-traced
returns-then-trace_and_look-clause-traced g c = has-traced (view_of c.args.seat.now) (view_of c.loop.seat) (view_of c.trace_and_look.new.seat) c.loop.invariant.traced c.trace_and_look.ensures.traced

pub returns-then-trace_and_look-clause-rescanned : goal.returns-then-trace_and_look-clause-rescanned
returns-then-trace_and_look-clause-rescanned g c =
    let i = c.loop.invariant in
    let e = c.trace_and_look.ensures in
    rescans-none (view_of c.args.seat.now) (view_of c.loop.seat) (view_of c.trace_and_look.new.seat) i.traced.ran e.traced.ran i.none e.rescanned

pub returns-then-trace_and_look-clause-worked : goal.returns-then-trace_and_look-clause-worked
returns-then-trace_and_look-clause-worked g c =
    let x : View = view_of c.trace_and_look.new.seat in
    let e = c.trace_and_look.ensures in
    drained-within round_quota (view_of c.args.seat.now) (view_of c.loop.seat) x x c.loop.invariant.traced.ran e.traced.ran (ran-refl x) e.worked

pub returns-then-trace_and_look-clause-empty : goal.returns-then-trace_and_look-clause-empty
returns-then-trace_and_look-clause-empty g c =
    let v : View = view_of c.args.seat.now in
    let w : View = view_of c.loop.seat in
    let x : View = view_of c.trace_and_look.new.seat in
    let e = c.trace_and_look.ensures in
    let f = sees_all_empty (empty_offset + c.args.heap.now.shape.packets) in
    ap (some_event f) (ran-events v w x c.loop.invariant.traced.ran e.traced.ran) ∙ some-right f (events v w) (events w x) (e.empty c.if-trace_and_look.true)

pub returns-then-trace_and_look-clause-brings : goal.returns-then-trace_and_look-clause-brings
returns-then-trace_and_look-clause-brings g c = record { begun = view_of c.loop.seat; before = c.loop.invariant.traced.ran; round = c.trace_and_look.ensures.brings }
