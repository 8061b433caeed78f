use Rattle.std.proofs.Common.{subst, sym, ap, ◌∙◌}
use Rattle.mark_core.specs.declared.kinds.Shape.{Shape}
use Rattle.gc_table.specs.Log.{events}
use Rattle.gc_table.proofs.Running.{ran-join}
use Rattle.card_clean.specs.DirtyCards.{CleansDirty}
use Rattle.gc_table.specs.Seats.{view_of}
use Rattle.gc_table.specs.declared.view.View.{View}
use Rattle.gc_cycle.specs.Standing.{is_at_rest}
use Rattle.gc_cycle.proofs.Turns.{has-traced, brings-back, traced-within}
use Rattle.mark_core.specs.declared.seat.SeatState.{SeatState}
use Rattle.packet_pools.specs.Seeking.{deferred_pools}
use Rattle.gc_cycle.proofs.Ends.Rounds.{shrinks}
use Rattle.gc_cycle.proofs.Ends.Settled.{knows-still}
use Rattle.gc_cycle.proofs.Traced.{drains-on, drains-rest, drains-trace, rescans-last, traced-part}
use Rattle.gc_cycle.proofs.Ends.Uses.{uses-up}
use Rattle.gc_cycle.proofs.draining.drain_round.Goals as goal

pub recycle_deferred-requires-clause-seat : goal.recycle_deferred-requires-clause-seat
recycle_deferred-requires-clause-seat c = (c.requires.seat, drains-trace (view_of c.args.seat.now) c.requires.drains)

pub recycle_deferred-requires-clause-rest : goal.recycle_deferred-requires-clause-rest
recycle_deferred-requires-clause-rest c =
    let v : View = view_of c.args.seat.now in ap (λ (sh : Shape). is_at_rest sh v.state) (sym c.requires.seat.1) ∙ drains-rest v c.requires.drains

pub trace-requires-clause-seat : goal.trace-requires-clause-seat
trace-requires-clause-seat c =
    let w : View = view_of c.recycle_deferred.new.seat in
    (c.recycle_deferred.ensures.seat, drains-trace w (drains-on (view_of c.args.seat.now) w c.requires.drains c.recycle_deferred.ensures.traced))

pub clean_dirty-requires-clause-seat : goal.clean_dirty-requires-clause-seat
clean_dirty-requires-clause-seat c =
    let v : View = view_of c.args.seat.now in
    let w : View = view_of c.recycle_deferred.new.seat in
    let x : View = view_of c.trace.new.seat in
    (c.trace.ensures.seat, drains-trace x (drains-on w x (drains-on v w c.requires.drains c.recycle_deferred.ensures.traced) c.trace.ensures.traced))

pub returns-clause-traced : goal.returns-clause-traced
returns-clause-traced c =
    let v : View = view_of c.args.seat.now in
    let w : View = view_of c.recycle_deferred.new.seat in
    let x : View = view_of c.trace.new.seat in
    has-traced v w (view_of c.clean_dirty.new.seat) c.recycle_deferred.ensures.traced (has-traced w x (view_of c.clean_dirty.new.seat) c.trace.ensures.traced c.clean_dirty.ensures.traced)

pub returns-clause-rescanned : goal.returns-clause-rescanned
returns-clause-rescanned c =
    rescans-last (view_of c.args.seat.now) (view_of c.recycle_deferred.new.seat) (view_of c.trace.new.seat) (view_of c.clean_dirty.new.seat) c.clean_dirty.result
    c.recycle_deferred.ensures.traced.ran c.trace.ensures.traced.ran c.clean_dirty.ensures.traced.ran c.recycle_deferred.ensures.rescanned c.trace.ensures.rescanned c.clean_dirty.ensures.rescanned

pub returns-clause-worked : goal.returns-clause-worked
returns-clause-worked c =
    traced-within c.args.quota c.trace.result (view_of c.args.seat.now) (view_of c.recycle_deferred.new.seat) (view_of c.trace.new.seat) (view_of c.clean_dirty.new.seat)
    c.recycle_deferred.ensures.traced.ran c.trace.ensures.traced.ran c.clean_dirty.ensures.traced.ran c.trace.ensures.ends

pub returns-clause-cleans : goal.returns-clause-cleans
returns-clause-cleans c =
    let v : View = view_of c.args.seat.now in
    let w : View = view_of c.recycle_deferred.new.seat in
    let x : View = view_of c.trace.new.seat in
    let y : View = view_of c.clean_dirty.new.seat in
    record {
      traced = x;
      first = ran-join v w x c.recycle_deferred.ensures.traced.ran c.trace.ensures.traced.ran;
      last = c.clean_dirty.ensures.traced.ran;
      count = c.clean_dirty.result;
      cleans = subst (λ (sh : Shape). CleansDirty sh c.clean_dirty.result (events x y)) (sym c.requires.seat.1) c.clean_dirty.ensures.cleans;
    }

pub returns-clause-brings : goal.returns-clause-brings
returns-clause-brings c =
    let v : View = view_of c.args.seat.now in
    let w : View = view_of c.recycle_deferred.new.seat in
    let x : View = view_of c.trace.new.seat in
    let y : View = view_of c.clean_dirty.new.seat in
    let r = c.recycle_deferred.ensures in
    brings-back c.args.heap.now.shape c.recycle_deferred.result v w y c.requires.seat.1 r.traced.ran r.recycled (ran-join w x y c.trace.ensures.traced.ran c.clean_dirty.ensures.traced.ran)

pub returns-clause-uses : goal.returns-clause-uses
returns-clause-uses c = λ alone. let t = returns-clause-traced c in uses-up (view_of c.args.seat.now) (view_of c.clean_dirty.new.seat) t.ran t.only alone

pub returns-clause-shrinks : goal.returns-clause-shrinks
returns-clause-shrinks c = λ alone some.
    let v : View = view_of c.args.seat.now in
    let w : View = view_of c.recycle_deferred.new.seat in
    let x : View = view_of c.trace.new.seat in
    let r = c.recycle_deferred.ensures in
    let t = c.trace.ensures in
    let d = c.clean_dirty.ensures in
    let aw = (traced-part v w alone r.traced).alone in
    let ax = (traced-part w x aw t.traced).alone in
    let still = knows-still v c.args.seat.now.possible alone.rest.knows in
    let still' = ap (λ (s : SeatState). s.active) r.traced.record_is ∙ still in
    shrinks c.args.heap.now.shape c.args.quota c.trace.result.done c.clean_dirty.result deferred_pools v w x (view_of c.clean_dirty.new.seat) c.requires.seat.1 alone still some r.traced r.recycled.moves (r.outside alone.rest.alone) t.traced t.ends.done t.noted
    (t.spills aw.alone still') d.traced (d.packet ax.rest.alone) (d.spills (ap (λ (s : SeatState). s.active) t.traced.record_is ∙ still'))
