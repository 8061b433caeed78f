use Rattle.std.proofs.Common.{subst, sym}
use Rattle.seat_turns.specs.Coming.{ComesToNone, MakesNoneAtTurn}
use Rattle.seat_turns.specs.declared.refused.Refused.{Refused}
use Rattle.seat_turns.specs.declared.refused.Refused.TheVariants.{Full}
use Rattle.gc_table.specs.Seats.{view_of}
use Rattle.gc_table.proofs.Running.{ran-join, ran-only}
use Rattle.seat_turns.specs.Sharing.{spares_tracers}
use Rattle.seat_turns.proofs.Coming.{own-cache}
use Rattle.gc_table.specs.declared.view.View.{View}
use Rattle.mark_core.specs.declared.kinds.Shape.{Shape}
use Rattle.cache_refills.proofs.Telling.{told-more}
use Rattle.seat_turns.specs.Telling.{TellsFills}
use Rattle.seat_turns.proofs.Telling.{created-untold, fills-last, out-untold}
use Rattle.seat_turns.proofs.operations.make_object.Goals as goal

pub returns-in-Ok-clause-ran : goal.returns-in-Ok-clause-ran
returns-in-Ok-clause-ran g c = ran-join (view_of c.args.seat.now) (view_of c.come_to.new.seat) (view_of c.make_in.new.seat) c.come_to.ensures.leaves.ran c.make_in.ensures.ran

pub returns-in-Ok-clause-tracers : goal.returns-in-Ok-clause-tracers
returns-in-Ok-clause-tracers g c =
    let l = c.come_to.ensures.leaves in
    ran-only spares_tracers (view_of c.args.seat.now) (view_of c.come_to.new.seat) (view_of c.make_in.new.seat) l.ran c.make_in.ensures.ran l.tracers c.make_in.ensures.tracers

pub returns-in-Ok-clause-made : goal.returns-in-Ok-clause-made
returns-in-Ok-clause-made g c =
    let e = c.cache_of-cache.ensures in
    let m = c.make_in.ensures in
    record {
      free = c.in-Ok.free;
      came = view_of c.come_to.new.seat;
      comes = (c.cache_of-cache.result, own-cache c.cache_of-cache.result (view_of c.args.seat.now) e.some e.none, c.in-Ok.ensures.comes);
      leaves = c.come_to.ensures.leaves;
      cell = m.takes.0;
      ran = m.ran;
      makes = m.takes.1;
    }

pub returns-in-Err-Full-clause-ran : goal.returns-in-Err-Full-clause-ran
returns-in-Err-Full-clause-ran g c = ran-join (view_of c.args.seat.now) (view_of c.come_to.new.seat) (view_of c.leave_full.new.seat) c.come_to.ensures.leaves.ran c.leave_full.ensures.ran

pub returns-in-Err-Full-clause-tracers : goal.returns-in-Err-Full-clause-tracers
returns-in-Err-Full-clause-tracers g c =
    let l = c.come_to.ensures.leaves in
    ran-only spares_tracers (view_of c.args.seat.now) (view_of c.come_to.new.seat) (view_of c.leave_full.new.seat) l.ran c.leave_full.ensures.ran l.tracers c.leave_full.ensures.leaves.tracers

pub returns-in-Err-Full-clause-none : goal.returns-in-Err-Full-clause-none
returns-in-Err-Full-clause-none g c =
    let e = c.cache_of-cache.ensures in
    let comes : ComesToNone Full c.args.in_stops c.args.heap.now.shape c.cache_of-cache.result (view_of c.args.seat.now) (view_of c.come_to.new.seat) = subst (λ (r : Refused). ComesToNone r c.args.in_stops c.args.heap.now.shape c.cache_of-cache.result (view_of c.args.seat.now) (view_of c.come_to.new.seat)) c.in-Err-Full.field-0-is c.in-Err-Full.ensures.none in
    subst (λ (r : Refused). MakesNoneAtTurn r c.args.in_stops c.args.heap.now.shape (view_of c.args.seat.now) (view_of c.leave_full.new.seat)) (sym c.leave_full.ensures.answer)
    (record {
      came = view_of c.come_to.new.seat;
      comes = (c.cache_of-cache.result, own-cache c.cache_of-cache.result (view_of c.args.seat.now) e.some e.none, comes);
      leaves = c.come_to.ensures.leaves;
      ends = c.leave_full.ensures.out;
    })

pub returns-in-Ok-clause-told : goal.returns-in-Ok-clause-told
returns-in-Ok-clause-told g c =
    let sh : Shape = c.args.heap.now.shape in
    let u : View = view_of c.args.seat.now in
    let v : View = view_of c.come_to.new.seat in
    let w : View = view_of c.make_in.new.seat in
    let made = created-untold sh.fields v.state c.args.v c.args.value c.make_in.ensures.takes.0 v w c.make_in.ensures.ran c.make_in.ensures.takes.1 in
    told-more g.W.Watch.hears (λ ns. TellsFills c.args.in_stops sh ns u v) (λ ns. TellsFills c.args.in_stops sh ns u w) c.args.watch.now c.come_to.new.watch (λ ns k. fills-last c.args.in_stops sh ns u v w k made) c.come_to.ensures.told

pub returns-in-Err-Full-clause-told : goal.returns-in-Err-Full-clause-told
returns-in-Err-Full-clause-told g c =
    let sh : Shape = c.args.heap.now.shape in
    let u : View = view_of c.args.seat.now in
    let v : View = view_of c.come_to.new.seat in
    let w : View = view_of c.leave_full.new.seat in
    let l = c.leave_full.ensures in
    told-more g.W.Watch.hears (λ ns. TellsFills c.args.in_stops sh ns u v) (λ ns. TellsFills c.args.in_stops sh ns u w) c.args.watch.now c.come_to.new.watch (λ ns k. fills-last c.args.in_stops sh ns u v w k (out-untold v w l.ran l.out)) c.come_to.ensures.told
