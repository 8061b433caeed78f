use Rattle.std.proofs.Common.{Some, subst, sym, false}
use Rattle.seat_turns.specs.Coming.{ComesToNone, MakesNoneAtTurn}
use Rattle.seat_turns.specs.declared.refused.Refused.{Refused}
use Rattle.seat_turns.specs.declared.refused.Refused.TheVariants.{Full}
use Rattle.gc_table.specs.Seats.{view_of}
use Rattle.seat_turns.proofs.Coming.{own-cache}
use Rattle.seat_turns.proofs.Held.{plays-holds}
use Rattle.seat_turns.proofs.Leaving.{leaves-join}
use Rattle.seat_turns.proofs.Seats.{whole-cache}
use Rattle.gc_table.specs.declared.view.View.{View}
use Rattle.mark_core.specs.declared.kinds.Shape.{Shape}
use Rattle.cache_refills.proofs.Telling.{told-more}
use Rattle.seat_turns.specs.Telling.{TellsFills}
use Rattle.seat_turns.proofs.Telling.{shared-untold, fills-last, out-untold}
use Rattle.seat_turns.proofs.sharing.make_shared.Goals as goal

pub returns-in-Ok-clause-ok : goal.returns-in-Ok-clause-ok
returns-in-Ok-clause-ok g c = (c.make_shared_in.ensures.turn, record { came = view_of c.come_to.new.seat; leaves = c.come_to.ensures.leaves; makes = c.make_shared_in.ensures.makes })

pub returns-in-Err-Full-clause-leaves : goal.returns-in-Err-Full-clause-leaves
returns-in-Err-Full-clause-leaves g c = leaves-join (view_of c.args.seat.now) (view_of c.come_to.new.seat) (view_of c.leave_full.new.seat) c.come_to.ensures.leaves c.leave_full.ensures.leaves

pub returns-in-Ok-clause-made : goal.returns-in-Ok-clause-made
returns-in-Ok-clause-made g c =
    let e = c.cache_of-cache.ensures in
    record {
      free = c.in-Ok.free;
      came = view_of c.come_to.new.seat;
      comes = (c.cache_of-cache.result, own-cache c.cache_of-cache.result (view_of c.args.seat.now) e.some e.none, c.in-Ok.ensures.comes);
      leaves = c.come_to.ensures.leaves;
      makes = c.make_shared_in.ensures.makes;
    }

pub returns-in-Err-Full-clause-none : goal.returns-in-Err-Full-clause-none
returns-in-Err-Full-clause-none g c =
    let e = c.cache_of-cache.ensures in
    let comes : ComesToNone Full false c.args.heap.now.shape c.cache_of-cache.result (view_of c.args.seat.now) (view_of c.come_to.new.seat) = subst (λ (r : Refused). ComesToNone r false c.args.heap.now.shape c.cache_of-cache.result (view_of c.args.seat.now) (view_of c.come_to.new.seat)) c.in-Err-Full.field-0-is c.in-Err-Full.ensures.none in
    subst (λ (r : Refused). MakesNoneAtTurn r false c.args.heap.now.shape (view_of c.args.seat.now) (view_of c.leave_full.new.seat)) (sym c.leave_full.ensures.answer)
    (record {
      came = view_of c.come_to.new.seat;
      comes = (c.cache_of-cache.result, own-cache c.cache_of-cache.result (view_of c.args.seat.now) e.some e.none, comes);
      leaves = c.come_to.ensures.leaves;
      ends = c.leave_full.ensures.out;
    })

pub make_shared_in-requires-clause-turn : goal.make_shared_in-requires-clause-turn
make_shared_in-requires-clause-turn g c =
    let p = c.in-Ok.ensures.ok in plays-holds c.args.heap.now c.come_to.new.seat p.0 (whole-cache (Some c.in-Ok.free) (view_of c.come_to.new.seat) p.1)

pub returns-in-Ok-clause-told : goal.returns-in-Ok-clause-told
returns-in-Ok-clause-told g c =
    let sh : Shape = c.args.heap.now.shape in
    let u : View = view_of c.args.seat.now in
    let v : View = view_of c.come_to.new.seat in
    let w : View = view_of c.make_shared_in.new.seat in
    let made = shared-untold c.args.v c.args.value v w c.make_shared_in.ensures.makes in
    told-more g.W.Watch.hears (λ ns. TellsFills false sh ns u v) (λ ns. TellsFills false sh ns u w) c.args.watch.now c.come_to.new.watch (λ ns k. fills-last false sh ns u v w k made) c.come_to.ensures.told

pub returns-in-Err-Full-clause-told : goal.returns-in-Err-Full-clause-told
returns-in-Err-Full-clause-told g c =
    let sh : Shape = c.args.heap.now.shape in
    let u : View = view_of c.args.seat.now in
    let v : View = view_of c.come_to.new.seat in
    let w : View = view_of c.leave_full.new.seat in
    let l = c.leave_full.ensures in
    told-more g.W.Watch.hears (λ ns. TellsFills false sh ns u v) (λ ns. TellsFills false sh ns u w) c.args.watch.now c.come_to.new.watch (λ ns k. fills-last false sh ns u v w k (out-untold v w l.ran l.out)) c.come_to.ensures.told
