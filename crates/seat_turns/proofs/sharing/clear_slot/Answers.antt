use Rattle.std.proofs.Common.{◌<◌, ap, refl, sym, subst}
use Rattle.std.specs.Prelude.{length}
use Rattle.mark_core.specs.declared.kinds.Shape.{Shape}
use Rattle.mark_core.specs.declared.kinds.Step.TheVariants.{StoreSlot}
use Rattle.gc_table.specs.Log.{steps_of}
use Rattle.gc_table.specs.Running.{Ran}
use Rattle.gc_table.specs.Seats.{view_of}
use Rattle.gc_table.specs.declared.view.View.{View}
use Rattle.gc_table.proofs.History.Log.{events-after}
use Rattle.gc_table.proofs.Running.{ran-stored}
use Rattle.mutator_ops.proofs.Storing.{shares-on, state-kept, state-spilled}
use Rattle.seat_turns.proofs.Held.{held-same, holds-shares}
use Rattle.seat_turns.proofs.Clearing.{may-clear}
use Rattle.seat_turns.proofs.sharing.clear_slot.Goals as goal

pub store_slot-requires-clause-seat : goal.store_slot-requires-clause-seat
store_slot-requires-clause-seat c = c.requires.turn.holds.sits

pub store_slot-requires-clause-may : goal.store_slot-requires-clause-may
store_slot-requires-clause-may c =
    let q = holds-shares c.args.heap.now c.args.seat.now c.requires.turn c.requires.shared in
    may-clear c.args.k (view_of c.args.seat.now) q.1 (subst (λ (sh : Shape). c.args.k < sh.slots) (sym q.0.1) c.requires.range)

pub store_slot-requires-clause-asked : goal.store_slot-requires-clause-asked
store_slot-requires-clause-asked c = let q = holds-shares c.args.heap.now c.args.seat.now c.requires.turn c.requires.shared in (q.1.stores.seen, q.1.shared)

pub returns-clause-turn : goal.returns-clause-turn
returns-clause-turn c =
    let v : View = view_of c.args.seat.now in
    let w : View = view_of c.store_slot.new.seat in
    let q = holds-shares c.args.heap.now c.args.seat.now c.requires.turn c.requires.shared in
    let e = c.store_slot.ensures.view in
    let s = state-spilled c.args.k 0 v w q.1.register e in
    let ready = shares-on v w q.1 (ap (λ (y : View). y.shape) e) s (ap (λ (y : View). length y.own.meaning.heap.objects) e) in
    let ran : Ran v w = ran-stored v w (StoreSlot c.args.k 0) refl e in
    held-same c.args.heap.now c.args.seat.now c.store_slot.new.seat c.requires.turn (c.store_slot.ensures.seat, ready) ran (state-kept c.args.k 0 v w q.1.register e)

pub returns-clause-takes : goal.returns-clause-takes
returns-clause-takes c =
    let v : View = view_of c.args.seat.now in
    let w : View = view_of c.store_slot.new.seat in
    let q = holds-shares c.args.heap.now c.args.seat.now c.requires.turn c.requires.shared in
    let e = c.store_slot.ensures.view in
    record {
      ran = ran-stored v w (StoreSlot c.args.k 0) refl e;
      steps_are = ap steps_of (events-after v w (StoreSlot c.args.k 0) 0 e);
      state = state-kept c.args.k 0 v w q.1.register e;
    }
