use Rattle.std.proofs.Common.{◌-◌, [], ◌∷◌, subst, ◌≡◌, refl, ap, arith}
use Rattle.mark_core.specs.declared.kinds.Shape.{Shape}
use Rattle.gc_table.specs.declared.view.View.{View}
use Rattle.gc_table.specs.Seats.{view_of}
use Rattle.gc_table.specs.Log.{events}
use Rattle.gc_table.proofs.History.Log.{events-join}
use Rattle.packet_pools.proofs.TracedSteps.{traced-join}
use Rattle.packet_pools.specs.Fields.{Follows, fields_from}
use Rattle.packet_pools.proofs.Reading.{fields-next, follows-join}
use Rattle.packet_pools.specs.StepBounds.{follow_steps, room_left}
use Rattle.packet_pools.proofs.RoomLeft.{room-fields}
use Rattle.packet_pools.proofs.Tried.{searches-join}
use Rattle.packet_pools.proofs.Counting.{counts-join}
use Rattle.packet_pools.proofs.Rounds.{round}
use Rattle.packet_pools.proofs.scanning.scan_fields.Goals as goal

pub scan_field-one-requires-clause-seat : goal.scan_field-one-requires-clause-seat
scan_field-one-requires-clause-seat c = let i = c.loop-i.invariant in (i.sits, i.traces)

pub scan_field-one-requires-clause-out : goal.scan_field-one-requires-clause-out
scan_field-one-requires-clause-out c = let i = c.loop-i.invariant in (i.pushes.packet.held, i.pushes.packet.free)

pub scan_field-one-requires-clause-hand : goal.scan_field-one-requires-clause-hand
scan_field-one-requires-clause-hand c = c.loop-i.invariant.pushes.hand

pub loop-i-preserved : goal.loop-i-preserved
loop-i-preserved c =
    let sh : Shape = c.args.heap.now.shape in
    let v : View = view_of c.args.seat.now in
    let w : View = view_of c.loop-i.seat in
    let x : View = view_of c.scan_field-one.new.seat in
    let i = c.loop-i.invariant in
    let e = c.scan_field-one.ensures in
    let below = c.loop-i-test.true in
    let fields : c.shape-i-end.result.fields ≡ sh.fields = ap (λ (s : Shape). s.fields) c.shape-i-end.ensures in
    record {
      sits = e.seat.0;
      traces = e.seat.1;
      only = traced-join v w x i.only e.only;
      order = omega (arith, i.order);
      still = λ l. absurd (omega (arith, below, fields, l, i.order));
      pushes = round v w x c.args.out.now c.loop-i.out c.scan_field-one.new.out c.args.cell c.args.next c.loop-i.i i.order i.pushes e.pushes;
      most = (omega (arith, i.most.0, e.most.0), omega (arith, i.most.1, e.most.1));
      counts = counts-join sh _ _ _ _ _ _ _ _ _ (events v w) (events w x) (events v x) (events-join v w x i.only.log e.only.log) refl (omega (arith, i.most.0, e.most.0)) refl i.counts e.counts;
      follows =
          subst (λ l. Follows l (events v x)) (fields-next c.args.cell c.args.next c.loop-i.i i.order)
          (follows-join (fields_from c.args.cell c.args.next (c.loop-i.i - c.args.next)) ((c.args.cell, c.loop-i.i) ∷ []) (events v w) (events w x) (events v x) (events-join v w x i.only.log e.only.log) i.follows e.follows);
      tried = searches-join sh c.args.search.now c.loop-i.search c.scan_field-one.new.search c.args.out.now c.loop-i.out c.scan_field-one.new.out (events v w) (events w x) (events v x) (events-join v w x i.only.log e.only.log) i.tried e.tried;
      few = room-fields c.args.next c.loop-i.i (follow_steps sh) (room_left sh c.args.search.now c.args.out.now.length) (room_left sh c.loop-i.search c.loop-i.out.length) (room_left sh c.scan_field-one.new.search c.scan_field-one.new.out.length) v w x i.order i.only.ran e.only.ran i.few e.few;
    }
