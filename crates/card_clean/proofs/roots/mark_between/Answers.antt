use Rattle.std.proofs.Common.{◌≡◌, ◌-◌, ◌*◌, arith, ap, ◌∙◌, true}
use Rattle.mark_core.specs.declared.kinds.Shape.{Shape}
use Rattle.mark_core.specs.declared.seat.SeatState.{SeatState}
use Rattle.gc_table.specs.declared.view.View.{View}
use Rattle.gc_table.specs.Seats.{view_of}
use Rattle.packet_pools.proofs.Filled.{fills-join}
use Rattle.packet_pools.proofs.TracedSteps.{traced-join}
use Rattle.card_clean.specs.Drained.{sees_roots}
use Rattle.card_clean.proofs.Staying.{root-stays}
use Rattle.card_clean.proofs.RootReads.{reads-more}
use Rattle.card_clean.proofs.Rooting.{roots-next}
use Rattle.card_clean.proofs.Leavings.{rescanned-join}
use Rattle.gc_table.proofs.Running.{ran-only}
use Rattle.gc_table.specs.Log.{events}
use Rattle.gc_table.proofs.History.Log.{events-join}
use Rattle.packet_pools.specs.StepBounds.{follow_steps, room_left}
use Rattle.packet_pools.proofs.Few.{last-fields}
use Rattle.packet_pools.proofs.RoomLeft.{room-fields}
use Rattle.packet_pools.proofs.Tried.{searches-join}
use Rattle.card_clean.proofs.roots.mark_between.Goals as goal

pub mark_one-requires-clause-seat : goal.mark_one-requires-clause-seat
mark_one-requires-clause-seat c = let i = c.loop-i.invariant in (i.sits, i.traces)

pub mark_one-requires-clause-root : goal.mark_one-requires-clause-root
mark_one-requires-clause-root c = omega (arith, c.loop-i-test.true, c.requires.roots.1)

pub mark_one-requires-clause-out : goal.mark_one-requires-clause-out
mark_one-requires-clause-out c = let i = c.loop-i.invariant in (i.packet.held, i.packet.free)

pub mark_one-requires-clause-work : goal.mark_one-requires-clause-work
mark_one-requires-clause-work c = c.loop-i.invariant.work

pub loop-i-preserved : goal.loop-i-preserved
loop-i-preserved c =
    let sh : Shape = c.args.heap.now.shape in
    let v : View = view_of c.args.seat.now in
    let w : View = view_of c.loop-i.seat in
    let x : View = view_of c.mark_one.new.seat in
    let i = c.loop-i.invariant in
    let e = c.mark_one.ensures in
    record {
      sits = e.seat.0;
      traces = e.seat.1;
      order = omega (arith, i.order);
      end = omega (arith, c.loop-i-test.true);
      only = traced-join v w x i.only e.only;
      packet = fills-join v w x c.args.out.now c.loop-i.out c.mark_one.new.out i.packet e.out;
      work = e.work;
      left = let j = rescanned-join v w x i.only.ran e.only.ran in omega (arith, j, i.left, e.left);
      steps = ran-only sees_roots v w x i.only.ran e.only.ran i.steps e.steps;
      noted =
          λ alone.
          let now_alone : w.state.alone ≡ true = ap (λ (s : SeatState). s.alone) i.only.rest ∙ alone in
          roots-next c.args.from c.loop-i.i w x (λ k r. root-stays w x e.only.ran e.only.only k now_alone r) (i.noted alone) (e.noted now_alone);
      reads = reads-more sh c.args.from c.loop-i.i v w x i.order i.only e.only i.reads e.reads;
      tried = searches-join sh c.args.search.now c.loop-i.search c.mark_one.new.search c.args.out.now c.loop-i.out c.mark_one.new.out (events v w) (events w x) (events v x) (events-join v w x i.only.log e.only.log) i.tried e.tried;
      few = room-fields c.args.from c.loop-i.i (follow_steps sh) (room_left sh c.args.search.now c.args.out.now.length) (room_left sh c.loop-i.search c.loop-i.out.length) (room_left sh c.mark_one.new.search c.mark_one.new.out.length) v w x i.order i.only.ran e.only.ran i.few e.few;
    }

pub returns-clause-few : goal.returns-clause-few
returns-clause-few c =
    let i = c.loop-i.invariant in
    let few = i.few in
    let most = last-fields c.args.from c.loop-i.i c.args.end (follow_steps c.args.heap.now.shape) ((c.loop-i.i - c.args.from) * follow_steps c.args.heap.now.shape) i.end (omega arith) in
    omega (arith, few, most)
