use Rattle.std.proofs.Common.{refl, ◌*◌, arith}
use Rattle.mark_core.specs.declared.kinds.Shape.{Shape}
use Rattle.packet_pools.proofs.TracedSteps.{traced-join}
use Rattle.tracer.proofs.Joined.{did-then}
use Rattle.tracer.proofs.Moves.{input-moves}
use Rattle.tracer.proofs.Quiet.{did-moves}
use Rattle.gc_table.specs.declared.view.View.{View}
use Rattle.gc_table.specs.Seats.{view_of}
use Rattle.gc_table.specs.Log.{events}
use Rattle.mark_core.specs.Layout.{pool_words}
use Rattle.packet_pools.specs.StepBounds.{output_steps}
use Rattle.packet_pools.proofs.Few.{few-join}
use Rattle.tracer.proofs.sharing.part_with.Goals as goal

pub returns-then-lacks_work-clause-only : goal.returns-then-lacks_work-clause-only
returns-then-lacks_work-clause-only c = traced-join (view_of c.args.seat.now) (view_of c.lacks_work.new.seat) (view_of c.fill_another.new.seat) c.lacks_work.ensures.only c.fill_another.ensures.only

pub returns-then-lacks_work-clause-part : goal.returns-then-lacks_work-clause-part
returns-then-lacks_work-clause-part c =
    let v : View = view_of c.args.seat.now in
    let w : View = view_of c.lacks_work.new.seat in
    let e = c.lacks_work.ensures in
    let f = c.fill_another.ensures in
    λ o.
    did-then o o o 0 0 0 0 0 0 0 0 0 v w (view_of c.fill_another.new.seat) e.only f.only refl refl refl (did-moves o v (events v w) (input-moves (events v w) e.moves)) (f.part o)

pub returns-else-lacks_work-clause-part : goal.returns-else-lacks_work-clause-part
returns-else-lacks_work-clause-part c =
    let v : View = view_of c.args.seat.now in
    let w : View = view_of c.lacks_work.new.seat in
    λ o. did-moves o v (events v w) (input-moves (events v w) c.lacks_work.ensures.moves)

pub returns-then-lacks_work-clause-few : goal.returns-then-lacks_work-clause-few
returns-then-lacks_work-clause-few c =
    let sh : Shape = c.args.heap.now.shape in
    let e = c.lacks_work.ensures in
    let f = c.fill_another.ensures in
    few-join (2 * pool_words sh) (output_steps sh) (view_of c.args.seat.now) (view_of c.lacks_work.new.seat) (view_of c.fill_another.new.seat) e.only.ran f.only.ran e.few f.few

pub returns-else-lacks_work-clause-few : goal.returns-else-lacks_work-clause-few
returns-else-lacks_work-clause-few c = let few = c.lacks_work.ensures.few in omega (arith, few)
