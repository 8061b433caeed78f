use Rattle.std.proofs.Common.{◌∙◌, ◌≡◌, ◌*◌, ap, arith}
use Rattle.gc_table.specs.declared.view.View.{View}
use Rattle.gc_table.specs.Seats.{view_of}
use Rattle.packet_pools.specs.Seeking.{input_pools}
use Rattle.packet_pools.proofs.TracedSteps.{traced-join}
use Rattle.tracer.proofs.Moves.{moves-then}
use Rattle.mark_core.specs.declared.kinds.Shape.{Shape}
use Rattle.packet_pools.proofs.Few.{few-join}
use Rattle.tracer.proofs.sharing.lacks_work.Goals as goal

pub returns-then-not-are_bare-clause-only : goal.returns-then-not-are_bare-clause-only
returns-then-not-are_bare-clause-only c = traced-join (view_of c.args.seat.now) (view_of c.loop-g.seat) (view_of c.are_bare.new.seat) c.loop-g.invariant.only c.are_bare.ensures.only

pub returns-then-not-are_bare-clause-moves : goal.returns-then-not-are_bare-clause-moves
returns-then-not-are_bare-clause-moves c =
    let i = c.loop-g.invariant in
    let e = c.are_bare.ensures in
    moves-then input_pools (view_of c.args.seat.now) (view_of c.loop-g.seat) (view_of c.are_bare.new.seat) i.only e.only i.moves e.moves

pub loop-g-preserved : goal.loop-g-preserved
loop-g-preserved c =
    let v : View = view_of c.args.seat.now in
    let w : View = view_of c.loop-g.seat in
    let x : View = view_of c.are_bare.new.seat in
    let i = c.loop-g.invariant in
    let e = c.are_bare.ensures in
    record {
      sits = e.seat.0;
      traces = e.seat.1;
      only = traced-join v w x i.only e.only;
      state = e.state ∙ i.state;
      moves = moves-then input_pools v w x i.only e.only i.moves e.moves;
      few = let all = few-join (2 * c.loop-g.g) 2 v w x i.only.ran e.only.ran i.few e.few in omega (arith, all);
    }

pub returns-then-not-are_bare-clause-few : goal.returns-then-not-are_bare-clause-few
returns-then-not-are_bare-clause-few c =
    let sh : Shape = c.args.heap.now.shape in
    let i = c.loop-g.invariant in
    let e = c.are_bare.ensures in
    let below = c.loop-g-test.true in
    let end = c.div_ceil-g-end.ensures in
    let packets : c.shape.result.packets ≡ sh.packets = ap (λ (x : Shape). x.packets) c.shape.ensures in
    let all = few-join (2 * c.loop-g.g) 2 (view_of c.args.seat.now) (view_of c.loop-g.seat) (view_of c.are_bare.new.seat) i.only.ran e.only.ran i.few e.few in
    omega (arith, all, below, end, packets)

pub returns-clause-few : goal.returns-clause-few
returns-clause-few c =
    let sh : Shape = c.args.heap.now.shape in
    let few = c.loop-g.invariant.few in
    let most = c.loop-g.auto.g-end in
    let end = c.div_ceil-g-end.ensures in
    let packets : c.shape.result.packets ≡ sh.packets = ap (λ (x : Shape). x.packets) c.shape.ensures in
    omega (arith, few, most, end, packets)
