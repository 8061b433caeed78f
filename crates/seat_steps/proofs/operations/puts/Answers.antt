use Rattle.std.proofs.Common.{arith, refl}
use Rattle.gc_table.specs.Seats.{view_of}
use Rattle.plain_heap.specs.declared.operation.Op.TheVariants as ops
use Rattle.seat_turns.proofs.Done.{turn-ready, operated, putting-few}
use Rattle.seat_turns.proofs.Held.{held-same, holds-own, holds-shares, turn-holds}
use Rattle.seat_steps.proofs.Doing.{alone-of, does-own, shared-of}
use Rattle.seat_steps.proofs.operations.puts.Goals as goal

pub put-requires-clause-seat : goal.put-requires-clause-seat
put-requires-clause-seat c = turn-ready c.args.heap.now c.args.seat.now (holds-own c.args.heap.now c.args.seat.now c.requires.turn (alone-of c.args.heap.now c.shape.result c.shape.ensures c.if-shape.false)) (alone-of c.args.heap.now c.shape.result c.shape.ensures c.if-shape.false)

pub returns-else-shape-clause-turn : goal.returns-else-shape-clause-turn
returns-else-shape-clause-turn c = turn-holds c.args.heap.now c.put.new.seat ((operated (ops.Put c.args.v c.args.value) _ c.args.heap.now c.args.seat.now c.put.new.seat refl (holds-own c.args.heap.now c.args.seat.now c.requires.turn (alone-of c.args.heap.now c.shape.result c.shape.ensures c.if-shape.false)) (alone-of c.args.heap.now c.shape.result c.shape.ensures c.if-shape.false) c.put.ensures.seat c.put.ensures.does).turn)

pub returns-else-shape-clause-does : goal.returns-else-shape-clause-does
returns-else-shape-clause-does c =
    does-own c.args.heap.now c.args.seat.now c.put.new.seat (ops.Put c.args.v c.args.value) (alone-of c.args.heap.now c.shape.result c.shape.ensures c.if-shape.false)
    (operated (ops.Put c.args.v c.args.value) _ c.args.heap.now c.args.seat.now c.put.new.seat refl (holds-own c.args.heap.now c.args.seat.now c.requires.turn (alone-of c.args.heap.now c.shape.result c.shape.ensures c.if-shape.false)) (alone-of c.args.heap.now c.shape.result c.shape.ensures c.if-shape.false) c.put.ensures.seat c.put.ensures.does).steps
    c.put.ensures.steps

pub share_put-requires-clause-seat : goal.share_put-requires-clause-seat
share_put-requires-clause-seat c = holds-shares c.args.heap.now c.args.seat.now c.requires.turn (shared-of c.args.heap.now c.shape.result c.shape.ensures c.if-shape.true)

pub returns-then-shape-clause-turn : goal.returns-then-shape-clause-turn
returns-then-shape-clause-turn c = let e = c.share_put.ensures in held-same c.args.heap.now c.args.seat.now c.share_put.new.seat c.requires.turn e.seat e.takes.ran e.takes.state

pub returns-then-shape-clause-few : goal.returns-then-shape-clause-few
returns-then-shape-clause-few c = let few = putting-few c.args.v c.args.value (view_of c.args.seat.now) (view_of c.share_put.new.seat) c.share_put.ensures.takes in omega (arith, few)
