use Rattle.std.proofs.Common.{refl}
use Rattle.plain_heap.specs.declared.operation.Op.TheVariants as ops
use Rattle.seat_turns.proofs.Done.{turn-ready, operated}
use Rattle.seat_turns.proofs.Held.{holds-own, turn-holds}
use Rattle.seat_steps.proofs.Doing.{alone-of, does-own}
use Rattle.seat_steps.proofs.operations.gets.Goals as goal

pub follow-requires-clause-seat : goal.follow-requires-clause-seat
follow-requires-clause-seat c = turn-ready c.args.heap.now c.args.seat.now (holds-own c.args.heap.now c.args.seat.now c.requires.turn (alone-of c.args.heap.now c.shape.result c.shape.ensures c.if-shape.false)) (alone-of c.args.heap.now c.shape.result c.shape.ensures c.if-shape.false)

pub returns-else-shape-clause-turn : goal.returns-else-shape-clause-turn
returns-else-shape-clause-turn c = turn-holds c.args.heap.now c.follow.new.seat ((operated (ops.Get c.args.w c.args.v c.args.i) 0 c.args.heap.now c.args.seat.now c.follow.new.seat refl (holds-own c.args.heap.now c.args.seat.now c.requires.turn (alone-of c.args.heap.now c.shape.result c.shape.ensures c.if-shape.false)) (alone-of c.args.heap.now c.shape.result c.shape.ensures c.if-shape.false) c.follow.ensures.seat c.follow.ensures.does).turn)

pub returns-else-shape-clause-does : goal.returns-else-shape-clause-does
returns-else-shape-clause-does c =
    does-own c.args.heap.now c.args.seat.now c.follow.new.seat (ops.Get c.args.w c.args.v c.args.i) (alone-of c.args.heap.now c.shape.result c.shape.ensures c.if-shape.false)
    (operated (ops.Get c.args.w c.args.v c.args.i) 0 c.args.heap.now c.args.seat.now c.follow.new.seat refl (holds-own c.args.heap.now c.args.seat.now c.requires.turn (alone-of c.args.heap.now c.shape.result c.shape.ensures c.if-shape.false)) (alone-of c.args.heap.now c.shape.result c.shape.ensures c.if-shape.false) c.follow.ensures.seat c.follow.ensures.does).steps
    c.follow.ensures.events
