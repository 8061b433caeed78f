use Rattle.std.proofs.Common.{refl}
use Rattle.gc_table.specs.Seats.{view_of}
use Rattle.plain_heap.specs.declared.operation.Op.TheVariants as ops
use Rattle.seat_turns.proofs.Done.{turn-ready, operated, sets-few}
use Rattle.seat_turns.proofs.Held.{held-turn, holds-own, holds-shares, turn-holds}
use Rattle.seat_steps.proofs.Doing.{alone-of, does-own, shared-of}
use Rattle.seat_steps.proofs.operations.copies.Goals as goal

pub assign-requires-clause-seat : goal.assign-requires-clause-seat
assign-requires-clause-seat c = turn-ready c.args.heap.now c.args.seat.now (holds-own c.args.heap.now c.args.seat.now c.requires.turn (alone-of c.args.heap.now c.shape.result c.shape.ensures c.if-shape.false)) (alone-of c.args.heap.now c.shape.result c.shape.ensures c.if-shape.false)

pub returns-else-shape-clause-turn : goal.returns-else-shape-clause-turn
returns-else-shape-clause-turn c = turn-holds c.args.heap.now c.assign.new.seat ((operated (ops.Let c.args.w c.args.v) 0 c.args.heap.now c.args.seat.now c.assign.new.seat refl (holds-own c.args.heap.now c.args.seat.now c.requires.turn (alone-of c.args.heap.now c.shape.result c.shape.ensures c.if-shape.false)) (alone-of c.args.heap.now c.shape.result c.shape.ensures c.if-shape.false) c.assign.ensures.seat c.assign.ensures.does).turn)

pub returns-else-shape-clause-does : goal.returns-else-shape-clause-does
returns-else-shape-clause-does c =
    does-own c.args.heap.now c.args.seat.now c.assign.new.seat (ops.Let c.args.w c.args.v) (alone-of c.args.heap.now c.shape.result c.shape.ensures c.if-shape.false)
    (operated (ops.Let c.args.w c.args.v) 0 c.args.heap.now c.args.seat.now c.assign.new.seat refl (holds-own c.args.heap.now c.args.seat.now c.requires.turn (alone-of c.args.heap.now c.shape.result c.shape.ensures c.if-shape.false)) (alone-of c.args.heap.now c.shape.result c.shape.ensures c.if-shape.false) c.assign.ensures.seat c.assign.ensures.does).steps
    c.assign.ensures.steps

pub share_copy-requires-clause-seat : goal.share_copy-requires-clause-seat
share_copy-requires-clause-seat c = holds-shares c.args.heap.now c.args.seat.now c.requires.turn (shared-of c.args.heap.now c.shape.result c.shape.ensures c.if-shape.true)

pub returns-then-shape-clause-turn : goal.returns-then-shape-clause-turn
returns-then-shape-clause-turn c = let e = c.share_copy.ensures in held-turn c.args.heap.now c.args.seat.now c.share_copy.new.seat c.args.w _ c.requires.turn e.seat e.sets.ran c.requires.range.0 e.sets.state

pub returns-then-shape-clause-few : goal.returns-then-shape-clause-few
returns-then-shape-clause-few c = sets-few c.args.w _ (view_of c.args.seat.now) (view_of c.share_copy.new.seat) c.share_copy.ensures.sets
