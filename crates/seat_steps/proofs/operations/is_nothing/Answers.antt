use Rattle.seat_turns.proofs.Held.{holds-own}
use Rattle.seat_steps.proofs.Doing.{alone-of}
use Rattle.seat_steps.proofs.operations.is_nothing.Goals as goal

pub refers_to_nothing-requires-clause-turn : goal.refers_to_nothing-requires-clause-turn
refers_to_nothing-requires-clause-turn c = holds-own c.args.heap.now c.args.seat.now c.requires.turn (alone-of c.args.heap.now c.shape.result c.shape.ensures c.if-shape.false)
