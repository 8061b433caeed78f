use Rattle.seat_turns.proofs.Held.{holds-own}
use Rattle.seat_steps.proofs.Doing.{alone-of}
use Rattle.seat_steps.proofs.operations.are_one.Goals as goal

pub refer_to_one-requires-clause-turn : goal.refer_to_one-requires-clause-turn
refer_to_one-requires-clause-turn c = holds-own c.args.heap.now c.args.seat.now c.requires.turn (alone-of c.args.heap.now c.shape.result c.shape.ensures c.if-shape.false)
