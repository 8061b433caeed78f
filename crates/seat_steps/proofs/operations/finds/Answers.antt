use Rattle.seat_turns.proofs.Held.{holds-own, turn-holds}
use Rattle.seat_steps.proofs.Doing.{alone-of}
use Rattle.seat_steps.proofs.operations.finds.Goals as goal

pub read_value-requires-clause-turn : goal.read_value-requires-clause-turn
read_value-requires-clause-turn c = holds-own c.args.heap.now c.args.seat.now c.requires.turn (alone-of c.args.heap.now c.shape.result c.shape.ensures c.if-shape.false)

pub returns-else-shape-clause-turn : goal.returns-else-shape-clause-turn
returns-else-shape-clause-turn c = turn-holds c.args.heap.now c.read_value.new.seat c.read_value.ensures.turn
