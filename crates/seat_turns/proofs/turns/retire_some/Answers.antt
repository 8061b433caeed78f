use Rattle.seat_turns.proofs.Seats.{retired-halts}
use Rattle.seat_turns.proofs.turns.retire_some.Goals as goal

pub returns-clause-halts : goal.returns-clause-halts
returns-clause-halts c =
    let e = c.retire_some.ensures in
    retired-halts c.args.heap.now c.args.seat.now c.retire_some.new.seat c.requires.works e.seat.0 e.seat.1 e.ran e.state e.own
