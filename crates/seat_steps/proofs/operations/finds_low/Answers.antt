use Rattle.gc_table.specs.Seats.{view_of}
use Rattle.seat_turns.proofs.Held.{held-read, held-still, holds-shares}
use Rattle.seat_steps.proofs.Doing.{found-shared}
use Rattle.seat_steps.proofs.Few.{found-one, still-few}
use Rattle.seat_steps.proofs.operations.finds_low.Goals as goal

pub share_value_of-requires-clause-seat : goal.share_value_of-requires-clause-seat
share_value_of-requires-clause-seat c = holds-shares c.args.heap.now c.args.seat.now c.requires.turn c.requires.shared

pub returns-in-Some-clause-turn : goal.returns-in-Some-clause-turn
returns-in-Some-clause-turn c = held-read c.args.heap.now c.args.seat.now c.share_value_of.new.seat _ _ c.requires.turn c.share_value_of.ensures.seat c.in-Some.ensures.some.1

pub returns-in-None-clause-turn : goal.returns-in-None-clause-turn
returns-in-None-clause-turn c = held-still c.args.heap.now c.args.seat.now c.share_value_of.new.seat c.requires.turn c.share_value_of.ensures.seat c.in-None.ensures.none.1

pub returns-in-Some-clause-some : goal.returns-in-Some-clause-some
returns-in-Some-clause-some c = found-shared c.args.heap.now c.args.seat.now c.share_value_of.new.seat c.args.v c.in-Some.value c.requires.shared c.in-Some.ensures.some

pub returns-in-Some-clause-few : goal.returns-in-Some-clause-few
returns-in-Some-clause-few c = found-one _ _ (view_of c.args.seat.now) (view_of c.share_value_of.new.seat) c.in-Some.ensures.some.1

pub returns-in-None-clause-few : goal.returns-in-None-clause-few
returns-in-None-clause-few c = still-few 1 (view_of c.args.seat.now) (view_of c.share_value_of.new.seat) c.in-None.ensures.none.1
