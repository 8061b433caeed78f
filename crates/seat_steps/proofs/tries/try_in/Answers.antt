use Rattle.seat_steps.proofs.Paced.{carries-in}
use Rattle.seat_steps.proofs.Searched.{tries-enter}
use Rattle.seat_steps.proofs.tries.try_in.Goals as goal

pub returns-clause-paces : goal.returns-clause-paces
returns-clause-paces c =
    let e = c.try_enter.ensures in
    let x = c.args.seat.now in
    let y = c.try_enter.new.seat in
    carries-in c.try_enter.result c.args.heap.now x y c.requires.waits.out (tries-enter c.try_enter.result c.args.heap.now x y c.requires.waits e.seat e.out e.enters) e.out e.numbers
