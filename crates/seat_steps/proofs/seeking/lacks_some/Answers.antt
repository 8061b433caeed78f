use Rattle.seat_steps.proofs.Searched.{arrives-leaves}
use Rattle.seat_steps.proofs.seeking.lacks_some.Goals as goal

pub returns-in-Done-clause-freely : goal.returns-in-Done-clause-freely
returns-in-Done-clause-freely c = c.in-Done.ensures.found

pub returns-in_default-clause-err : goal.returns-in_default-clause-err
returns-in_default-clause-err c = arrives-leaves c.arrive.result c.args.heap.now c.arrive.new.seat c.in_default.not-Done c.arrive.ensures.arrives
