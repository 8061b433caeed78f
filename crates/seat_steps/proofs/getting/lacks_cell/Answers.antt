use Rattle.gc_table.specs.Seats.{view_of}
use Rattle.seat_steps.proofs.Found.{lacks-by}
use Rattle.seat_steps.proofs.getting.lacks_cell.Goals as goal

pub returns-in_default-clause-found : goal.returns-in_default-clause-found
returns-in_default-clause-found c = lacks-by c.arrive.result (view_of c.args.seat.now) (view_of c.arrive.new.seat) c.in_default.not-Done c.arrive.ensures.found

pub returns-in-Done-clause-found : goal.returns-in-Done-clause-found
returns-in-Done-clause-found c = c.in-Done.ensures.found.few
