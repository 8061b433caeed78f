use Rattle.gc_table.specs.Seats.{view_of}
use Rattle.seat_steps.proofs.Taken.{takes-it}
use Rattle.seat_steps.proofs.stepper.Stepper.weak.Goals as goal

pub returns-in-Some-clause-taken : goal.returns-in-Some-clause-taken
returns-in-Some-clause-taken c =
    let s = c.args.self.now in
    takes-it s.name c.args.v c.in-Some.weak (view_of s.seat) (view_of c.weak_shared.new.seat) c.in-Some.ensures.takes
