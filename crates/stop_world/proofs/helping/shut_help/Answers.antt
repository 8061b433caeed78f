use Rattle.gc_table.specs.Seats.{view_of}
use Rattle.stop_world.proofs.Waits.{closes-first}
use Rattle.stop_world.proofs.helping.shut_help.Goals as goal

pub returns-clause-closes : goal.returns-clause-closes
returns-clause-closes c =
    let f = c.close_step.ensures.view in closes-first (view_of c.args.seat.now) (view_of c.close_step.new.seat) f.0 c.requires.opened f.1
