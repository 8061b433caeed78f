use Rattle.gc_table.specs.Seats.{view_of}
use Rattle.managed_heap.proofs.Runs.{ran-looking}
use Rattle.managed_heap.proofs.opening.stops_now.Goals as goal

pub returns-in-Idle-clause-ran : goal.returns-in-Idle-clause-ran
returns-in-Idle-clause-ran c =
    ran-looking (view_of c.args.seat.now) (view_of c.observe.new.seat) (view_of c.read_phase.new.seat) c.observe.result _ c.observe.ensures.view c.read_phase.ensures.view

pub returns-in_default-clause-ran : goal.returns-in_default-clause-ran
returns-in_default-clause-ran c =
    ran-looking (view_of c.args.seat.now) (view_of c.observe.new.seat) (view_of c.read_phase.new.seat) c.observe.result _ c.observe.ensures.view c.read_phase.ensures.view
