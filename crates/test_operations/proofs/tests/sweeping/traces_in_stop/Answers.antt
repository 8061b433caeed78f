use Rattle.gc_table.specs.Seats.{view_of}
use Rattle.card_clean.proofs.Staying.{ready-stays}
use Rattle.test_operations.proofs.tests.sweeping.traces_in_stop.Goals as goal

pub returns : goal.returns
returns c = let e = c.trace.ensures in (e.seat.0, ready-stays (view_of c.args.seat.now) (view_of c.trace.new.seat) e.only.ran e.only.only c.requires.1.ready)
