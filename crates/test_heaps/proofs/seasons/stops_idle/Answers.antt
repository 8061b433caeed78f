use Rattle.gc_table.specs.Seats.{view_of}
use Rattle.test_heaps.proofs.FirstSeason.{keeps-watching}
use Rattle.test_heaps.proofs.seasons.stops_idle.Goals as goal

pub returns-in-Some-Idle-clause-keeps : goal.returns-in-Some-Idle-clause-keeps
returns-in-Some-Idle-clause-keeps g c = let e = c.await_stopped.ensures in keeps-watching (view_of c.args.seat.now) (view_of c.await_stopped.new.seat) e.ran e.only

pub returns-in_default : goal.returns-in_default
returns-in_default g c = let e = c.await_stopped.ensures in record { stopped = tt; keeps = keeps-watching (view_of c.args.seat.now) (view_of c.await_stopped.new.seat) e.ran e.only }
