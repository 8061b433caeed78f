use Rattle.mark_core.specs.declared.kinds.Phase.TheVariants.{Sweep}
use Rattle.gc_table.specs.Seats.{view_of}
use Rattle.gc_table.proofs.Noticing.{alone-kept}
use Rattle.sweeper.specs.Sweepers.{is_sweeping}
use Rattle.sweeper.proofs.Sweepers.{sweeping-stays}
use Rattle.test_operations.proofs.tests.sweeping.sweeps.Goals as goal

pub returns : goal.returns
returns c = let e = c.sweep_next-swept.ensures in (e.seat.0, e.seat.1, alone-kept Sweep is_sweeping sweeping-stays (view_of c.args.seat.now) (view_of c.sweep_next-swept.new.seat) e.ran e.only c.requires.2)
