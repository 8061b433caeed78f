use Rattle.gc_table.specs.Seats.{view_of}
use Rattle.card_clean.proofs.DrainEnds.{alone-clears, may-begin_clear}
use Rattle.test_operations.proofs.tests.sweeping.begins_clear.Goals as goal

pub store_phase-requires-clause-may : goal.store_phase-requires-clause-may
store_phase-requires-clause-may c = may-begin_clear (view_of c.args.seat.now) c.requires.1

pub returns : goal.returns
returns c = let e = c.store_phase.ensures in (e.seat, alone-clears (view_of c.args.seat.now) (view_of c.store_phase.new.seat) e.view.0 c.requires.1.rooted.ready.drains e.view.1)
