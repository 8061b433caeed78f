use Rattle.gc_table.specs.Seats.{view_of}
use Rattle.test_heaps.proofs.LastMoves.{may-end_sweep, alone-swept}
use Rattle.test_heaps.proofs.ending.end_sweep.Goals as goal

pub store_phase-requires-clause-may : goal.store_phase-requires-clause-may
store_phase-requires-clause-may c = may-end_sweep (view_of c.args.seat.now) c.requires.over

pub returns-clause-alone : goal.returns-clause-alone
returns-clause-alone c = let f = c.store_phase.ensures.view in alone-swept (view_of c.args.seat.now) (view_of c.store_phase.new.seat) f.0 c.requires.over.alone f.1
