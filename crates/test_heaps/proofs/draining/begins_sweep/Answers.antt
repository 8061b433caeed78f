use Rattle.std.proofs.Common.{ap}
use Rattle.gc_table.specs.Seats.{view_of}
use Rattle.gc_table.specs.declared.view.View.{View}
use Rattle.card_clean.proofs.DrainEnds.{alone-sweeps, may-begin_sweep}
use Rattle.test_heaps.proofs.draining.begins_sweep.Goals as goal

pub store_phase-requires-clause-may : goal.store_phase-requires-clause-may
store_phase-requires-clause-may c = may-begin_sweep (view_of c.args.seat.now) c.requires.1

pub returns-clause-alone : goal.returns-clause-alone
returns-clause-alone c = let e = c.store_phase.ensures in (e.seat, alone-sweeps (view_of c.args.seat.now) (view_of c.store_phase.new.seat) e.view.0 c.requires.1.rooted.ready.drains e.view.1)

pub returns-clause-block : goal.returns-clause-block
returns-clause-block c = ap (λ (w : View). w.state.block) c.store_phase.ensures.view.1
