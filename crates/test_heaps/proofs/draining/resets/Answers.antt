use Rattle.std.proofs.Common.{sym, subst}
use Rattle.gc_table.specs.Seats.{view_of}
use Rattle.card_clean.specs.Drained.{IsBeforeSweep}
use Rattle.card_clean.proofs.DrainEnds.{before-sweep, may-reset_blocks}
use Rattle.test_heaps.proofs.draining.resets.Goals as goal

pub reset-requires-clause-may : goal.reset-requires-clause-may
reset-requires-clause-may c = may-reset_blocks (view_of c.args.seat.now) c.requires.1

pub returns : goal.returns
returns c = let e = c.reset.ensures in (e.seat, subst IsBeforeSweep (sym e.view) (before-sweep (view_of c.args.seat.now) c.requires.1))
