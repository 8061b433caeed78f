use Rattle.std.proofs.Common.{refl}
use Rattle.mark_core.specs.declared.kinds.Phase.TheVariants.{Drain}
use Rattle.gc_table.specs.Seats.{view_of}
use Rattle.gc_table.proofs.Noticing.{knows-steady}
use Rattle.test_collector.proofs.tests.helping.opens.Goals as goal

pub open_help-requires-clause-openable : goal.open_help-requires-clause-openable
open_help-requires-clause-openable c =
    let l = c.requires.seat.1 in record { knows = l.knows; closed = c.requires.closed; phase = Drain; shared = refl; known = l.phase }

pub returns : goal.returns
returns c =
    let l = c.requires.seat.1 in
    let e = c.open_help.ensures in
    (e.seat, e.phase Drain (l.phase, knows-steady (view_of c.args.seat.now).state 2 l.knows))
