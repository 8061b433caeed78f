use Rattle.std.proofs.Common.{sym, ◌∙◌}
use Rattle.gc_table.specs.Seats.{view_of}
use Rattle.stop_world.proofs.Flagged.{raised-first}
use Rattle.managed_heap.proofs.opening.raises.Goals as goal

pub returns-in-Yours-clause-raised : goal.returns-in-Yours-clause-raised
returns-in-Yours-clause-raised c =
    let q = c.requires in
    let e = c.raise.ensures in
    let f = e.step in
    ((e.seat, raised-first c.args.heap.now.shape 0 (view_of c.args.seat.now) (view_of c.raise.new.seat) f.0 q.0.1 q.1 f.1 (sym c.in-Yours.is ∙ f.3)), e.unmoved)
