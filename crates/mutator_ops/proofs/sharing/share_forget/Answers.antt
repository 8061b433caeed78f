use Rattle.gc_table.specs.Seats.{view_of}
use Rattle.mutator_ops.proofs.Storing.{sets-variable}
use Rattle.mutator_ops.proofs.sharing.share_forget.Goals as goal

pub returns-clause-sets : goal.returns-clause-sets
returns-clause-sets c = sets-variable c.args.v 0 c.hold_root.result (view_of c.args.seat.now) (view_of c.hold_root.new.seat) c.requires.seat.1 c.hold_root.ensures.view
