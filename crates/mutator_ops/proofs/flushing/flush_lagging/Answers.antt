use Rattle.gc_table.specs.Seats.{view_of}
use Rattle.mutator_ops.proofs.Flushed.{may-flush}
use Rattle.mutator_ops.proofs.flushing.flush_lagging.Goals as goal

pub flush_root-requires-clause-may : goal.flush_root-requires-clause-may
flush_root-requires-clause-may c = may-flush c.args.v (view_of c.args.seat.now) c.requires.turn c.requires.range
