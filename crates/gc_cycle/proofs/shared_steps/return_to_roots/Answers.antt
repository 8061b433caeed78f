use Rattle.mark_core.specs.declared.kinds.Phase.TheVariants.{Drain}
use Rattle.gc_table.specs.Seats.{view_of}
use Rattle.gc_cycle.proofs.Exactly.{exact-part}
use Rattle.gc_cycle.proofs.Stepped.{part-keeps}
use Rattle.gc_cycle.proofs.shared_steps.return_to_roots.Goals as goal

pub returns-clause-exact : goal.returns-clause-exact
returns-clause-exact c u k = exact-part Drain u (view_of c.args.seat.now) (view_of c.reset_blocks.new.seat) c.reset_blocks.ensures.part k

pub returns-clause-keeps : goal.returns-clause-keeps
returns-clause-keeps c = part-keeps Drain (view_of c.args.seat.now) (view_of c.reset_blocks.new.seat) c.reset_blocks.ensures.part
