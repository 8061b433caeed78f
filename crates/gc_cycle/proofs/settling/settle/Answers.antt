use Rattle.mark_core.specs.declared.kinds.Phase.TheVariants.{Idle}
use Rattle.gc_table.specs.Seats.{view_of}
use Rattle.gc_cycle.proofs.Parts.{part-join}
use Rattle.gc_cycle.proofs.settling.settle.Goals as goal

pub returns-clause-part : goal.returns-clause-part
returns-clause-part c = part-join Idle (view_of c.args.seat.now) (view_of c.count_published-marked.new.seat) (view_of c.set_numbers.new.seat) c.count_published-marked.ensures.part c.set_numbers.ensures.part
