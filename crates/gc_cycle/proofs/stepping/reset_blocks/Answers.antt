use Rattle.std.proofs.Common.{refl}
use Rattle.mark_core.specs.declared.kinds.Phase.TheVariants.{Drain}
use Rattle.gc_table.specs.Seats.{view_of}
use Rattle.gc_cycle.proofs.Ends.Moving.{may-reset_drain}
use Rattle.gc_cycle.proofs.Parts.{part-reset}
use Rattle.gc_cycle.proofs.Stepped.{reset-roots}
use Rattle.mark_core.specs.Numbers.{block_counter}
use Rattle.gc_cycle.proofs.Changes.{course-reset}
use Rattle.gc_cycle.proofs.Few.{few-after}
use Rattle.mark_core.specs.declared.kinds.Step.TheVariants.{Reset}
use Rattle.gc_cycle.proofs.stepping.reset_blocks.Goals as goal

pub reset-requires-clause-may : goal.reset-requires-clause-may
reset-requires-clause-may c = may-reset_drain 1 (view_of c.args.seat.now) refl c.requires.alone

pub returns-clause-part : goal.returns-clause-part
returns-clause-part c = part-reset Drain 1 (view_of c.args.seat.now) (view_of c.reset.new.seat) c.reset.ensures.view c.requires.alone

pub returns-clause-roots : goal.returns-clause-roots
returns-clause-roots c = reset-roots (view_of c.args.seat.now) (view_of c.reset.new.seat) c.requires.owner c.requires.alone c.reset.ensures.view

pub returns-clause-course : goal.returns-clause-course
returns-clause-course c = course-reset block_counter (view_of c.args.seat.now) (view_of c.reset.new.seat) c.reset.ensures.view

pub returns-clause-few : goal.returns-clause-few
returns-clause-few c = few-after (view_of c.args.seat.now) (view_of c.reset.new.seat) (Reset block_counter) 0 c.reset.ensures.view
