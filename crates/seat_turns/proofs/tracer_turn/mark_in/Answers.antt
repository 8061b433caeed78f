use Rattle.std.proofs.Common.{subst, sym}
use Rattle.mark_core.specs.declared.kinds.Phase.{Phase}
use Rattle.gc_table.specs.Seats.{view_of}
use Rattle.mutator_ops.specs.Few.{AtMost}
use Rattle.mutator_ops.proofs.Few.{at-most-none}
use Rattle.seat_turns.specs.Tracing.{marking_steps}
use Rattle.seat_turns.proofs.Visiting.{marks-none, marks-some}
use Rattle.seat_turns.proofs.Tallying.{tallies-none}
use Rattle.seat_turns.proofs.tracer_turn.mark_in.Goals as goal

pub returns-in-Marking-clause-marks : goal.returns-in-Marking-clause-marks
returns-in-Marking-clause-marks c = marks-some c.args.phase (view_of c.args.seat.now) (view_of c.mark.new.seat) c.in-Marking.is c.mark.ensures.marks

pub returns-in_default-clause-marks : goal.returns-in_default-clause-marks
returns-in_default-clause-marks c = marks-none c.args.phase (view_of c.args.seat.now) c.in_default.not-Marking

pub returns-in_default-clause-tally : goal.returns-in_default-clause-tally
returns-in_default-clause-tally c = tallies-none c.args.tally.now (view_of c.args.seat.now)

pub returns-in-Marking-clause-few : goal.returns-in-Marking-clause-few
returns-in-Marking-clause-few c = subst (λ (p : Phase). AtMost (marking_steps p c.args.heap.now.shape) (view_of c.args.seat.now) (view_of c.mark.new.seat)) (sym c.in-Marking.is) c.mark.ensures.few

pub returns-in_default-clause-few : goal.returns-in_default-clause-few
returns-in_default-clause-few c = at-most-none (marking_steps c.args.phase c.args.heap.now.shape) (view_of c.args.seat.now)
