use Rattle.gc_table.specs.Seats.{view_of}
use Rattle.seat_turns.proofs.CardPass.{passes-none, passes-work}
use Rattle.seat_turns.proofs.tracer_marking.clean_after.Goals as goal

pub returns-in-NoWork-clause-passes : goal.returns-in-NoWork-clause-passes
returns-in-NoWork-clause-passes c = passes-work c.args.stopped (view_of c.args.seat.now) (view_of c.clean_late.new.seat) c.in-NoWork.is c.clean_late.ensures.passes

pub returns-in_default-clause-passes : goal.returns-in_default-clause-passes
returns-in_default-clause-passes c = passes-none c.args.stopped (view_of c.args.seat.now) c.in_default.not-NoWork
