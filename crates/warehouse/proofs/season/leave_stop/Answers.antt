use Rattle.gc_table.specs.Seats.{view_of}
use Rattle.warehouse.proofs.Pacing.{left-paces}
use Rattle.warehouse.proofs.Stopping.{leaves-stop, left-out}
use Rattle.gc_cycle.proofs.Stops.OutAndIn.{free-to-leave}
use Rattle.std.proofs.Common.{sym, subst, ◌≡◌, true}
use Rattle.gc_table.specs.declared.view.View.{View}
use Rattle.mark_core.specs.Steps.WorldSteps.{has_nothing}
use Rattle.warehouse.proofs.season.leave_stop.Goals as goal

pub leave-requires-clause-free : goal.leave-requires-clause-free
leave-requires-clause-free c =
    free-to-leave (view_of c.resume.new.seat) (subst (λ (y : View). has_nothing y.shape y.state ≡ true) (sym c.resume.ensures.step.1.0) c.requires.rest.rest)

pub returns-clause-seat : goal.returns-clause-seat
returns-clause-seat c =
    (c.leave.ensures.seat, left-out (view_of c.args.seat.now) (view_of c.resume.new.seat) (view_of c.leave.new.seat) c.requires.rest c.requires.unhelping c.resume.ensures.step c.leave.ensures.step)

pub returns-clause-leaves : goal.returns-clause-leaves
returns-clause-leaves c =
    leaves-stop (view_of c.args.seat.now) (view_of c.resume.new.seat) (view_of c.leave.new.seat) c.requires.rest c.requires.unhelping c.resume.ensures.step c.leave.ensures.step

pub returns-clause-paces : goal.returns-clause-paces
returns-clause-paces c = left-paces (view_of c.args.seat.now) (view_of c.resume.new.seat) (view_of c.leave.new.seat) c.resume.ensures.step c.leave.ensures.step
