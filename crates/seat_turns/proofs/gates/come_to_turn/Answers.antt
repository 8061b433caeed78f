use Rattle.gc_table.specs.Seats.{view_of}
use Rattle.gc_table.proofs.Running.{ran-join}
use Rattle.seat_turns.proofs.Leaving.{leaves-join}
use Rattle.seat_turns.proofs.gates.come_to_turn.Goals as goal

pub returns-in-Err-clause-ran : goal.returns-in-Err-clause-ran
returns-in-Err-clause-ran g c = ran-join (view_of c.args.seat.now) (view_of c.pass.new.seat) (view_of c.leave_full.new.seat) c.pass.ensures.ran c.leave_full.ensures.ran

pub returns-in-Err-clause-leaves : goal.returns-in-Err-clause-leaves
returns-in-Err-clause-leaves g c = leaves-join (view_of c.args.seat.now) (view_of c.pass.new.seat) (view_of c.leave_full.new.seat) c.pass.ensures.leaves c.leave_full.ensures.leaves

pub returns-in-Ok-clause-polls : goal.returns-in-Ok-clause-polls
returns-in-Ok-clause-polls g c = (c.in-Ok.kept, c.in-Ok.ensures.polls)

pub returns-in-Err-clause-full : goal.returns-in-Err-clause-full
returns-in-Err-clause-full g c = (view_of c.pass.new.seat, c.in-Err.ensures.full, c.leave_full.ensures.out)
