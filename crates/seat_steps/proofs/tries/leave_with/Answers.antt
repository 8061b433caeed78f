use Rattle.seat_turns.proofs.Leaving.{leaves-join}
use Rattle.gc_table.specs.Seats.{view_of}
use Rattle.gc_table.proofs.Running.{ran-join}
use Rattle.seat_steps.proofs.AtTurn.{retired-full}
use Rattle.seat_steps.proofs.Paced.{carries-given, carries-join, carries-out}
use Rattle.seat_steps.proofs.tries.leave_with.Goals as goal

pub returns-clause-ran : goal.returns-clause-ran
returns-clause-ran c = ran-join (view_of c.args.seat.now) (view_of c.retire_some.new.seat) (view_of c.leave.new.seat) c.retire_some.ensures.ran c.leave.ensures.ran

pub returns-clause-leaves : goal.returns-clause-leaves
returns-clause-leaves c = leaves-join (view_of c.args.seat.now) (view_of c.retire_some.new.seat) (view_of c.leave.new.seat) c.retire_some.ensures.leaves c.leave.ensures.leaves

pub returns-clause-full : goal.returns-clause-full
returns-clause-full c = λ k. c.leave.ensures.full (retired-full (view_of c.args.seat.now) (view_of c.retire_some.new.seat) c.retire_some.ensures.ran c.retire_some.ensures.only k)

pub returns-clause-out : goal.returns-clause-out
returns-clause-out c = record { given = view_of c.retire_some.new.seat; gives = (c.args.cache, c.requires.cache, c.retire_some.ensures.gives); leaves = c.leave.ensures.out }

pub returns-clause-paces : goal.returns-clause-paces
returns-clause-paces c =
    let u = view_of c.args.seat.now in
    let v = view_of c.retire_some.new.seat in
    let w = view_of c.leave.new.seat in
    let r = c.retire_some.ensures in
    let l = c.leave.ensures in
    carries-join u v w (carries-given c.args.cache u v c.requires.cache r.halts.cache r.gives) (carries-out v w l.ran l.out)
