use Rattle.seat_turns.proofs.Leaving.{leaves-join}
use Rattle.std.proofs.Common.{arith, inl}
use Rattle.gc_table.specs.Seats.{view_of}
use Rattle.gc_table.specs.declared.view.View.{View}
use Rattle.mutator_ops.proofs.Few.{at-most-join, at-most-more}
use Rattle.seat_steps.proofs.Found.{enters-by, full-left, turns-found}
use Rattle.seat_steps.proofs.Paced.{carries-join, carries-out}
use Rattle.seat_steps.proofs.tries.enter_once.Goals as goal

pub returns-in-Out-clause-found : goal.returns-in-Out-clause-found
returns-in-Out-clause-found c =
    let v : View = view_of c.args.seat.now in
    let w : View = view_of c.try_in.new.seat in
    ((turns-found v w c.in-Out.ensures.enters.0, at-most-more 2 10 v w (omega arith) c.try_in.ensures.few), c.try_in.ensures.paces, inl c.in-Out.ensures.enters.0)

pub returns-in-Full-clause-found : goal.returns-in-Full-clause-found
returns-in-Full-clause-found c =
    let u : View = view_of c.args.seat.now in
    let v : View = view_of c.try_in.new.seat in
    let w : View = view_of c.leave.new.seat in
    let t = c.try_in.ensures in
    let l = c.leave.ensures in
    (((full-left u v w t.ran l.ran c.in-Full.ensures.enters.1.read, l.full c.in-Full.ensures.tries.1), at-most-more 4 10 u w (omega arith) (at-most-join 2 2 u v w t.ran l.ran t.few l.few)), carries-join u v w t.paces (carries-out v w l.ran l.out), inl (record { entered = v; enters = c.in-Full.ensures.enters.0; leaves = l.out }))

pub returns-in-Going-clause-found : goal.returns-in-Going-clause-found
returns-in-Going-clause-found c =
    enters-by c.arrive.result (view_of c.args.seat.now) (view_of c.try_in.new.seat) (view_of c.arrive.new.seat) c.try_in.ensures.ran c.in-Going.ensures.enters.0 c.arrive.ensures.ran c.arrive.ensures.found c.arrive.ensures.came
    (carries-join (view_of c.args.seat.now) (view_of c.try_in.new.seat) (view_of c.arrive.new.seat) c.try_in.ensures.paces c.arrive.ensures.paces)

pub returns-in-Full-clause-arrives : goal.returns-in-Full-clause-arrives
returns-in-Full-clause-arrives c = (c.leave.ensures.waits, c.leave.ensures.full c.in-Full.ensures.tries.1)

pub returns-in-Full-clause-leaves : goal.returns-in-Full-clause-leaves
returns-in-Full-clause-leaves c = leaves-join (view_of c.args.seat.now) (view_of c.try_in.new.seat) (view_of c.leave.new.seat) c.try_in.ensures.leaves c.leave.ensures.leaves

pub returns-in-Going-clause-leaves : goal.returns-in-Going-clause-leaves
returns-in-Going-clause-leaves c = leaves-join (view_of c.args.seat.now) (view_of c.try_in.new.seat) (view_of c.arrive.new.seat) c.try_in.ensures.leaves c.arrive.ensures.leaves

pub returns-in-Full-clause-paces : goal.returns-in-Full-clause-paces
returns-in-Full-clause-paces c =
    let v = view_of c.try_in.new.seat in
    let w = view_of c.leave.new.seat in
    let l = c.leave.ensures in
    carries-join (view_of c.args.seat.now) v w c.try_in.ensures.paces (carries-out v w l.ran l.out)

pub returns-in-Going-clause-paces : goal.returns-in-Going-clause-paces
returns-in-Going-clause-paces c = carries-join (view_of c.args.seat.now) (view_of c.try_in.new.seat) (view_of c.arrive.new.seat) c.try_in.ensures.paces c.arrive.ensures.paces
