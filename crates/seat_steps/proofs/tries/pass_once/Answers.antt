use Rattle.gc_table.specs.Seats.{view_of}
use Rattle.gc_table.specs.declared.view.View.{View}
use Rattle.gc_table.proofs.Running.{ran-join}
use Rattle.seat_turns.proofs.Leaving.{leaves-join}
use Rattle.seat_steps.proofs.AtTurn.{hindered-holds, hindered-out}
use Rattle.seat_steps.proofs.Found.{hindered-by, two-few}
use Rattle.seat_steps.proofs.Paced.{carries-join, carries-looked, carries-looks}
use Rattle.seat_steps.proofs.tries.pass_once.Goals as goal

pub returns-in-Done-clause-found : goal.returns-in-Done-clause-found
returns-in-Done-clause-found c = let looks = c.in-Done.ensures.looks in record { ran = c.look.ensures.ran; looks = looks; few = two-few (view_of c.args.seat.now) (view_of c.look.new.seat) looks }

pub leave_hindered-requires : goal.leave_hindered-requires
leave_hindered-requires c = let l = c.look in record { holds = hindered-holds l.result c.args.heap.now l.new.seat c.in_default.not-Done l.ensures.looked }

pub returns-in_default-clause-arrives : goal.returns-in_default-clause-arrives
returns-in_default-clause-arrives c =
    let l = c.leave_hindered in
    hindered-out c.look.result c.args.heap.now c.look.new.seat l.new.seat c.in_default.not-Done c.look.ensures.looked l.ensures.waits l.ensures.full

pub returns-in_default-clause-leaves : goal.returns-in_default-clause-leaves
returns-in_default-clause-leaves c = leaves-join (view_of c.args.seat.now) (view_of c.look.new.seat) (view_of c.leave_hindered.new.seat) c.look.ensures.leaves c.leave_hindered.ensures.leaves

pub returns-in_default-clause-ran : goal.returns-in_default-clause-ran
returns-in_default-clause-ran c = ran-join (view_of c.args.seat.now) (view_of c.look.new.seat) (view_of c.leave_hindered.new.seat) c.look.ensures.ran c.leave_hindered.ensures.ran

pub returns-in_default-clause-found : goal.returns-in_default-clause-found
returns-in_default-clause-found c =
    let u : View = view_of c.args.seat.now in
    let v : View = view_of c.look.new.seat in
    let w : View = view_of c.leave_hindered.new.seat in
    let l = c.leave_hindered.ensures in
    hindered-by c.look.result u v w c.in_default.not-Done c.look.ensures.looks c.look.ensures.ran l.out l.ran c.look.ensures.lags l.few l.full

pub returns-in-Done-clause-paces : goal.returns-in-Done-clause-paces
returns-in-Done-clause-paces c = carries-looks (view_of c.args.seat.now) (view_of c.look.new.seat) c.look.ensures.ran c.in-Done.ensures.looks

pub returns-in_default-clause-paces : goal.returns-in_default-clause-paces
returns-in_default-clause-paces c =
    let u = view_of c.args.seat.now in
    let v = view_of c.look.new.seat in
    let l = c.look.ensures in
    carries-join u v (view_of c.leave_hindered.new.seat) (carries-looked c.look.result u v l.ran l.looks) c.leave_hindered.ensures.paces
