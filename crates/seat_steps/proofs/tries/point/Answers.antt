use Rattle.seat_turns.proofs.Leaving.{leaves-join}
use Rattle.std.proofs.Common.{arith, inl}
use Rattle.std.proofs.lemmas.Bool.{OnFalse_at, OnTrue_at}
use Rattle.gc_table.specs.Seats.{view_of}
use Rattle.gc_table.specs.declared.view.View.{View}
use Rattle.gc_table.proofs.Running.{ran-join}
use Rattle.mutator_ops.proofs.Few.{at-most-join, at-most-more}
use Rattle.seat_turns.proofs.Seats.{looks-cached, looks-ran}
use Rattle.seat_steps.proofs.Found.{found-other, full-left, goes-freely}
use Rattle.seat_steps.proofs.Paced.{carries-join, carries-out, carries-season}
use Rattle.seat_steps.proofs.tries.point.Goals as goal

pub returns-in-Out-clause-found : goal.returns-in-Out-clause-found
returns-in-Out-clause-found c = (inl c.in-Out.ensures.looks, at-most-more 6 8 (view_of c.args.seat.now) (view_of c.try_pass.new.seat) (omega arith) c.try_pass.ensures.few)

pub returns-in-Full-clause-found : goal.returns-in-Full-clause-found
returns-in-Full-clause-found c =
    let u : View = view_of c.args.seat.now in
    let v : View = view_of c.try_pass.new.seat in
    let w : View = view_of c.leave.new.seat in
    let p = c.try_pass.ensures in
    let l = c.leave.ensures in
    ((full-left u v w p.ran l.ran c.in-Full.ensures.looks, l.full c.in-Full.ensures.passes.1), at-most-join 6 2 u v w p.ran l.ran p.few l.few)

pub returns-in-Full-clause-ran : goal.returns-in-Full-clause-ran
returns-in-Full-clause-ran c = ran-join (view_of c.args.seat.now) (view_of c.try_pass.new.seat) (view_of c.leave.new.seat) c.try_pass.ensures.ran c.leave.ensures.ran

pub returns-then-comes_to_turn-clause-ran : goal.returns-then-comes_to_turn-clause-ran
returns-then-comes_to_turn-clause-ran c =
    let v : View = view_of c.try_pass.new.seat in
    let w : View = view_of c.comes_to_turn.new.seat in
    ran-join (view_of c.args.seat.now) v w c.try_pass.ensures.ran (looks-ran v w c.comes_to_turn.ensures.looks)

pub returns-then-comes_to_turn-clause-freely : goal.returns-then-comes_to_turn-clause-freely
returns-then-comes_to_turn-clause-freely c =
    let l = c.in-Going.ensures.looks in
    let t = c.comes_to_turn.ensures in
    (l.0, goes-freely (view_of c.args.seat.now) (view_of c.try_pass.new.seat) (view_of c.comes_to_turn.new.seat) c.try_pass.ensures.ran l.1 t.looks t.known)

pub returns-else-comes_to_turn-clause-ran : goal.returns-else-comes_to_turn-clause-ran
returns-else-comes_to_turn-clause-ran c =
    let v : View = view_of c.try_pass.new.seat in
    let w : View = view_of c.comes_to_turn.new.seat in
    let x : View = view_of c.leave_with.new.seat in
    ran-join (view_of c.args.seat.now) v x c.try_pass.ensures.ran (ran-join v w x (looks-ran v w c.comes_to_turn.ensures.looks) c.leave_with.ensures.ran)

pub returns-else-comes_to_turn-clause-found : goal.returns-else-comes_to_turn-clause-found
returns-else-comes_to_turn-clause-found c =
    let u : View = view_of c.args.seat.now in
    let v : View = view_of c.try_pass.new.seat in
    let w : View = view_of c.comes_to_turn.new.seat in
    let x : View = view_of c.leave_with.new.seat in
    let p = c.try_pass.ensures in
    let t = c.comes_to_turn.ensures in
    let l = c.leave_with.ensures in
    let looks = goes-freely u v w p.ran c.in-Going.ensures.looks.1 t.looks t.known in
    (found-other u v w x p.ran t.looks (OnFalse_at c.if-comes_to_turn.false t.other) l.ran, at-most-join 3 5 u w x looks.ran l.ran looks.few l.few)

pub returns-in-Full-clause-leaves : goal.returns-in-Full-clause-leaves
returns-in-Full-clause-leaves c = leaves-join (view_of c.args.seat.now) (view_of c.try_pass.new.seat) (view_of c.leave.new.seat) c.try_pass.ensures.leaves c.leave.ensures.leaves

pub returns-then-comes_to_turn-clause-leaves : goal.returns-then-comes_to_turn-clause-leaves
returns-then-comes_to_turn-clause-leaves c = leaves-join (view_of c.args.seat.now) (view_of c.try_pass.new.seat) (view_of c.comes_to_turn.new.seat) c.try_pass.ensures.leaves c.comes_to_turn.ensures.leaves

pub returns-else-comes_to_turn-clause-leaves : goal.returns-else-comes_to_turn-clause-leaves
returns-else-comes_to_turn-clause-leaves c = leaves-join (view_of c.args.seat.now) (view_of c.try_pass.new.seat) (view_of c.leave_with.new.seat) c.try_pass.ensures.leaves (leaves-join (view_of c.try_pass.new.seat) (view_of c.comes_to_turn.new.seat) (view_of c.leave_with.new.seat) c.comes_to_turn.ensures.leaves c.leave_with.ensures.leaves)

pub comes_to_turn-requires : goal.comes_to_turn-requires
comes_to_turn-requires c = record { going = (c.try_pass.new.cache, c.in-Going.ensures.passes) }

pub returns-then-comes_to_turn-clause-ok : goal.returns-then-comes_to_turn-clause-ok
returns-then-comes_to_turn-clause-ok c =
    let t = c.comes_to_turn.ensures in
    (OnTrue_at c.if-comes_to_turn.true t.plays, looks-cached c.try_pass.new.cache (view_of c.try_pass.new.seat) (view_of c.comes_to_turn.new.seat) c.in-Going.ensures.passes.1 t.looks)

pub leave_with-requires-clause-cache : goal.leave_with-requires-clause-cache
leave_with-requires-clause-cache c =
    looks-cached c.try_pass.new.cache (view_of c.try_pass.new.seat) (view_of c.comes_to_turn.new.seat) c.in-Going.ensures.passes.1 c.comes_to_turn.ensures.looks

pub returns-in-Full-clause-paces : goal.returns-in-Full-clause-paces
returns-in-Full-clause-paces c =
    let v = view_of c.try_pass.new.seat in
    let w = view_of c.leave.new.seat in
    let l = c.leave.ensures in
    carries-join (view_of c.args.seat.now) v w c.try_pass.ensures.paces (carries-out v w l.ran l.out)

pub returns-then-comes_to_turn-clause-paces : goal.returns-then-comes_to_turn-clause-paces
returns-then-comes_to_turn-clause-paces c =
    let v = view_of c.try_pass.new.seat in
    let w = view_of c.comes_to_turn.new.seat in
    let t = c.comes_to_turn.ensures.looks in
    carries-join (view_of c.args.seat.now) v w c.try_pass.ensures.paces (carries-season v w (looks-ran v w t) t)

pub returns-else-comes_to_turn-clause-paces : goal.returns-else-comes_to_turn-clause-paces
returns-else-comes_to_turn-clause-paces c =
    let v = view_of c.try_pass.new.seat in
    let w = view_of c.comes_to_turn.new.seat in
    let x = view_of c.leave_with.new.seat in
    let t = c.comes_to_turn.ensures.looks in
    carries-join (view_of c.args.seat.now) v x c.try_pass.ensures.paces (carries-join v w x (carries-season v w (looks-ran v w t) t) c.leave_with.ensures.paces)
