use Rattle.std.proofs.lemmas.Bool.{OnFalse_at, OnTrue_at}
use Rattle.gc_table.specs.Seats.{view_of}
use Rattle.seat_turns.proofs.dismissing.try_dismiss.Goals as goal
use Rattle.seat_turns.proofs.Sparing.{back-spares, enters-spares, leaves-spares, told-ran, told-spares}

pub returns-then-not-goes_in-clause-spares : goal.returns-then-not-goes_in-clause-spares
returns-then-not-goes_in-clause-spares c = back-spares (view_of c.args.seat.now) (view_of c.goes_in.new.seat) (OnFalse_at c.if-not-goes_in.true c.goes_in.ensures.turns)

pub returns-clause-ran : goal.returns-clause-ran
returns-clause-ran c = told-ran (view_of c.args.seat.now) (view_of c.goes_in.new.seat) (view_of c.add_stat.new.seat) (view_of c.goes_out.new.seat) c.goes_in.ensures.ran c.add_stat.ensures.view c.goes_out.ensures.ran

pub returns-clause-spares : goal.returns-clause-spares
returns-clause-spares c =
    let u = view_of c.args.seat.now in
    let v = view_of c.goes_in.new.seat in
    let w = view_of c.add_stat.new.seat in
    let x = view_of c.goes_out.new.seat in
    told-spares u v w x c.goes_in.ensures.ran c.add_stat.ensures.view c.goes_out.ensures.ran (enters-spares u v (OnTrue_at c.if-not-goes_in.false c.goes_in.ensures.enters)) (leaves-spares w x c.goes_out.ensures.leaves)
