use Rattle.gc_table.specs.Seats.{view_of}
use Rattle.seat_turns.proofs.dismissing.tell_dismissed.Goals as goal
use Rattle.seat_turns.proofs.Sparing.{part-heap, told-ran, told-spares}

pub returns-clause-dismisses : goal.returns-clause-dismisses
returns-clause-dismisses g c =
    let e = c.go_in.ensures in
    record {
      entered = view_of c.go_in.new.seat;
      enters = record { entered = e.entered; numbers = e.numbers; offered = e.offered; helps = e.helps; away = e.away };
      told = view_of c.add_stat.new.seat;
      tells = c.add_stat.ensures.view;
      left = c.go_out.ensures.left.0;
      leaves = c.go_out.ensures.left.1;
    }

pub returns-clause-ran : goal.returns-clause-ran
returns-clause-ran g c = told-ran (view_of c.args.seat.now) (view_of c.go_in.new.seat) (view_of c.add_stat.new.seat) (view_of c.go_out.new.seat) c.go_in.ensures.entered.out.ran c.add_stat.ensures.view c.go_out.ensures.out.ran

pub returns-clause-spares : goal.returns-clause-spares
returns-clause-spares g c =
    let u = view_of c.args.seat.now in
    let v = view_of c.go_in.new.seat in
    let w = view_of c.add_stat.new.seat in
    let x = view_of c.go_out.new.seat in
    told-spares u v w x c.go_in.ensures.entered.out.ran c.add_stat.ensures.view c.go_out.ensures.out.ran (part-heap u v c.go_in.ensures.spares) (part-heap w x c.go_out.ensures.spares)
