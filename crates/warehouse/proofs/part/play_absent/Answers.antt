use Rattle.gc_table.specs.Seats.{view_of}
use Rattle.warehouse.proofs.Absent.{absent-out, counted-active, counted-nothing, counts-absent}
use Rattle.gc_cycle.proofs.Stops.OutAndIn.{free-to-leave}
use Rattle.warehouse.proofs.part.play_absent.Goals as goal

pub leave-requires-clause-active : goal.leave-requires-clause-active
leave-requires-clause-active g c =
    let e = c.go_in.ensures in
    counted-active (view_of c.args.seat.now) (view_of c.go_in.new.seat) (view_of c.add_stat.new.seat) e.entered e.spares e.numbers e.seat.1 c.add_stat.ensures.view

pub leave-requires-clause-free : goal.leave-requires-clause-free
leave-requires-clause-free g c =
    let e = c.go_in.ensures in
    free-to-leave (view_of c.add_stat.new.seat)
    (counted-nothing (view_of c.args.seat.now) (view_of c.go_in.new.seat) (view_of c.add_stat.new.seat) e.entered e.spares e.numbers e.seat.1 c.add_stat.ensures.view)

pub returns-clause-seat : goal.returns-clause-seat
returns-clause-seat g c =
    let e = c.go_in.ensures in (
      c.leave.ensures.seat,
      absent-out (view_of c.args.seat.now) (view_of c.go_in.new.seat) (view_of c.add_stat.new.seat) e.entered e.spares e.numbers e.seat.1 c.add_stat.ensures.view (view_of c.leave.new.seat) c.leave.ensures.step,
    )

pub returns-clause-counts : goal.returns-clause-counts
returns-clause-counts g c =
    let e = c.go_in.ensures in
    counts-absent (view_of c.args.seat.now) (view_of c.go_in.new.seat) (view_of c.add_stat.new.seat) e.entered e.spares e.numbers e.seat.1 c.add_stat.ensures.view (view_of c.leave.new.seat) c.leave.ensures.step
