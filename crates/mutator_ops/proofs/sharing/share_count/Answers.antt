use Rattle.gc_table.specs.Seats.{view_of}
use Rattle.mutator_ops.proofs.Storing.{counted-ready}
use Rattle.mutator_ops.proofs.sharing.share_count.Goals as goal

pub returns-clause-seat : goal.returns-clause-seat
returns-clause-seat c =
    let e = c.exchange_value.ensures in
    (e.seat.0, counted-ready c.args.v c.args.expected c.args.new e.view.0 (view_of c.args.seat.now) (view_of c.exchange_value.new.seat) c.requires.seat.1 e.ran e.view.1)
