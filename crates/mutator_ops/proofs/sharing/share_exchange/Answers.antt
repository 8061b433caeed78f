use Rattle.gc_table.specs.Seats.{view_of}
use Rattle.mutator_ops.proofs.Storing.{exchanged-ready, exchanged-same}
use Rattle.mutator_ops.proofs.sharing.share_exchange.Goals as goal

pub returns-clause-seat : goal.returns-clause-seat
returns-clause-seat c =
    let e = c.exchange_ref.ensures in
    (e.seat.0, exchanged-ready c.args.v c.args.i c.args.expected c.args.new c.exchange_ref.result (view_of c.args.seat.now) (view_of c.exchange_ref.new.seat) c.requires.seat.1 e.ran e.exchanged)

pub returns-clause-state : goal.returns-clause-state
returns-clause-state c = exchanged-same c.args.v c.args.i c.args.expected c.args.new c.exchange_ref.result (view_of c.args.seat.now) (view_of c.exchange_ref.new.seat) c.requires.seat.1 c.exchange_ref.ensures.exchanged
