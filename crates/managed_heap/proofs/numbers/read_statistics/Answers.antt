use Rattle.std.proofs.Common.{refl}
use Rattle.gc_table.specs.Running.{Ran}
use Rattle.gc_table.specs.Seats.{view_of}
use Rattle.gc_table.proofs.History.Log.{only-after}
use Rattle.gc_table.proofs.Running.{ran-found, ran-join, ran-only}
use Rattle.seat_turns.specs.Sharing.{spares_heap}
use Rattle.managed_heap.proofs.numbers.read_statistics.Goals as goal

pub returns-clause-ran : goal.returns-clause-ran
returns-clause-ran c =
    let v = view_of c.args.seat.now in
    let between = view_of c.read_stat-free.new.seat in
    let w = view_of c.read_stat-marked.new.seat in
    ran-join v between w (ran-found v between _ c.read_stat-free.result refl c.read_stat-free.ensures.view) (ran-found between w _ c.read_stat-marked.result refl c.read_stat-marked.ensures.view)

pub returns-clause-spares : goal.returns-clause-spares
returns-clause-spares c =
    let v = view_of c.args.seat.now in
    let between = view_of c.read_stat-free.new.seat in
    let w = view_of c.read_stat-marked.new.seat in
    let free = c.read_stat-free.ensures.view in
    let marked = c.read_stat-marked.ensures.view in
    ran-only spares_heap v between w (ran-found v between _ c.read_stat-free.result refl free) (ran-found between w _ c.read_stat-marked.result refl marked)
    (only-after spares_heap v between _ c.read_stat-free.result refl free.0) (only-after spares_heap between w _ c.read_stat-marked.result refl marked.0)
