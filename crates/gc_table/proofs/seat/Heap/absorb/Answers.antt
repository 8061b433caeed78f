use Rattle.std.proofs.Common.{rules}
use Rattle.gc_table.proofs.Fitting.{possible-live}
use Rattle.gc_table.proofs.TokensClosed.{joins-seat}
use Rattle.gc_table.proofs.seat.Heap.absorb.Goals as goal

pub join_seat-requires : goal.join_seat-requires
join_seat-requires c =
    let q = c.requires in
    let t = c.args.other in
    (search rules, search rules, search rules, search rules, joins-seat _ _ _ _ _ _ q.first.seated t.seated q.first.live q.first.outside (possible-live _ t.possible) q.other.1 q.other.2)
