use Rattle.std.proofs.Common.{◌≡◌, rules, subst}
use Rattle.std.specs.Arc.{arc_value}
use Rattle.gc_table.specs.Ends.{HasRoom}
use Rattle.gc_table.specs.declared.seat.Heap.{Heap}
use Rattle.seat_turns.specs.Standing.{RestsOutside}
use Rattle.managed_heap.proofs.SeatsGathered.{all-at}
use Rattle.managed_heap.proofs.gathered.Gathered.close.Goals as goal

pub close_into-requires-clause-room : goal.close_into-requires-clause-room
close_into-requires-clause-room c =
    let same : arc_value c.args.self.heap ≡ c.in-Ok.heap = search rules in
    subst (λ (x : Heap). HasRoom x.shape c.args.self.words) same c.args.self.room

pub close_into-requires-clause-seats : goal.close_into-requires-clause-seats
close_into-requires-clause-seats c i s at =
    let same : arc_value c.args.self.heap ≡ c.in-Ok.heap = search rules in
    let r : RestsOutside c.in-Ok.heap s = subst (λ (x : Heap). RestsOutside x s) same (all-at (RestsOutside (arc_value c.args.self.heap)) c.args.self.seats.items c.args.self.rest i s at) in
    (r.sits, c.args.self.numbered i s at, r.out.bare)
