use Rattle.std.proofs.Common.{ap}
use Rattle.mark_core.specs.Seats.{is_bare}
use Rattle.mark_core.specs.declared.seat.SeatState.{SeatState}
use Rattle.test_core.proofs.tests.seats.words_of_largest.Goals as goal

pub close-requires-clause-seats : goal.close-requires-clause-seats
close-requires-clause-seats c i s h =
    let q = c.in-Ok.ensures.2 i s h in
    (q.0, ap (λ (x : SeatState). x.number) q.1.state, ap is_bare q.1.state)
