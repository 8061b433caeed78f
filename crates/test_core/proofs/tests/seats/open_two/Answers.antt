use Rattle.test_core.proofs.Owned.{ready-start}
use Rattle.test_core.proofs.tests.seats.open_two.Goals as goal

pub returns : goal.returns
returns c =
    let h = c.in-Some.heap in
    let a = c.next_seat-zero in
    let b = c.next_seat-one in
    let p = a.ensures.seat in
    let q = b.ensures.seat in
    (c.in-Some.ensures.0, p, ready-start h 0 a.result p.0.0 p.0.1 p.1, ready-start h 1 b.result q.0.0 q.0.1 q.1)
