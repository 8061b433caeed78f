use Rattle.std.proofs.Common.{ℕ, ◌≡◌, ◌+◌, ◌<◌, List, length, sym, ap, ◌∙◌, subst, arith}
use Rattle.std.specs.Prelude.{slice_get}
use Rattle.gc_table.specs.declared.seat.HeapSeat.{HeapSeat}
use Rattle.gc_table.specs.SeatRecords.{resting}
use Rattle.test_heaps.specs.Seats.{New}
use Rattle.gc_table.proofs.Records.{first-of, rest-at}
use Rattle.test_heaps.proofs.opening.next_seat.Goals as goal

pub returns-clause-seat : goal.returns-clause-seat
returns-clause-seat c =
    let xs : List HeapSeat = c.args.seats.now.items in
    let k : ℕ = c.args.k in
    let none : k + 0 ≡ k = omega arith in
    let some : 0 < length xs = omega (arith, c.requires.some, c.args.seats.now.ok) in
    subst (λ n. New c.args.heap.now resting n c.remove.result) none (c.requires.all 0 c.remove.result (first-of xs c.remove.result some c.remove.ensures.value))

pub returns-clause-rest : goal.returns-clause-rest
returns-clause-rest c = λ i s h.
    let xs : List HeapSeat = c.args.seats.now.items in
    let k : ℕ = c.args.k in
    let next : k + (i + 1) ≡ k + 1 + i = omega arith in
    subst (λ n. New c.args.heap.now resting n s) next (c.requires.all (i + 1) s (rest-at xs i s (ap (λ (l : List HeapSeat). slice_get l i) (sym c.remove.ensures.items) ∙ h)))
