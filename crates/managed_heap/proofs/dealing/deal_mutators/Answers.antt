use Rattle.std.proofs.Common.{[], ℕ, ◌≡◌, ◌<◌, ◌+◌, ◌∙◌, List, ap, length, subst, sym, arith}
use Rattle.std.proofs.lemmas.Grind.{common_steps}
use Rattle.std.specs.Arc.{arc_value}
use Rattle.mark_core.specs.declared.seat.SeatState.{SeatState}
use Rattle.gc_table.specs.Seats.{state_of}
use Rattle.gc_table.specs.declared.seat.Heap.{Heap}
use Rattle.gc_table.specs.declared.seat.HeapSeat.{HeapSeat}
use Rattle.managed_heap.specs.Lending.{IsFreshMutator}
use Rattle.managed_heap.specs.declared.mutator.Mutator.{Mutator}
use Rattle.managed_heap.specs.Opening.{AreNew, IsNewSeat}
use Rattle.managed_heap.specs.WorldOpening.{AreNumbered}
use Rattle.managed_heap.proofs.Starting.{first-new, numbered-push, rest-new}
use Rattle.managed_heap.proofs.dealing.deal_mutators.Goals as goal

pub loop-at-preserved : goal.loop-at-preserved
loop-at-preserved c =
    let h : Heap = arc_value c.args.heap.now in
    let i = c.loop-at.invariant in
    let seat : HeapSeat = c.first_of-seat.result in
    let xs : List HeapSeat = c.first_of-seat.new.all.items in
    let next : 1 + c.loop-at._at + 1 ≡ 1 + (c.loop-at._at + 1) = omega arith in
    let new = first-new [] h (1 + c.loop-at._at) seat xs c.loop-at.seats.items c.first_of-seat.ensures.first i.new in
    let rest = rest-new [] h (1 + c.loop-at._at) seat xs c.loop-at.seats.items c.first_of-seat.ensures.first i.new in
    let fresh : ℕ → Mutator → Type 0 = IsFreshMutator h c.args.sizes.name c.args.sizes.in_stops in
    let ms : List Mutator = c.loop-at.all.items in
    let m : Mutator = c.in_ok-mutator.mutator in
    let last : 1 + c.loop-at._at ≡ 1 + length ms = omega (arith, i.count, c.loop-at.all.ok) in
    let number : (state_of seat).number ≡ 1 + length ms = ap (λ (s : SeatState). s.number) new.1.state ∙ last in
    record {
      new = subst (λ n. AreNew h n xs) next rest;
      rest = omega (arith, i.rest, c.first_of-seat.ensures.count);
      fresh = subst (AreNumbered fresh 1) (sym c.in_ok-push.ensures.items) (numbered-push fresh 1 ms m i.fresh (subst (λ n. fresh n m) number c.in_ok-mutator.ensures.fresh));
      count = grind (arith, common_steps);
    }

pub mutator_of-requires : goal.mutator_of-requires
mutator_of-requires c =
    let h : Heap = arc_value c.args.heap.now in
    let seat : HeapSeat = c.first_of-seat.result in
    let new = first-new [] h (1 + c.loop-at._at) seat c.first_of-seat.new.all.items c.loop-at.seats.items c.first_of-seat.ensures.first c.loop-at.invariant.new in
    let number : (state_of seat).number ≡ 1 + c.loop-at._at = ap (λ (s : SeatState). s.number) new.1.state in
    let above : 0 < (state_of seat).number = omega (arith, number) in
    let below : (state_of seat).number < h.shape.sections = omega (arith, number, c.requires.sections, c.loop-at-test.true) in
    (subst (λ n. IsNewSeat h n seat) (sym number) new, ((above, below), c.requires.owned))
