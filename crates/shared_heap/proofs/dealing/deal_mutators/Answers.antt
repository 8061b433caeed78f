use Rattle.std.proofs.Common.{[], ℕ, ◌≡◌, ◌<◌, ◌+◌, ◌∙◌, ◌∷◌, List, ap, length, length-append, subst, sym, arith}
use Rattle.std.proofs.lemmas.Grind.{common_steps}
use Rattle.std.specs.Arc.{arc_value}
use Rattle.mark_core.specs.declared.seat.SeatState.{SeatState}
use Rattle.gc_table.specs.Seats.{state_of}
use Rattle.gc_table.specs.declared.seat.Heap.{Heap}
use Rattle.gc_table.specs.declared.seat.HeapSeat.{HeapSeat}
use Rattle.shared_heap.specs.Lending.{IsFreshSharer}
use Rattle.shared_heap.specs.Opening.{AreNew, IsNewSeat}
use Rattle.shared_heap.specs.Planning.{root_plan}
use Rattle.managed_heap.proofs.Starting.{first-new, rest-new}
use Rattle.shared_heap.proofs.Dealt.{fresh-push}
use Rattle.shared_heap.proofs.dealing.deal_mutators.Goals as goal

pub loop-at-preserved : goal.loop-at-preserved
loop-at-preserved c =
    let h : Heap = arc_value c.args.heap.now in
    let i = c.loop-at.invariant in
    let name : ℕ = c.args.sizes.name in
    let seat : HeapSeat = c.first_of-seat.result in
    let xs : List HeapSeat = c.first_of-seat.new.all.items in
    let next : 1 + c.loop-at._at + 1 ≡ 1 + (c.loop-at._at + 1) = omega arith in
    let new = first-new root_plan h (1 + c.loop-at._at) seat xs c.loop-at.seats.items c.first_of-seat.ensures.first i.new in
    let rest = rest-new root_plan h (1 + c.loop-at._at) seat xs c.loop-at.seats.items c.first_of-seat.ensures.first i.new in
    let number : (state_of seat).number ≡ 1 + length c.loop-at.all.items = ap (λ (s : SeatState). s.number) new.1.state ∙ ap (λ (n : ℕ). 1 + n) (sym i.long) in
    let last : IsFreshSharer h name (1 + length c.loop-at.all.items) c.in_ok-mutator.mutator =
    subst (λ (n : ℕ). IsFreshSharer h name n c.in_ok-mutator.mutator) number c.in_ok-mutator.ensures.fresh in
    record {
      new = subst (λ n. AreNew h n xs) next rest;
      rest = omega (arith, i.rest, c.first_of-seat.ensures.count);
      fresh = fresh-push h name 1 c.loop-at.all.items c.push.new.self.items c.in_ok-mutator.mutator i.fresh last c.in_ok-push.ensures.items;
      count = grind (arith, common_steps);
      long = omega (arith, i.long, ap length c.in_ok-push.ensures.items, length-append c.loop-at.all.items (c.in_ok-mutator.mutator ∷ []));
    }

pub mutator_of-requires : goal.mutator_of-requires
mutator_of-requires c =
    let h : Heap = arc_value c.args.heap.now in
    let seat : HeapSeat = c.first_of-seat.result in
    let new = first-new root_plan h (1 + c.loop-at._at) seat c.first_of-seat.new.all.items c.loop-at.seats.items c.first_of-seat.ensures.first c.loop-at.invariant.new in
    let number : (state_of seat).number ≡ 1 + c.loop-at._at = ap (λ (s : SeatState). s.number) new.1.state in
    let above : 0 < (state_of seat).number = omega (arith, number) in
    let below : (state_of seat).number < h.shape.sections = omega (arith, number, c.requires.sections, c.loop-at-test.true) in
    (subst (λ n. IsNewSeat h n seat) (sym number) new, ((above, below), c.requires.shared))
