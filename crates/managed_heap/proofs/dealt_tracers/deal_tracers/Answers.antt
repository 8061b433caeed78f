use Rattle.std.proofs.Common.{ℕ, ◌≡◌, ◌+◌, ◌∙◌, List, ap, length, subst, sym, arith}
use Rattle.std.proofs.lemmas.Grind.{common_steps}
use Rattle.std.specs.Arc.{arc_value}
use Rattle.gc_table.specs.declared.seat.Heap.{Heap}
use Rattle.gc_table.specs.declared.seat.HeapSeat.{HeapSeat}
use Rattle.managed_heap.specs.WorldOpening.{AreNewOf, AreNumbered, IsFreshTracer, IsNewSeatOf}
use Rattle.seat_turns.specs.Standing.{RestsOutside}
use Rattle.seat_turns.specs.declared.background.Tracer.{Tracer}
use Rattle.managed_heap.proofs.Starting.{first-new, new-rests, numbered-push, rest-new}
use Rattle.managed_heap.proofs.dealt_tracers.deal_tracers.Goals as goal

pub loop-at-preserved : goal.loop-at-preserved
loop-at-preserved g c =
    let h : Heap = arc_value c.args.heap.now in
    let i = c.loop-at.invariant in
    let from : ℕ = 1 + c.args.sizes.mutators in
    let seat : HeapSeat = c.first_of-seat.result in
    let xs : List HeapSeat = c.first_of-seat.new.all.items in
    let next : from + c.loop-at._at + 1 ≡ from + (c.loop-at._at + 1) = omega arith in
    let new = first-new g.plan h (from + c.loop-at._at) seat xs c.loop-at.seats.items c.first_of-seat.ensures.first i.new in
    let rest = rest-new g.plan h (from + c.loop-at._at) seat xs c.loop-at.seats.items c.first_of-seat.ensures.first i.new in
    let fresh : ℕ → Tracer → Type 0 = IsFreshTracer g.plan h c.args.sizes.name in
    let ts : List Tracer = c.loop-at.all.items in
    let t : Tracer = c.of_seat.result in
    let made = c.of_seat.ensures.new in
    let number : from + c.loop-at._at ≡ from + length ts = omega (arith, i.count, c.loop-at.all.ok) in
    let last : fresh (from + c.loop-at._at) t =
    record { heap = ap arc_value made.0 ∙ c.in_ok-held.ensures; name_is = made.2; traced = made.3; seat = subst (IsNewSeatOf g.plan h (from + c.loop-at._at)) (sym made.1) new } in
    record {
      new = subst (λ n. AreNewOf g.plan h n xs) next rest;
      rest = omega (arith, i.rest, c.first_of-seat.ensures.count);
      fresh = subst (AreNumbered fresh from) (sym c.in_ok-push.ensures.items) (numbered-push fresh from ts t i.fresh (subst (λ n. fresh n t) number last));
      count = grind (arith, common_steps);
    }

pub of_seat-requires : goal.of_seat-requires
of_seat-requires g c =
    let h : Heap = arc_value c.args.heap.now in
    let k : ℕ = 1 + c.args.sizes.mutators + c.loop-at._at in
    let new = first-new g.plan h k c.first_of-seat.result c.first_of-seat.new.all.items c.loop-at.seats.items c.first_of-seat.ensures.first c.loop-at.invariant.new in
    record { rests = subst (λ (x : Heap). RestsOutside x c.first_of-seat.result) (sym c.in_ok-held.ensures) (new-rests g.plan h k c.first_of-seat.result new) }
