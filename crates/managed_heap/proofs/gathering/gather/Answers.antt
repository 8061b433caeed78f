use Rattle.std.proofs.Common.{◌≡◌, ◌∙◌, All, arith, refl, subst, sym}
use Rattle.std.proofs.lemmas.List.Elements.{All-head, All-push, All-rest}
use Rattle.gc_table.specs.declared.seat.Heap.{Heap}
use Rattle.seat_turns.specs.Standing.{RestsOutside}
use Rattle.managed_heap.specs.Gathering.{AreOf, handed}
use Rattle.managed_heap.proofs.SeatsGathered.{gathers-more, gathers-none}
use Rattle.managed_heap.proofs.gathering.gather.Goals as goal

pub loop-at-init : goal.loop-at-init
loop-at-init g c = record {
  gathers = gathers-none g.M.Lent.seat_in (handed g.M.Lent.seat_in g.M.Lent.leaves) c.args.all.items c.args.seats.items;
  rest = λ h same rest. (same, rest);
  count = omega arith;
  long = omega arith;
  capacity = refl;
}

pub loop-at-preserved : goal.loop-at-preserved
loop-at-preserved g c =
    let i = c.loop-at.invariant in
    let L = g.M.Lent in
    let m = c.first_of-lent.result in
    let more = c.first_of-lent.new.all.items in
    let first = c.first_of-lent.ensures.first in
    let pushed = c.push_reserved.ensures in
    let left = c.hand_in.ensures in
    record {
      gathers = gathers-more L.seat_in (handed L.seat_in L.leaves) c.args.all.items c.loop-at.all.items more m c.hand_in.result c.args.seats.items c.loop-at.seats.items c.push_reserved.new.self.items i.gathers first (left.left, left.number) pushed.items;
      rest = λ h same rest.
          let so_far = i.rest h same rest in
          let here : L.heap_in m ≡ h = All-head (λ x. L.heap_in x ≡ h) m more (subst (AreOf L.heap_in h) first so_far.0) in (
            All-rest (λ x. L.heap_in x ≡ h) m more c.loop-at.all.items first so_far.0,
            subst (All (RestsOutside h)) (sym pushed.items) (All-push (RestsOutside h) c.loop-at.seats.items c.hand_in.result so_far.1 (subst (λ (x : Heap). RestsOutside x c.hand_in.result) here left.rests)),
          );
      count = omega (arith, i.count, c.first_of-lent.ensures.count);
      long = omega (arith, i.long, c.first_of-lent.ensures.count, pushed.len);
      capacity = pushed.capacity ∙ i.capacity;
    }

pub returns-clause-rest : goal.returns-clause-rest
returns-clause-rest g c h same rest = (c.loop-at.invariant.rest h same rest).1
