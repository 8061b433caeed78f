use Rattle.std.proofs.Common.{◌≡◌, ℕ, ◌+◌, List, ◌∷◌, [], length, sym, ap, ◌∙◌, refl, subst, ⊎_elim, Some, arith, length-append}
use Rattle.std.specs.Prelude.{slice_get}
use Rattle.mark_core.specs.Start.{start_seat}
use Rattle.gc_table.specs.declared.seat.HeapSeat.{HeapSeat}
use Rattle.gc_table.specs.declared.view.View.{View}
use Rattle.gc_table.specs.Sections.{start_section}
use Rattle.gc_table.specs.Seats.{Sits, view_of, IsFresh}
use Rattle.gc_table.proofs.Records.{got-snoc, got-first}
use Rattle.gc_table.proofs.seat.Heap.create_all.Goals as goal

pub loop-number-preserved : goal.loop-number-preserved
loop-number-preserved c =
    let i = c.loop-number.invariant in
    let f = c.open_seat.ensures.first in
    let n = c.open_seat.ensures.new in
    let P : ℕ → HeapSeat → Type 0 = λ j s. Sits c.in_ok-heap.heap s × IsFresh c.args.shape c.args.plan.parts (j + 1) (view_of s) in
    let number : c.loop-number.number ≡ length c.loop-number.all.items + 1 = sym i.long in
    let new : P (length c.loop-number.all.items) c.open_seat.result =
    (n.0, record { shape = n.0.1 ∙ i.shape; state = ap (λ (v : View). v.state) n.1 ∙ (λ x. start_seat (i.shape x) (number x)); log = ap (λ (v : View). v.log) n.1; known = ap (λ (v : View). v.known) n.1; floors = ap (λ (v : View). v.floors) n.1; plan_is = ap (λ (v : View). v.plan) n.1 ∙ i.fresh.plan_is; own = ap (λ (v : View). v.own) n.1 ∙ (λ x. start_section (i.shape x) (number x)); joined = ap (λ (v : View). v.joined) n.1; logs = ap (λ (v : View). v.logs) n.1 }) in
    record {
      shape = i.shape;
      keyed = i.keyed;
      sits = f.0;
      fresh = record { shape = ap (λ (v : View). v.shape) f.1 ∙ i.fresh.shape; state = ap (λ (v : View). v.state) f.1 ∙ i.fresh.state; log = ap (λ (v : View). v.log) f.1 ∙ i.fresh.log; known = ap (λ (v : View). v.known) f.1 ∙ i.fresh.known; floors = ap (λ (v : View). v.floors) f.1 ∙ i.fresh.floors; plan_is = ap (λ (v : View). v.plan) f.1 ∙ i.fresh.plan_is; own = ap (λ (v : View). v.own) f.1 ∙ i.fresh.own; joined = ap (λ (v : View). v.joined) f.1 ∙ i.fresh.joined; logs = ap (λ (v : View). v.logs) f.1 ∙ i.fresh.logs };
      opened = ap (λ (v : View). v.opened) f.1 ∙ ap (λ (x : ℕ). x + 1) i.opened;
      count = omega (arith, c.push_reserved.ensures.len, i.count);
      long = omega (arith, i.long, ap length c.push_reserved.ensures.items, length-append c.loop-number.all.items (c.open_seat.result ∷ []));
      room = omega (arith, c.push_reserved.ensures.capacity, i.room);
      each = λ j s e.
          ⊎_elim
          (λ (h : slice_get c.loop-number.all.items j ≡ Some s). i.each j s h)
          (λ (t : (j ≡ length c.loop-number.all.items) × (c.open_seat.result ≡ s)). subst (λ (x : ℕ × HeapSeat). P x.0 x.1) (λ y. (sym t.0 y, t.1 y)) new)
          (got-snoc c.loop-number.all.items c.open_seat.result s j (ap (λ (l : List HeapSeat). slice_get l j) (sym c.push_reserved.ensures.items) ∙ e));
    }

pub returns : goal.returns
returns c =
    let i = c.loop-number.invariant in
    let P : ℕ → HeapSeat → Type 0 = λ j s. Sits c.in_ok-heap.heap s × IsFresh c.args.shape c.args.plan.parts j (view_of s) in
    let e = c.in_ok-insert.ensures in (
      i.shape,
      omega (arith, i.count, e.len),
      λ j s h. got-first P c.loop-number.all.items c.loop-number.first (i.sits, i.fresh) i.each j s (ap (λ (l : List HeapSeat). slice_get l j) (sym (e.items)) ∙ h),
      λ s h.
          got-first (λ j x. j ≡ 0 → (view_of x).opened ≡ c.args.seats) c.loop-number.all.items c.loop-number.first (λ z. omega (arith, i.opened)) (λ j x y z. absurd (omega (arith, z))) 0 s (ap (λ (l : List HeapSeat). slice_get l 0) (sym (e.items)) ∙ h) refl,
    )
