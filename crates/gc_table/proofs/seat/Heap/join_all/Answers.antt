use Rattle.std.proofs.Common.{ℕ, suc, ◌≡◌, ◌+◌, ◌<◌, ◌∷◌, [], List, length, sym, ap, ◌∙◌, subst, inl, inr, ⊎_elim, arith, Some, length-append}
use Rattle.std.specs.Prelude.{slice_get, Contains}
use Rattle.std.proofs.lemmas.Option.{slice_get_within}
use Rattle.mark_core.specs.declared.kinds.Event.{Event}
use Rattle.mark_core.specs.declared.seat.SeatState.{SeatState}
use Rattle.gc_table.specs.declared.view.View.{View}
use Rattle.gc_table.specs.declared.seat.HeapSeat.{HeapSeat}
use Rattle.gc_table.specs.Rule.{takes_in, KnowsFull}
use Rattle.gc_table.specs.Seats.{seen_of, view_of}
use Rattle.gc_table.proofs.Records.{first-of, rest-at, rest-long, got-last, got-longer}
use Rattle.gc_table.proofs.Fitting.{possible-live}
use Rattle.gc_table.proofs.Joining.{takes-own, takes-more, takes-log, keeps-logs, takes-full, keeps-full, first-or-past, next-or-past, same-got}
use Rattle.gc_table.proofs.seat.Heap.join_all.Goals as goal

later-in : (e : List Event) (es : List (List Event)) (fs : List Event) → Contains es fs → Contains (e ∷ es) fs
later-in e es fs c = (suc c.0, omega (arith, c.1), c.2)

pub loop-seat-init : goal.loop-seat-init
loop-seat-init c =
    let e = c.remove-first.ensures in
    let xs : List HeapSeat = c.args.seats.items in
    let some_left : 0 < length xs = omega (arith, c.args.seats.ok, c.requires.some) in
    let at = first-of xs c.remove-first.result some_left e.value in
    let q = c.requires.seats 0 c.remove-first.result at in
    record {
      kept = record { table = q.0.0; shape = q.0.1; seated = c.remove-first.result.seated; live = possible-live _ c.remove-first.result.possible; outside = q.2 };
      first = λ s h. let e = same-got xs 0 c.remove-first.result s at h in (ap (λ (x : HeapSeat). (view_of x).state) e, ap (λ (x : HeapSeat). (view_of x).own) e, ap (λ (x : HeapSeat). (view_of x).plan) e, ap (λ (x : HeapSeat). (view_of x).opened) e, ap (λ (x : HeapSeat). (view_of x).log) e);
      joined = λ i s w far h m. absurd (omega (arith, far, ap length e.items, rest-long xs some_left, slice_get_within xs i s h));
      logs = λ i s far h. absurd (omega (arith, far, ap length e.items, rest-long xs some_left, slice_get_within xs i s h));
      seen = λ s h. let e = same-got xs 0 c.remove-first.result s at h in ap seen_of e;
      told = λ i s far h. absurd (omega (arith, far, ap length e.items, rest-long xs some_left, slice_get_within xs i s h));
      full = λ i s where_is h k. ⊎_elim
          (λ (z : i ≡ 0). subst (λ (x : HeapSeat). KnowsFull (view_of x)) (sym (same-got xs 0 c.remove-first.result s at (subst (λ (n : ℕ). slice_get xs n ≡ Some s) z h))) k)
          (λ (far : length c.remove-first.new.self.items < i). absurd (omega (arith, far, ap length e.items, rest-long xs some_left, slice_get_within xs i s h)))
          where_is;
      left = λ i s h. rest-at xs i s (ap (λ (l : List HeapSeat). slice_get l i) (sym e.items) ∙ h);
    }

pub absorb-requires-clause-other : goal.absorb-requires-clause-other
absorb-requires-clause-other c =
    let e = c.in-Some.ensures in
    let n : ℕ = length c.pop.new.self.items in
    let at = c.loop-seat.invariant.left n c.in-Some.seat (ap (λ (l : List HeapSeat). slice_get l n) e.items ∙ got-last c.pop.new.self.items c.in-Some.seat) in
    let q = c.requires.seats (n + 1) c.in-Some.seat at in (q.0, q.2, λ z. absurd (omega (arith, q.1, z)))

pub loop-seat-preserved : goal.loop-seat-preserved
loop-seat-preserved c =
    let e = c.in-Some.ensures in
    let i = c.loop-seat.invariant in
    let a = c.absorb.ensures in
    let v : View = c.loop-seat.first.me.0.view in
    let u : View = view_of c.in-Some.seat in
    let n : ℕ = length c.pop.new.self.items in
    let last = i.left n c.in-Some.seat (ap (λ (l : List HeapSeat). slice_get l n) e.items ∙ got-last c.pop.new.self.items c.in-Some.seat) in
    let number : u.state.number ≡ n + 1 = (c.requires.seats (n + 1) c.in-Some.seat last).1 in
    let long = length-append c.pop.new.self.items (c.in-Some.seat ∷ []) in
    let same : (j : ℕ) (s : HeapSeat) → j ≡ n + 1 → slice_get c.args.seats.items j ≡ Some s → c.in-Some.seat ≡ s = λ j s z h. same-got c.args.seats.items (n + 1) c.in-Some.seat s last (subst (λ (k : ℕ). slice_get c.args.seats.items k ≡ Some s) z h) in
    record {
      kept = a.left;
      first = λ s h. let q = i.first s h in (ap (λ (v : View). v.state) a.both ∙ q.0, ap (λ (v : View). v.own) a.both ∙ q.1, ap (λ (v : View). v.plan) a.both ∙ q.2, ap (λ (v : View). v.opened) a.both ∙ q.3, ap (λ (v : View). v.log) a.both ∙ q.4);
      joined = λ j s w far h m.
          subst (λ (v : View). Contains v.joined (w, (view_of s).own)) (sym a.both) (⊎_elim
          (λ (z : j ≡ n + 1). subst (λ (x : HeapSeat). Contains (takes_in v (view_of x)).joined (w, (view_of s).own)) (sym (same j s z h)) (takes-own v (view_of s) w m))
          (λ (l : n + 1 < j). takes-more v u (w, (view_of s).own) (i.joined j s w (omega (arith, l, ap length e.items, long)) h m))
          (next-or-past n j far));
      logs = λ j s far h.
          subst (λ (v : View). Contains v.logs (j, (view_of s).log)) (sym a.both) (⊎_elim
          (λ (z : j ≡ n + 1). subst (λ (x : ℕ × HeapSeat). Contains (takes_in v u).logs (x.0, (view_of x.1).log)) (λ y. ((number ∙ sym z) y, same j s z h y)) (takes-log v u))
          (λ (l : n + 1 < j). keeps-logs v u (j, (view_of s).log) (i.logs j s (omega (arith, l, ap length e.items, long)) h))
          (next-or-past n j far));
      seen = λ s h. a.told.0 ∙ i.seen s h;
      told = λ j s far h.
          subst (λ (xs : List (List Event)). Contains xs (seen_of s)) (sym a.told.1) (⊎_elim
          (λ (z : j ≡ n + 1). (0, omega arith, ap seen_of (same j s z h)))
          (λ (l : n + 1 < j). later-in (seen_of c.in-Some.seat) c.loop-seat.first.me.0.heard (seen_of s) (i.told j s (omega (arith, l, ap length e.items, long)) h))
          (next-or-past n j far));
      full = λ j s where_is h k.
          subst KnowsFull (sym a.both) (⊎_elim
          (λ (z : j ≡ 0). keeps-full v u (i.full j s (inl z) h k))
          (λ (far : n < j). ⊎_elim
          (λ (z : j ≡ n + 1). takes-full v u (subst (λ (x : HeapSeat). KnowsFull (view_of x)) (sym (same j s z h)) k))
          (λ (l : n + 1 < j). keeps-full v u (i.full j s (inr (omega (arith, l, ap length e.items, long))) h k))
          (next-or-past n j far))
          where_is);
      left = λ j s h. i.left j s (ap (λ (l : List HeapSeat). slice_get l j) e.items ∙ got-longer c.pop.new.self.items c.in-Some.seat s j h);
    }

pub returns-clause-first : goal.returns-clause-first
returns-clause-first c = λ s h. let q = c.loop-seat.invariant.first s h in (q.0, q.2, q.3)

pub returns-clause-sections : goal.returns-clause-sections
returns-clause-sections c = λ j s w h m.
    let i = c.loop-seat.invariant in
    let none : length c.loop-seat.seats.items ≡ 0 = omega (arith, c.loop-seat.seats.ok, c.in_default.ensures.cases) in
    ⊎_elim
    (λ (e : j ≡ 0). let q = i.first s (subst (λ (k : ℕ). slice_get c.args.seats.items k ≡ Some s) e h) in inl (ap (λ (x : SeatState). x.section) q.0 ∙ m, q.1))
    (λ (l : 0 < j). inr (i.joined j s w (omega (arith, l, none)) h m))
    (first-or-past j)

pub returns-clause-logs : goal.returns-clause-logs
returns-clause-logs c = λ j s h.
    let i = c.loop-seat.invariant in
    let none : length c.loop-seat.seats.items ≡ 0 = omega (arith, c.loop-seat.seats.ok, c.in_default.ensures.cases) in
    ⊎_elim
    (λ (e : j ≡ 0). let q = i.first s (subst (λ (k : ℕ). slice_get c.args.seats.items k ≡ Some s) e h) in inl (ap (λ (x : SeatState). x.number) q.0 ∙ (c.requires.seats j s h).1, q.4))
    (λ (l : 0 < j). inr (i.logs j s (omega (arith, l, none)) h))
    (first-or-past j)

pub returns-clause-seen : goal.returns-clause-seen
returns-clause-seen c = λ j s h.
    let i = c.loop-seat.invariant in
    let none : length c.loop-seat.seats.items ≡ 0 = omega (arith, c.loop-seat.seats.ok, c.in_default.ensures.cases) in
    ⊎_elim
    (λ (e : j ≡ 0). inl (i.seen s (subst (λ (k : ℕ). slice_get c.args.seats.items k ≡ Some s) e h)))
    (λ (l : 0 < j). inr (i.told j s (omega (arith, l, none)) h))
    (first-or-past j)

pub returns-clause-full : goal.returns-clause-full
returns-clause-full c = λ j s h k.
    let none : length c.loop-seat.seats.items ≡ 0 = omega (arith, c.loop-seat.seats.ok, c.in_default.ensures.cases) in
    ⊎_elim
    (λ (e : j ≡ 0). c.loop-seat.invariant.full j s (inl e) h k)
    (λ (l : 0 < j). c.loop-seat.invariant.full j s (inr (omega (arith, l, none))) h k)
    (first-or-past j)
