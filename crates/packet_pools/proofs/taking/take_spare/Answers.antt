use Rattle.std.specs.Prelude.{IsTrue, IsFalse}
use Rattle.gc_table.specs.Fetching.{is_in_range}
use Rattle.std.proofs.Common.{ℕ, inl, ⊎_elim, eqb-true, ◌≡◌, ◌≤◌, ◌<◌, ◌*◌, ◌++◌, [], ◌∷◌, refl, sym, ap, ◌∙◌, subst, arith, true, false, List}
use Rattle.std.proofs.lemmas.Bool.{and_from}
use Rattle.std.specs.List.{list_all, range_with_len}
use Rattle.mark_core.specs.Layout.{pool_words}
use Rattle.mark_core.specs.Numbers.{empty_pool_number, low_pool_number, word_bits}
use Rattle.mark_core.specs.declared.kinds.Shape.{Shape}
use Rattle.mark_core.specs.declared.seat.SeatState.{SeatState}
use Rattle.gc_table.specs.declared.view.Entry.{Entry}
use Rattle.gc_table.specs.declared.view.View.{View}
use Rattle.gc_table.specs.Seats.{view_of}
use Rattle.gc_table.specs.Log.{events}
use Rattle.gc_table.proofs.History.Log.{events-join}
use Rattle.packet_pools.specs.declared.held.Held.{Held}
use Rattle.packet_pools.specs.Gains.{ComesFrom, Gains, MissesPackets, Takes, TakesNone}
use Rattle.packet_pools.specs.Outside.{AreNotedOutside, KeepsOutside}
use Rattle.packet_pools.specs.Seeking.{was_got, was_got_from, was_missed_in, only_moves}
use Rattle.packet_pools.specs.Tried.{NoSpare, spare_pools}
use Rattle.packet_pools.proofs.Doing.{if-some, if-none, low-half, traces-either, traces-same}
use Rattle.packet_pools.proofs.Outside.{if-both}
use Rattle.packet_pools.proofs.Searches.{all-range, first-pool, got-neither, moves-join, next-pools, none-got, pool-missed, takes-first, takes-next, was-missed-left, was-missed-right}
use Rattle.packet_pools.proofs.TracedSteps.{traced-join}
use Rattle.packet_pools.proofs.taking.take_spare.Goals as goal

empty-half : (sh : Shape) (n : ℕ) → 2 ≤ sh.entries → is_in_range sh empty_pool_number n ≡ true → 2 * n < sh.entries
empty-half sh n two e = let z = eqb-true n 0 e in omega (arith, two, z)

-- an empty packet came from the first pool
first-of : (sh : Shape) (h : Held) (es : List Entry) → ComesFrom sh (0 ∷ []) h es → IsTrue (is_in_range sh empty_pool_number h.length) × IsTrue (was_got_from empty_pool_number h.packet es)
first-of sh h es c = ⊎_elim (λ a. a) (λ b. absurd b.1) c

pub returns-in-Some-clause-some : goal.returns-in-Some-clause-some
returns-in-Some-clause-some c =
    let v : View = view_of c.args.seat.now in
    let w : View = view_of c.take_empty.new.seat in
    let h : Held = c.in-Some.held in
    let t = c.in-Some.ensures.some in
    let two : 2 ≤ v.shape.entries = subst (λ (s : Shape). 2 ≤ s.entries) (sym c.requires.seat.0.1) c.args.heap.now.shaped.entries.0 in
    let from = first-of v.shape h (events v w) t.from in (
      record { unheld = t.unheld; held = t.held; state = t.state; from = inl from; moves = first-pool empty_pool_number (low_pool_number ∷ []) (events v w) t.moves },
      subst (λ (s : Shape). 2 * h.length < s.entries) c.requires.seat.0.1 (empty-half v.shape h.length two from.0),
    )

pub returns-clause-seat : goal.returns-clause-seat
returns-clause-seat c =
    let v : View = view_of c.args.seat.now in
    let a : View = view_of c.take_empty.new.seat in
    let e = c.in_default.ensures in
    let f = c.take_any.ensures in
    (f.seat, traces-either low_pool_number false _ c.take_any.result a (view_of c.take_any.new.seat) f.only (traces-same v a e.only e.none.0 c.requires.seat.1) f.some f.none)

pub returns-clause-only : goal.returns-clause-only
returns-clause-only c = traced-join (view_of c.args.seat.now) (view_of c.take_empty.new.seat) (view_of c.take_any.new.seat) c.in_default.ensures.only c.take_any.ensures.only

pub returns-clause-some : goal.returns-clause-some
returns-clause-some c =
    let sh : Shape = c.args.heap.now.shape in
    let v : View = view_of c.args.seat.now in
    let a : View = view_of c.take_empty.new.seat in
    let b : View = view_of c.take_any.new.seat in
    let e = c.in_default.ensures in
    let f = c.take_any.ensures in
    let unreserved = ap (λ (s : SeatState). s.reserved) e.none.0 ∙ c.requires.seat.1.unreserved in
    if-some c.take_any.result (λ h. Gains low_pool_number false h a b) (λ h. Takes spare_pools h v b × (2 * h.length < sh.entries))
    (λ h g. (
      takes-next sh empty_pool_number (low_pool_number ∷ []) h v a b c.requires.seat.0.1 e.only f.only e.none.0 e.none.1 (takes-first low_pool_number [] false h a b unreserved g),
      subst (λ (s : Shape). 2 * h.length < s.entries) e.seat.0.1 (low-half a.shape h.length g.range),
    ))
    f.some

pub returns-clause-none : goal.returns-clause-none
returns-clause-none c =
    let sh : Shape = c.args.heap.now.shape in
    let v : View = view_of c.args.seat.now in
    let a : View = view_of c.take_empty.new.seat in
    let b : View = view_of c.take_any.new.seat in
    let e = c.in_default.ensures in
    let f = c.take_any.ensures in
    let xs : List Entry = events v a in
    let ys : List Entry = events a b in
    let es = events-join v a b e.only.log f.only.log in
    let no_x : (p : ℕ) → was_got p xs ≡ false = λ p. none-got sh empty_pool_number 0 (word_bits * pool_words sh) p xs e.none.1 in
    if-none c.take_any.result ((b.state ≡ a.state) × MissesPackets sh low_pool_number false 0 (word_bits * pool_words sh) ys) (TakesNone (NoSpare sh) spare_pools v b)
    (λ n. (
      n.0 ∙ e.none.0,
      record {
        missed =
            subst (λ zs. list_all (λ p. was_missed_in spare_pools p zs) (range_with_len 0 sh.packets) ≡ true) (sym es)
            (all-range (λ p. was_missed_in spare_pools p (xs ++ ys)) 0 sh.packets
            (λ p l.
            let low : p < sh.packets = omega (arith, l) in
            and_from _ _ (was-missed-left empty_pool_number p xs ys (pool-missed sh empty_pool_number xs e.none.1 p low))
            (and_from _ _ (was-missed-right low_pool_number p xs ys (no_x p) (pool-missed sh low_pool_number ys n.1 p low)) refl)));
        ungot = λ p. ap (was_got p) es ∙ got-neither p xs ys (no_x p) (none-got sh low_pool_number 0 (word_bits * pool_words sh) p ys n.1);
      },
      ap (only_moves spare_pools) es ∙ moves-join spare_pools xs ys (first-pool empty_pool_number (low_pool_number ∷ []) xs e.none.1.moves) (next-pools empty_pool_number (low_pool_number ∷ []) ys n.1.moves),
    ))
    f.none

pub returns-clause-noted : goal.returns-clause-noted
returns-clause-noted c =
    let v : View = view_of c.args.seat.now in
    let a : View = view_of c.take_empty.new.seat in
    let b : View = view_of c.take_any.new.seat in
    let e = c.in_default.ensures in
    let f = c.take_any.ensures in
    if-both c.take_any.result (KeepsOutside (low_pool_number ∷ []) a b) (IsFalse false → IsTrue a.state.alone → AreNotedOutside low_pool_number b) (IsTrue v.state.alone → AreNotedOutside empty_pool_number b × AreNotedOutside low_pool_number b)
    (λ k n alone.
    let here = ap (λ (s : SeatState). s.alone) e.only.rest ∙ alone in
    let empty = e.noted alone in (
      λ p there. let low = subst (λ (s : Shape). p < s.packets) f.only.shape there in k here empty_pool_number p refl low (empty p low),
      n refl here,
    ))
    f.outside f.noted
