use Rattle.std.proofs.Common.{ℕ, ◌≡◌, ◌<◌, ◌*◌, ◌++◌, [], ◌∷◌, sym, ap, ◌∙◌, subst, arith, false, inl, ◌+◌, refl}
use Rattle.mark_core.specs.Layout.{pool_words}
use Rattle.mark_core.specs.Held.{has_free_slot, holds}
use Rattle.mark_core.specs.Numbers.{empty_pool_number, word_bits}
use Rattle.gc_table.specs.Fetching.{is_in_range}
use Rattle.packet_pools.specs.declared.held.Held.{Held}
use Rattle.packet_pools.specs.Hands.{with_packet}
use Rattle.packet_pools.proofs.Searches.{moves-join, some-right, misses-within}
use Rattle.mark_core.specs.declared.kinds.Shape.{Shape}
use Rattle.mark_core.specs.declared.kinds.Step.TheVariants.{Reserve, Credit}
use Rattle.mark_core.specs.declared.seat.SeatState.{SeatState}
use Rattle.gc_table.specs.declared.view.View.{View}
use Rattle.gc_table.specs.Seats.{Found, view_of}
use Rattle.gc_table.specs.Taking.{after}
use Rattle.packet_pools.specs.OnlyTraced.{OnlyTraced}
use Rattle.gc_table.specs.Log.{events}
use Rattle.packet_pools.specs.Seeking.{gets_from, was_got, was_got_from, only_moves}
use Rattle.packet_pools.specs.Gains.{MissesPackets}
use Rattle.gc_table.proofs.History.Log.{events-after, events-join}
use Rattle.packet_pools.proofs.TracedSteps.{traced-join}
use Rattle.packet_pools.proofs.Conditions.{may-reserve, traces-later}
use Rattle.packet_pools.proofs.Doing.{traced-reserve, traced-credit, traces-on, traces-gained}
use Rattle.packet_pools.specs.StepBounds.{pool_steps}
use Rattle.packet_pools.proofs.Few.{few-after, few-join}
use Rattle.packet_pools.specs.Outside.{IsNotedOutside}
use Rattle.packet_pools.proofs.TracedSteps.{seen-found}
use Rattle.packet_pools.proofs.Outside.{keeps-join, keeps-reserve, keeps-credit, outside-step}
use Rattle.packet_pools.proofs.taking.take_empty.Goals as goal

pub reserve-requires-clause-may : goal.reserve-requires-clause-may
reserve-requires-clause-may c = may-reserve (view_of c.args.seat.now) c.requires.seat.1

pub take_any-requires-clause-seat : goal.take_any-requires-clause-seat
take_any-requires-clause-seat c =
    let v : View = view_of c.args.seat.now in
    let w : View = view_of c.reserve.new.seat in
    let e = c.reserve.ensures.view.1.0 in
    let t = c.requires.seat.1 in (
      c.reserve.ensures.seat,
      record {
        may = traces-later v w (traced-reserve v w _ c.reserve.ensures.view.1.1 e) t.may;
        pool = omega arith;
        reserved = ap (λ (x : View). x.state.reserved) e;
        uncredited = ap (λ (x : View). x.state.credit) e ∙ t.uncredited;
        free = ap (λ (x : View). has_free_slot x.state.held) e ∙ c.requires.free;
      },
    )

pub returns-in-Some-clause-seat : goal.returns-in-Some-clause-seat
returns-in-Some-clause-seat c =
    let v : View = view_of c.args.seat.now in
    let w : View = view_of c.reserve.new.seat in
    let e = c.reserve.ensures.view.1.0 in
    let t = c.requires.seat.1 in
    let f = c.in-Some.ensures in
    (f.seat, traces-gained empty_pool_number false c.in-Some.held w (view_of c.take_any.new.seat) f.only f.some (traces-later v w (traced-reserve v w _ c.reserve.ensures.view.1.1 e) t.may) (ap (λ (x : View). x.state.credit) e ∙ t.uncredited))

pub returns-in-Some-clause-only : goal.returns-in-Some-clause-only
returns-in-Some-clause-only c =
    let v : View = view_of c.args.seat.now in
    let w : View = view_of c.reserve.new.seat in
    traced-join v w (view_of c.take_any.new.seat) (traced-reserve v w _ c.reserve.ensures.view.1.1 c.reserve.ensures.view.1.0) c.in-Some.ensures.only

pub returns-in-Some-clause-some : goal.returns-in-Some-clause-some
returns-in-Some-clause-some c =
    let v : View = view_of c.args.seat.now in
    let w : View = view_of c.reserve.new.seat in
    let x : View = view_of c.take_any.new.seat in
    let h : Held = c.in-Some.held in
    let e = c.reserve.ensures.view.1.0 in
    let f = c.in-Some.ensures in
    let g = f.some in
    let es = events-join v w x (traced-reserve v w _ c.reserve.ensures.view.1.1 e).log f.only.log in
    let first = events-after v w Reserve _ e in
    record {
      unheld = ap (λ (y : View). holds y.state.held h.packet) (sym e) ∙ g.unheld;
      held = g.held;
      state =
          g.state
          ∙ (ap (λ (y : View). record y.state { held = with_packet y.state.held h.packet h.length; reserved = false }) e
          ∙ (λ i. record v.state { held = with_packet v.state.held h.packet h.length; reserved = sym c.requires.seat.1.unreserved i }));
      from = inl (ap (λ (y : View). is_in_range y.shape 0 h.length) (sym e) ∙ g.range, ap (was_got_from empty_pool_number h.packet) es ∙ some-right (gets_from empty_pool_number h.packet) (events v w) (events w x) g.got);
      moves = ap (only_moves (0 ∷ [])) es ∙ moves-join (0 ∷ []) (events v w) (events w x) (ap (only_moves (0 ∷ [])) first) g.moves;
    }

all-later : (v w u x : View) (m n : ℕ) → Found Reserve m v w → OnlyTraced w u → Found Credit n u x → OnlyTraced v x
all-later v w u x m n a b d = traced-join v w x (traced-reserve v w m a.1 a.0) (traced-join w u x b (traced-credit u x n d.1 d.0))

-- the reservation is given up again
same-state : (v w u x : View) (m n : ℕ) → v.state.reserved ≡ false → v.state.credit ≡ false → w ≡ after Reserve m v → u.state ≡ w.state → x ≡ after Credit n u → x.state ≡ v.state
same-state v w u x m n r c a b d =
    ap (λ (z : View). z.state) d
    ∙ (ap (λ (s : SeatState). record s { credit = false; reserved = false }) (b ∙ ap (λ (z : View). z.state) a) ∙ (λ i. record v.state { credit = sym c i; reserved = sym r i }))

pub returns-in-None-clause-only : goal.returns-in-None-clause-only
returns-in-None-clause-only c = all-later (view_of c.args.seat.now) (view_of c.reserve.new.seat) (view_of c.take_any.new.seat) (view_of c.credit.new.seat) _ _ c.reserve.ensures.view.1 c.in-None.ensures.only c.credit.ensures.view.1

pub returns-in-None-clause-seat : goal.returns-in-None-clause-seat
returns-in-None-clause-seat c =
    let v : View = view_of c.args.seat.now in
    let w : View = view_of c.reserve.new.seat in
    let u : View = view_of c.take_any.new.seat in
    let x : View = view_of c.credit.new.seat in
    let t = c.requires.seat.1 in
    let e = c.reserve.ensures.view.1.0 in
    let d = c.credit.ensures.view.1.0 in
    let same = same-state v w u x _ _ t.unreserved t.uncredited e c.in-None.ensures.none.0 d in
    (c.credit.ensures.seat, traces-on v x (all-later v w u x _ _ c.reserve.ensures.view.1 c.in-None.ensures.only c.credit.ensures.view.1) t (ap (λ (s : SeatState). s.reserved) same) (ap (λ (s : SeatState). s.credit) same))

pub returns-in-None-clause-none : goal.returns-in-None-clause-none
returns-in-None-clause-none c =
    let sh : Shape = c.args.heap.now.shape in
    let v : View = view_of c.args.seat.now in
    let w : View = view_of c.reserve.new.seat in
    let u : View = view_of c.take_any.new.seat in
    let x : View = view_of c.credit.new.seat in
    let t = c.requires.seat.1 in
    let e = c.reserve.ensures.view.1.0 in
    let d = c.credit.ensures.view.1.0 in
    let f = c.in-None.ensures in
    let last = traced-credit u x _ c.credit.ensures.view.1.1 d in
    let es = events-join v w x (traced-reserve v w _ c.reserve.ensures.view.1.1 e).log (traced-join w u x f.only last).log ∙ ap (λ ys. events v w ++ ys) (events-join w u x f.only.log last.log) in
    let first_none : (p : ℕ) → was_got p (events v w) ≡ false = λ p. ap (was_got p) (events-after v w Reserve _ e) in
    let last_none : (p : ℕ) → was_got p (events u x) ≡ false = λ p. ap (was_got p) (events-after u x Credit _ d) in (
      same-state v w u x _ _ t.unreserved t.uncredited e f.none.0 d,
      subst (MissesPackets sh empty_pool_number false 0 (word_bits * pool_words sh)) (sym es) (misses-within sh 0 false 0 (word_bits * pool_words sh) (events v w) (events w u) (events u x) first_none last_none (ap (only_moves (0 ∷ [])) (events-after v w Reserve _ e)) (ap (only_moves (0 ∷ [])) (events-after u x Credit _ d)) f.none.1),
    )

pub returns-in-Some-clause-few : goal.returns-in-Some-clause-few
returns-in-Some-clause-few c =
    let v : View = view_of c.args.seat.now in
    let w : View = view_of c.reserve.new.seat in
    let e = c.reserve.ensures.view.1 in
    let f = c.in-Some.ensures in
    let all = few-join 1 (pool_steps false c.args.heap.now.shape + 1) v w (view_of c.take_any.new.seat) (traced-reserve v w _ e.1 e.0).ran f.only.ran (few-after v w _ _ e.0) f.few in
    omega (arith, all)

pub returns-in-None-clause-few : goal.returns-in-None-clause-few
returns-in-None-clause-few c =
    let n : ℕ = pool_steps false c.args.heap.now.shape in
    let v : View = view_of c.args.seat.now in
    let w : View = view_of c.reserve.new.seat in
    let u : View = view_of c.take_any.new.seat in
    let x : View = view_of c.credit.new.seat in
    let e = c.reserve.ensures.view.1 in
    let d = c.credit.ensures.view.1 in
    let f = c.in-None.ensures in
    let last = traced-credit u x _ d.1 d.0 in
    let rest = few-join (n + 0) 1 w u x f.only.ran last.ran f.few (few-after u x _ _ d.0) in
    let all = few-join 1 (n + 0 + 1) v w x (traced-reserve v w _ e.1 e.0).ran (traced-join w u x f.only last).ran (few-after v w _ _ e.0) rest in
    omega (arith, all)

pub returns-in-None-clause-outside : goal.returns-in-None-clause-outside
returns-in-None-clause-outside c =
    let v : View = view_of c.args.seat.now in
    let w : View = view_of c.reserve.new.seat in
    let u : View = view_of c.take_any.new.seat in
    let x : View = view_of c.credit.new.seat in
    let e = c.reserve.ensures.view.1 in
    let d = c.credit.ensures.view.1 in
    let f = c.in-None.ensures in
    let first = traced-reserve v w _ e.1 e.0 in
    keeps-join (0 ∷ []) v w x first.shape (ap (λ (s : SeatState). s.alone) first.rest) (keeps-reserve v w _ (0 ∷ []) e.1 e.0)
    (keeps-join (0 ∷ []) w u x f.only.shape (ap (λ (s : SeatState). s.alone) f.only.rest) f.outside (keeps-credit u x _ (0 ∷ []) d.1 d.0))

pub returns-in-None-clause-noted : goal.returns-in-None-clause-noted
returns-in-None-clause-noted c = λ alone p there.
    let v : View = view_of c.args.seat.now in
    let w : View = view_of c.reserve.new.seat in
    let u : View = view_of c.take_any.new.seat in
    let x : View = view_of c.credit.new.seat in
    let e = c.reserve.ensures.view.1 in
    let d = c.credit.ensures.view.1 in
    let f = c.in-None.ensures in
    let here = ap (λ (s : SeatState). s.alone) (traced-reserve v w _ e.1 e.0).rest ∙ alone in
    let still = ap (λ (s : SeatState). s.alone) f.only.rest ∙ here in
    subst (IsNotedOutside 0 p) (sym d.0) (outside-step u Credit _ 0 p refl still (seen-found u Credit _ refl d.1) (inl refl) (f.noted refl here p (subst (λ (z : View). p < z.shape.packets) d.0 there)))
