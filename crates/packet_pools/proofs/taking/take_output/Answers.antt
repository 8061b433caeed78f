use Rattle.std.specs.Prelude.{IsTrue}
use Rattle.std.proofs.Common.{ℕ, ◌≡◌, ◌<◌, ◌*◌, ◌+◌, [], ◌∷◌, refl, ap, ◌∙◌, subst, arith, true, false}
use Rattle.std.proofs.lemmas.Bool.{or_from, or_parts}
use Rattle.mark_core.specs.Layout.{pool_words}
use Rattle.mark_core.specs.Numbers.{empty_pool_number, high_pool_number, low_pool_number, word_bits}
use Rattle.mark_core.specs.declared.kinds.Shape.{Shape}
use Rattle.mark_core.specs.declared.seat.SeatState.{SeatState}
use Rattle.gc_table.specs.declared.view.View.{View}
use Rattle.gc_table.specs.Seats.{view_of}
use Rattle.gc_table.specs.Log.{events}
use Rattle.packet_pools.specs.Gains.{Gains, MissesPackets, Takes, TakesNone}
use Rattle.packet_pools.specs.Outside.{AreNotedOutside, KeepsOutside}
use Rattle.packet_pools.specs.Seeking.{NoOutput, in_pools, output_pools}
use Rattle.packet_pools.specs.StepBounds.{had_steps, pool_steps}
use Rattle.packet_pools.specs.Tried.{spare_pools}
use Rattle.packet_pools.proofs.Doing.{if-some, if-none, seeks-from, traces-either, traces-same}
use Rattle.packet_pools.proofs.Few.{few-join, had-most}
use Rattle.packet_pools.proofs.Outside.{keeps-join, keeps-more, not-rest}
use Rattle.packet_pools.proofs.Searches.{takes-first}
use Rattle.packet_pools.proofs.Spare.{none-last, takes-last, takes-spare}
use Rattle.packet_pools.proofs.TracedSteps.{traced-join}
use Rattle.packet_pools.proofs.taking.take_output.Goals as goal

pub returns-in-Some-clause-some : goal.returns-in-Some-clause-some
returns-in-Some-clause-some c =
    let t = c.in-Some.ensures.some in
    (takes-spare c.in-Some.held (view_of c.args.seat.now) (view_of c.take_spare.new.seat) t.0, let half = t.1 in omega (arith, half))

pub returns-in-Some-clause-few : goal.returns-in-Some-clause-few
returns-in-Some-clause-few c = let few = c.in-Some.ensures.few in omega (arith, few)

pub take_any-requires-clause-seat : goal.take_any-requires-clause-seat
take_any-requires-clause-seat c =
    let e = c.in_default.ensures in
    (e.seat.0, seeks-from high_pool_number (view_of c.args.seat.now) (view_of c.take_spare.new.seat) (omega arith) refl e.only e.none.0 c.requires.seat.1 c.requires.free)

pub returns-clause-seat : goal.returns-clause-seat
returns-clause-seat c =
    let v : View = view_of c.args.seat.now in
    let a : View = view_of c.take_spare.new.seat in
    let e = c.in_default.ensures in
    let g = c.take_any.ensures in
    (g.seat, traces-either high_pool_number true _ c.take_any.result a (view_of c.take_any.new.seat) g.only (traces-same v a e.only e.none.0 c.requires.seat.1) g.some g.none)

pub returns-clause-only : goal.returns-clause-only
returns-clause-only c = traced-join (view_of c.args.seat.now) (view_of c.take_spare.new.seat) (view_of c.take_any.new.seat) c.in_default.ensures.only c.take_any.ensures.only

pub returns-clause-some : goal.returns-clause-some
returns-clause-some c =
    let sh : Shape = c.args.heap.now.shape in
    let v : View = view_of c.args.seat.now in
    let a : View = view_of c.take_spare.new.seat in
    let b : View = view_of c.take_any.new.seat in
    let e = c.in_default.ensures in
    let g = c.take_any.ensures in
    let unreserved = ap (λ (s : SeatState). s.reserved) e.none.0 ∙ c.requires.seat.1.unreserved in
    if-some c.take_any.result (λ h. Gains high_pool_number true h a b) (λ h. Takes output_pools h v b × (h.length < sh.entries))
    (λ h k. (
      takes-last sh v a b c.requires.seat.0.1 e.only g.only e.none.0 e.none.1 e.none.2 h (takes-first high_pool_number [] true h a b unreserved k),
      subst (λ (s : Shape). h.length < s.entries) e.seat.0.1 (k.roomy refl),
    ))
    g.some

pub returns-clause-none : goal.returns-clause-none
returns-clause-none c =
    let sh : Shape = c.args.heap.now.shape in
    let v : View = view_of c.args.seat.now in
    let a : View = view_of c.take_spare.new.seat in
    let b : View = view_of c.take_any.new.seat in
    let e = c.in_default.ensures in
    let g = c.take_any.ensures in
    if-none c.take_any.result ((b.state ≡ a.state) × MissesPackets sh high_pool_number true 0 (word_bits * pool_words sh) (events a b)) (TakesNone (NoOutput sh) output_pools v b)
    (λ n. none-last sh v a b c.requires.seat.0.1 e.only g.only e.none.0 e.none.1 e.none.2 n)
    g.none

pub returns-clause-few : goal.returns-clause-few
returns-clause-few c =
    let sh : Shape = c.args.heap.now.shape in
    let e = c.in_default.ensures in
    let g = c.take_any.ensures in
    let few = e.few in
    let most = had-most c.take_any.result in
    let all = few-join (2 * pool_steps false sh + 2) (pool_steps true sh + had_steps c.take_any.result) (view_of c.args.seat.now) (view_of c.take_spare.new.seat) (view_of c.take_any.new.seat) e.only.ran g.only.ran (omega (arith, few)) g.few in
    omega (arith, all, most)

-- the other pools of a search
outside-spare : (q : ℕ) → in_pools q output_pools ≡ false → in_pools q spare_pools ≡ false
outside-spare q n =
    let a = or_parts _ (in_pools q (low_pool_number ∷ high_pool_number ∷ [])) n in
    let b = or_parts _ (in_pools q (high_pool_number ∷ [])) a.1 in
    or_from _ _ a.0 (or_from _ _ b.0 refl)

outside-high : (q : ℕ) → in_pools q output_pools ≡ false → in_pools q (high_pool_number ∷ []) ≡ false
outside-high q n = not-rest q low_pool_number (high_pool_number ∷ []) (not-rest q empty_pool_number (low_pool_number ∷ high_pool_number ∷ []) n)

pub returns-clause-outside : goal.returns-clause-outside
returns-clause-outside c =
    let v : View = view_of c.args.seat.now in
    let a : View = view_of c.take_spare.new.seat in
    let b : View = view_of c.take_any.new.seat in
    let e = c.in_default.ensures in
    let g = c.take_any.ensures in
    if-none c.take_any.result (KeepsOutside (high_pool_number ∷ []) a b) (KeepsOutside output_pools v b)
    (λ k. keeps-join output_pools v a b e.only.shape (ap (λ (s : SeatState). s.alone) e.only.rest) (keeps-more spare_pools output_pools v a outside-spare e.outside) (keeps-more (high_pool_number ∷ []) output_pools a b outside-high k))
    g.outside

pub returns-clause-noted : goal.returns-clause-noted
returns-clause-noted c =
    let v : View = view_of c.args.seat.now in
    let a : View = view_of c.take_spare.new.seat in
    let b : View = view_of c.take_any.new.seat in
    let e = c.in_default.ensures in
    let g = c.take_any.ensures in
    if-none c.take_any.result (KeepsOutside (high_pool_number ∷ []) a b) (IsTrue v.state.alone → AreNotedOutside empty_pool_number b × AreNotedOutside low_pool_number b)
    (λ k alone.
    let here = ap (λ (s : SeatState). s.alone) e.only.rest ∙ alone in
    let both = e.noted alone in (
      λ p h. let there = subst (λ (s : Shape). p < s.packets) g.only.shape h in k here empty_pool_number p refl there (both.0 p there),
      λ p h. let there = subst (λ (s : Shape). p < s.packets) g.only.shape h in k here low_pool_number p refl there (both.1 p there),
    ))
    g.outside
