use Rattle.std.specs.Prelude.{IsTrue, nat_le}
use Rattle.gc_table.specs.Fetching.{is_in_range}
use Rattle.std.proofs.lemmas.Bool.{and_from, and_parts, leb-true}
use Rattle.std.proofs.Common.{ℕ, true, ◌≡◌, ◌≤◌, ◌<◌, ◌*◌, ◌++◌, [], ◌∷◌, refl, sym, ap, ◌∙◌, subst, arith, false, ◌+◌}
use Rattle.mark_core.specs.Layout.{pool_words}
use Rattle.mark_core.specs.Numbers.{high_pool_number, low_pool_number, word_bits}
use Rattle.mark_core.specs.declared.kinds.Shape.{Shape}
use Rattle.mark_core.specs.declared.seat.SeatState.{SeatState}
use Rattle.gc_table.specs.declared.view.View.{View}
use Rattle.gc_table.specs.Seats.{view_of}
use Rattle.gc_table.specs.Log.{events}
use Rattle.packet_pools.specs.Seeking.{NoInput, was_missed_in, was_got, only_moves, input_pools}
use Rattle.packet_pools.specs.Gains.{Gains, MissesPackets, Takes}
use Rattle.gc_table.proofs.History.Log.{events-join}
use Rattle.packet_pools.proofs.TracedSteps.{traced-join}
use Rattle.packet_pools.proofs.Searches.{all-range, pool-missed, takes-first, takes-next, none-got, first-pool, moves-join, next-pools, was-missed-left, was-missed-right}
use Rattle.packet_pools.specs.StepBounds.{had_steps, pool_steps}
use Rattle.packet_pools.proofs.Few.{few-join, had-most}
use Rattle.packet_pools.proofs.Doing.{if-some, if-none, seeks-from, traces-same, traces-gained, traces-either, low-some}
use Rattle.std.specs.Prelude.{IsFalse}
use Rattle.packet_pools.specs.Outside.{AreNotedOutside, KeepsOutside}
use Rattle.packet_pools.proofs.Outside.{keeps-join, keeps-more, not-rest, head-only, if-both}
use Rattle.packet_pools.proofs.taking.take_input.Goals as goal

pub take_any-requires-in-None-clause-seat : goal.take_any-requires-in-None-clause-seat
take_any-requires-in-None-clause-seat c =
    let e = c.in-None.ensures in
    (e.seat, seeks-from low_pool_number (view_of c.args.seat.now) (view_of c.take_any.new.seat) (omega arith) refl e.only e.none.0 c.requires.seat.1 c.requires.free)

pub returns-in-Some-clause-seat : goal.returns-in-Some-clause-seat
returns-in-Some-clause-seat c =
    let e = c.in-Some.ensures in
    let t = c.requires.seat.1 in
    (e.seat, traces-gained high_pool_number false c.in-Some.held (view_of c.args.seat.now) (view_of c.take_any.new.seat) e.only e.some t.may t.uncredited)

pub returns-in-None-clause-seat : goal.returns-in-None-clause-seat
returns-in-None-clause-seat c =
    let v : View = view_of c.args.seat.now in
    let u : View = view_of c.take_any.new.seat in
    let w : View = view_of c.take_any-in-None.new.seat in
    let e = c.in-None.ensures in
    let f = c.take_any-in-None.ensures in
    (f.seat, traces-either low_pool_number false _ c.take_any-in-None.result u w f.only (traces-same v u e.only e.none.0 c.requires.seat.1) f.some f.none)

pub returns-in-None-clause-only : goal.returns-in-None-clause-only
returns-in-None-clause-only c = traced-join (view_of c.args.seat.now) (view_of c.take_any.new.seat) (view_of c.take_any-in-None.new.seat) c.in-None.ensures.only c.take_any-in-None.ensures.only

pub returns-in-None-clause-some : goal.returns-in-None-clause-some
returns-in-None-clause-some c =
    let sh : Shape = c.args.heap.now.shape in
    let v : View = view_of c.args.seat.now in
    let u : View = view_of c.take_any.new.seat in
    let w : View = view_of c.take_any-in-None.new.seat in
    let e = c.in-None.ensures in
    let f = c.take_any-in-None.ensures in
    let unreserved = ap (λ (s : SeatState). s.reserved) e.none.0 ∙ c.requires.seat.1.unreserved in
    if-some c.take_any-in-None.result (λ h. Gains low_pool_number false h u w) (λ h. Takes input_pools h v w × (0 < h.length))
    (λ h g. (takes-next sh high_pool_number (low_pool_number ∷ []) h v u w c.requires.seat.0.1 e.only f.only e.none.0 e.none.1 (takes-first low_pool_number [] false h u w unreserved g), low-some u.shape h.length g.range))
    f.some

pub returns-in-None-clause-none : goal.returns-in-None-clause-none
returns-in-None-clause-none c =
    let sh : Shape = c.args.heap.now.shape in
    let v : View = view_of c.args.seat.now in
    let u : View = view_of c.take_any.new.seat in
    let w : View = view_of c.take_any-in-None.new.seat in
    let e = c.in-None.ensures in
    let f = c.take_any-in-None.ensures in
    let got : (p : ℕ) → was_got p (events v u) ≡ false = λ p. none-got sh high_pool_number 0 (word_bits * pool_words sh) p (events v u) e.none.1 in
    if-none c.take_any-in-None.result ((w.state ≡ u.state) × MissesPackets sh low_pool_number false 0 (word_bits * pool_words sh) (events u w)) ((w.state ≡ v.state) × NoInput sh (events v w) × IsTrue (only_moves input_pools (events v w)))
    (λ n. (
      n.0 ∙ e.none.0,
      subst (NoInput sh) (sym (events-join v u w e.only.log f.only.log))
          (all-range (λ p. was_missed_in input_pools p (events v u ++ events u w)) 0 sh.packets
          (λ p l.
          let low : p < sh.packets = omega (arith, l) in
          and_from _ _ (was-missed-left high_pool_number p (events v u) (events u w) (pool-missed sh high_pool_number (events v u) e.none.1 p low))
          (and_from _ _ (was-missed-right low_pool_number p (events v u) (events u w) (got p) (pool-missed sh low_pool_number (events u w) n.1 p low)) refl))),
      ap (only_moves input_pools) (events-join v u w e.only.log f.only.log) ∙ moves-join input_pools (events v u) (events u w) (first-pool high_pool_number (low_pool_number ∷ []) (events v u) e.none.1.moves) (next-pools high_pool_number (low_pool_number ∷ []) (events u w) n.1.moves),
    ))
    f.none

high-some : (sh : Shape) (n : ℕ) → 2 ≤ sh.entries → is_in_range sh high_pool_number n ≡ true → 0 < n
high-some sh n two e = let l = leb-true sh.entries (2 * n) (and_parts (nat_le sh.entries (2 * n)) (nat_le n sh.entries) e).0 in omega (arith, two, l)

pub returns-in-Some-clause-some : goal.returns-in-Some-clause-some
returns-in-Some-clause-some c =
    let v : View = view_of c.args.seat.now in
    let w : View = view_of c.take_any.new.seat in
    let e = c.in-Some.ensures in
    let two : 2 ≤ v.shape.entries = subst (λ (s : Shape). 2 ≤ s.entries) (sym c.requires.seat.0.1) c.args.heap.now.shaped.entries.0 in
    (takes-first high_pool_number (low_pool_number ∷ []) false c.in-Some.held v w c.requires.seat.1.unreserved e.some, high-some v.shape c.in-Some.held.length two e.some.range)

pub returns-in-Some-clause-few : goal.returns-in-Some-clause-few
returns-in-Some-clause-few c = let few = c.in-Some.ensures.few in omega (arith, few)

pub returns-in-None-clause-few : goal.returns-in-None-clause-few
returns-in-None-clause-few c =
    let n : ℕ = pool_steps false c.args.heap.now.shape in
    let e = c.in-None.ensures in
    let f = c.take_any-in-None.ensures in
    let most = had-most c.take_any-in-None.result in
    let all = few-join n (n + had_steps c.take_any-in-None.result) (view_of c.args.seat.now) (view_of c.take_any.new.seat) (view_of c.take_any-in-None.new.seat) e.only.ran f.only.ran (let few = e.few in omega (arith, few)) f.few in
    omega (arith, all, most)

pub returns-in-None-clause-outside : goal.returns-in-None-clause-outside
returns-in-None-clause-outside c =
    let v : View = view_of c.args.seat.now in
    let u : View = view_of c.take_any.new.seat in
    let w : View = view_of c.take_any-in-None.new.seat in
    let e = c.in-None.ensures in
    let f = c.take_any-in-None.ensures in
    if-none c.take_any-in-None.result (KeepsOutside (low_pool_number ∷ []) u w) (KeepsOutside input_pools v w)
    (λ k. keeps-join input_pools v u w e.only.shape (ap (λ (s : SeatState). s.alone) e.only.rest)
    (keeps-more (high_pool_number ∷ []) input_pools v u (λ q n. head-only q high_pool_number (low_pool_number ∷ []) n) e.outside)
    (keeps-more (low_pool_number ∷ []) input_pools u w (λ q n. not-rest q high_pool_number (low_pool_number ∷ []) n) k))
    f.outside

pub returns-in-None-clause-noted : goal.returns-in-None-clause-noted
returns-in-None-clause-noted c =
    let v : View = view_of c.args.seat.now in
    let u : View = view_of c.take_any.new.seat in
    let w : View = view_of c.take_any-in-None.new.seat in
    let e = c.in-None.ensures in
    let f = c.take_any-in-None.ensures in
    if-both c.take_any-in-None.result (KeepsOutside (low_pool_number ∷ []) u w) (IsFalse false → IsTrue u.state.alone → AreNotedOutside low_pool_number w) (IsTrue v.state.alone → AreNotedOutside high_pool_number w × AreNotedOutside low_pool_number w)
    (λ k n alone.
    let here = ap (λ (s : SeatState). s.alone) e.only.rest ∙ alone in
    let high = e.noted refl alone in (
      λ p there. let low = subst (λ (s : Shape). p < s.packets) f.only.shape there in k here high_pool_number p refl low (high p low),
      n refl here,
    ))
    f.outside f.noted
