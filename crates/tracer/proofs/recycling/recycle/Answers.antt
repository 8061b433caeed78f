use Rattle.std.proofs.Common.{ℕ, ◌≡◌, ◌<◌, ◌/◌, ◌+◌, ◌++◌, List, [], ◌∷◌, Bool, true, false, cond, sym, ap, ◌∙◌, subst, refl, arith}
use Rattle.std.specs.Prelude.{◌==◌}
use Rattle.std.proofs.lemmas.Bool.{or_left, or_right}
use Rattle.mark_core.specs.Held.{holds, drop_packet}
use Rattle.mark_core.specs.Numbers.{deferred_pool_number, word_bits}
use Rattle.mark_core.specs.declared.kinds.Shape.{Shape}
use Rattle.mark_core.specs.declared.kinds.Step.TheVariants.{Credit, Give, Look, ReadLength, StoreLength, Take}
use Rattle.mark_core.specs.declared.seat.SeatState.{SeatState}
use Rattle.gc_table.specs.declared.view.Entry.{Entry}
use Rattle.gc_table.specs.Taking.{after, Finds}
use Rattle.packet_pools.specs.Gains.{Gains}
use Rattle.gc_table.specs.Log.{steps_of, events}
use Rattle.packet_pools.specs.Seeking.{was_got_from}
use Rattle.packet_pools.proofs.Doing.{traces-same, traced-look}
use Rattle.packet_pools.proofs.Conditions.{may-look}
use Rattle.packet_pools.proofs.Exchanged.{drop-with}
use Rattle.packet_pools.proofs.TracedSteps.{traced-join}
use Rattle.gc_table.proofs.History.Log.{entry_of, events-after, events-join}
use Rattle.tracer.specs.Recycling.{is_settled, Recycles}
use Rattle.tracer.proofs.Carried.{carries-free, carries-none}
use Rattle.tracer.proofs.Recycled.{given-event, moved-both, recycles-lost, recycles-moved, recycles-outside, settled-right, steps-append}
use Rattle.gc_table.specs.declared.view.View.{View}
use Rattle.gc_table.specs.Seats.{view_of}
use Rattle.packet_pools.specs.declared.held.Held.{Held}
use Rattle.packet_pools.specs.OnlyTraced.{OnlyTraced}
use Rattle.packet_pools.specs.StepBounds.{give_steps}
use Rattle.packet_pools.proofs.Few.{few-after, few-join, few-steps, given-few}
use Rattle.tracer.proofs.recycling.recycle.Goals as goal

pub look-word-requires-clause-may : goal.look-word-requires-clause-may
look-word-requires-clause-may c =
    let v : View = view_of c.args.seat.now in
    let low : c.args.p < v.shape.packets = subst (λ (s : Shape). c.args.p < s.packets) (sym c.requires.seat.0.1) c.requires.packet in
    may-look v deferred_pool_number (c.args.p / word_bits) (omega arith) (omega (arith, low))

pub returns-then-not-has_bit-clause-seat : goal.returns-then-not-has_bit-clause-seat
returns-then-not-has_bit-clause-seat c =
    let v : View = view_of c.args.seat.now in
    let w : View = view_of c.look-word.new.seat in
    let e = c.look-word.ensures.view.0 in
    (c.look-word.ensures.seat, traces-same v w (traced-look v w _ deferred_pool_number (c.args.p / word_bits) c.look-word.ensures.view.1 e) (ap (λ (z : View). z.state) e) c.requires.seat.1)

pub returns-then-not-has_bit-clause-only : goal.returns-then-not-has_bit-clause-only
returns-then-not-has_bit-clause-only c = traced-look (view_of c.args.seat.now) (view_of c.look-word.new.seat) _ deferred_pool_number (c.args.p / word_bits) c.look-word.ensures.view.1 c.look-word.ensures.view.0

pub returns-then-not-has_bit-clause-recycles : goal.returns-then-not-has_bit-clause-recycles
returns-then-not-has_bit-clause-recycles c =
    let v : View = view_of c.args.seat.now in
    let w : View = view_of c.look-word.new.seat in
    recycles-outside c.args.p c.look-word.result (events v w) (events-after v w (Look deferred_pool_number (c.args.p / word_bits)) c.look-word.result c.look-word.ensures.view.0) (sym c.has_bit.ensures ∙ c.if-not-has_bit.true)

pub take_deferred_at-requires-clause-seat : goal.take_deferred_at-requires-clause-seat
take_deferred_at-requires-clause-seat c =
    let v : View = view_of c.args.seat.now in
    let w : View = view_of c.look-word.new.seat in
    let e = c.look-word.ensures.view.0 in
    (c.look-word.ensures.seat, traces-same v w (traced-look v w _ deferred_pool_number (c.args.p / word_bits) c.look-word.ensures.view.1 e) (ap (λ (z : View). z.state) e) c.requires.seat.1)

pub take_deferred_at-requires-clause-free : goal.take_deferred_at-requires-clause-free
take_deferred_at-requires-clause-free c =
    let w : View = view_of c.look-word.new.seat in
    carries-free [] w (omega arith) (carries-none w (ap (λ (z : View). z.state.held) c.look-word.ensures.view.0 ∙ c.requires.idle.held))

pub take_deferred_at-requires-clause-packet : goal.take_deferred_at-requires-clause-packet
take_deferred_at-requires-clause-packet c = (c.requires.packet, ap (λ (z : View). holds z.state.held c.args.p) c.look-word.ensures.view.0 ∙ ap (λ s. holds s c.args.p) c.requires.idle.held)

pub returns-in_default-clause-only : goal.returns-in_default-clause-only
returns-in_default-clause-only c =
    let v : View = view_of c.args.seat.now in
    let w : View = view_of c.look-word.new.seat in
    traced-join v w (view_of c.take_deferred_at.new.seat) (traced-look v w _ deferred_pool_number (c.args.p / word_bits) c.look-word.ensures.view.1 c.look-word.ensures.view.0) c.in_default.ensures.only

after-look : (v w x : View) (g n : ℕ) → Finds (Look deferred_pool_number g) n v → w ≡ after (Look deferred_pool_number g) n v → OnlyTraced w x → events v x ≡ entry_of (Look deferred_pool_number g) n ∷ events w x
after-look v w x g n f e b = events-join v w x (traced-look v w n deferred_pool_number g f e).log b.log ∙ ap (λ (l : List Entry). l ++ events w x) (events-after v w (Look deferred_pool_number g) n e)

pub returns-in_default-clause-recycles : goal.returns-in_default-clause-recycles
returns-in_default-clause-recycles c =
    let v : View = view_of c.args.seat.now in
    let w : View = view_of c.look-word.new.seat in
    let x : View = view_of c.take_deferred_at.new.seat in
    let p : ℕ = c.args.p in
    let n : ℕ = c.look-word.result in
    let f = c.in_default.ensures in
    let all = after-look v w x (p / word_bits) n c.look-word.ensures.view.1 c.look-word.ensures.view.0 f.only in
    recycles-lost p (p / word_bits) (events v x)
    (ap steps_of all ∙ ap (λ l. Look deferred_pool_number (p / word_bits) ∷ l) f.none.2)
    (ap (is_settled p) all ∙ settled-right p (entry_of (Look deferred_pool_number (p / word_bits)) n ∷ []) (events w x) refl (or_left _ _ (or_right _ _ f.none.1)))

pub returns-clause-only : goal.returns-clause-only
returns-clause-only c =
    let v : View = view_of c.args.seat.now in
    let w : View = view_of c.look-word.new.seat in
    let x : View = view_of c.take_deferred_at.new.seat in
    let y : View = view_of c.give.new.seat in
    traced-join v w y (traced-look v w _ deferred_pool_number (c.args.p / word_bits) c.look-word.ensures.view.1 c.look-word.ensures.view.0) (traced-join w x y c.in-Some.ensures.only c.give.ensures.only)

back : (v w x y : View) (h : Held) → w.state ≡ v.state → Gains deferred_pool_number false h w x → v.state.reserved ≡ false → y.state ≡ record x.state { held = drop_packet x.state.held h.packet } → y.state ≡ v.state
back v w x y h same g unreserved gave =
    gave
    ∙ (ap (λ (s : SeatState). record s { held = drop_packet s.held h.packet }) g.state
    ∙ ((λ i. record w.state { held = drop-with w.state.held h.packet h.length g.unheld i; reserved = (sym (ap (λ (s : SeatState). s.reserved) same ∙ unreserved)) i }) ∙ same))

pub returns-clause-state : goal.returns-clause-state
returns-clause-state c =
    back (view_of c.args.seat.now) (view_of c.look-word.new.seat) (view_of c.take_deferred_at.new.seat) (view_of c.give.new.seat) c.in-Some.held (ap (λ (z : View). z.state) c.look-word.ensures.view.0) c.in-Some.ensures.some.0 c.requires.seat.1.unreserved c.give.ensures.state

moved : (v w x y : View) (p n : ℕ) (b : Bool) → Finds (Look deferred_pool_number (p / word_bits)) n v → w ≡ after (Look deferred_pool_number (p / word_bits)) n v → OnlyTraced w x → OnlyTraced x y → steps_of (events w x) ≡ Take deferred_pool_number p ∷ ReadLength p ∷ [] → was_got_from deferred_pool_number p (events w x) ≡ true → steps_of (events x y) ≡ StoreLength p ∷ Give p false ∷ (cond b (Credit ∷ []) []) → Recycles p (p + 1) 1 (events v y)
moved v w x y p n b f e l m took got gave =
    let all : events v y ≡ entry_of (Look deferred_pool_number (p / word_bits)) n ∷ (events w x ++ events x y) =
    after-look v w y (p / word_bits) n f e (traced-join w x y l m) ∙ ap (λ (t : List Entry). entry_of (Look deferred_pool_number (p / word_bits)) n ∷ t) (events-join w x y l.log m.log) in
    recycles-moved p (p / word_bits) b (events v y)
    (ap steps_of all ∙ ap (λ t. Look deferred_pool_number (p / word_bits) ∷ t) (steps-append (events w x) (events x y) ∙ (λ i. took i ++ gave i)))
    (ap (is_settled p) all ∙ settled-right p (entry_of (Look deferred_pool_number (p / word_bits)) n ∷ []) (events w x ++ events x y) refl (or_right _ _ (moved-both p (events w x) (events x y) got (given-event p b (events x y) gave))))

pub returns-clause-recycles : goal.returns-clause-recycles
returns-clause-recycles c =
    let v : View = view_of c.args.seat.now in
    let w : View = view_of c.look-word.new.seat in
    let x : View = view_of c.take_deferred_at.new.seat in
    let y : View = view_of c.give.new.seat in
    let h : Held = c.in-Some.held in
    let s = c.in-Some.ensures.some in
    moved v w x y c.args.p c.look-word.result (h.length == 0) c.look-word.ensures.view.1 c.look-word.ensures.view.0 c.in-Some.ensures.only c.give.ensures.only s.2
    (subst (λ q. was_got_from deferred_pool_number q (events w x) ≡ true) s.1 s.0.got)
    (subst (λ q. steps_of (events x y) ≡ StoreLength q ∷ Give q false ∷ (cond (h.length == 0) (Credit ∷ []) [])) s.1 c.give.ensures.steps)

pub returns-then-not-has_bit-clause-few : goal.returns-then-not-has_bit-clause-few
returns-then-not-has_bit-clause-few c =
    let one = few-after (view_of c.args.seat.now) (view_of c.look-word.new.seat) (Look deferred_pool_number (c.args.p / word_bits)) _ c.look-word.ensures.view.0 in
    omega (arith, one)

pub returns-in_default-clause-few : goal.returns-in_default-clause-few
returns-in_default-clause-few c =
    let v : View = view_of c.args.seat.now in
    let w : View = view_of c.look-word.new.seat in
    let x : View = view_of c.take_deferred_at.new.seat in
    let e = c.look-word.ensures.view in
    let f = c.in_default.ensures in
    let all = few-join 1 1 v w x (traced-look v w _ deferred_pool_number (c.args.p / word_bits) e.1 e.0).ran f.only.ran (few-after v w _ _ e.0) (few-steps 1 w x _ f.none.2 (omega arith)) in
    omega (arith, all)

pub returns-clause-few : goal.returns-clause-few
returns-clause-few c =
    let v : View = view_of c.args.seat.now in
    let w : View = view_of c.look-word.new.seat in
    let x : View = view_of c.take_deferred_at.new.seat in
    let y : View = view_of c.give.new.seat in
    let h : Held = c.in-Some.held in
    let e = c.look-word.ensures.view in
    let f = c.in-Some.ensures in
    let g = c.give.ensures in
    let last = few-join 2 give_steps w x y f.only.ran g.only.ran (few-steps 2 w x _ f.some.2 (omega arith)) (few-steps give_steps x y _ g.steps (given-few h.packet false (h.length == 0))) in
    few-join 1 (2 + give_steps) v w y (traced-look v w _ deferred_pool_number (c.args.p / word_bits) e.1 e.0).ran (traced-join w x y f.only g.only).ran (few-after v w _ _ e.0) last
