use Rattle.std.proofs.Common.{ℕ, ◌≡◌, ◌+◌, ◌*◌, ◌/◌, ◌∙◌, ap, arith, refl, subst, [], ◌∷◌}
use Rattle.std.proofs.lemmas.Nat.{trailing_le}
use Rattle.mark_core.specs.Held.{holds}
use Rattle.mark_core.specs.Numbers.{word_bits}
use Rattle.mark_core.specs.declared.kinds.Shape.{Shape}
use Rattle.mark_core.specs.declared.seat.SeatState.{SeatState}
use Rattle.gc_table.specs.declared.view.View.{View}
use Rattle.gc_table.specs.Seats.{view_of}
use Rattle.gc_table.specs.Log.{events}
use Rattle.packet_pools.specs.Gains.{MissesPackets}
use Rattle.packet_pools.proofs.TracedSteps.{traced-join}
use Rattle.packet_pools.proofs.Few.{few-after, tries-later, tries-next, tries-start, word-there}
use Rattle.packet_pools.proofs.WordSearch.{seeks-on, gains-from, word-begins, word-starts, word-next, below-starts, below-next}
use Rattle.packet_pools.proofs.Outside.{keeps-look, keeps-join}
use Rattle.packet_pools.proofs.seeking.take_in_word.Goals as goal

pub loop-p-init : goal.loop-p-init
loop-p-init c =
    let v : View = view_of c.args.seat.now in
    let l = c.look-word.ensures in
    record {
      sits = l.seat;
      seeks =
          word-begins c.args.heap.now.shape c.args.q c.args.not_full c.args.g c.look-word.result _ v (view_of c.look-word.new.seat) c.look-word.type_inv refl
          (word-starts c.args.heap.now.shape c.args.q c.args.not_full c.args.g c.look-word.result v (view_of c.look-word.new.seat) c.requires.seat.0.1 c.requires.seat.1.pool l.view.0 l.view.1);
      outside = keeps-look v (view_of c.look-word.new.seat) _ (c.args.q ∷ []) c.args.q c.args.g l.view.1 l.view.0;
      vain = λ room alone. below-starts c.args.heap.now.shape c.args.q c.args.g c.look-word.result _ v (view_of c.look-word.new.seat) c.look-word.type_inv refl l.view;
      few =
          tries-later c.args.heap.now.shape c.args.not_full 1 (word_bits * c.args.g) (word_bits * c.args.g) _ 0 _ (omega arith)
          (tries-start c.args.heap.now.shape c.args.not_full 1 (word_bits * c.args.g) _ (word-there c.args.heap.now.shape c.args.g c.requires.word) (few-after v (view_of c.look-word.new.seat) _ _ l.view.0));
    }

pub take_shown-requires-clause-seat : goal.take_shown-requires-clause-seat
take_shown-requires-clause-seat c = let i = c.loop-p.invariant in (i.sits, seeks-on c.args.q (view_of c.args.seat.now) (view_of c.loop-p.seat) i.seeks.only i.seeks.state c.requires.seat.1)

pub take_shown-requires-clause-shown : goal.take_shown-requires-clause-shown
take_shown-requires-clause-shown c = λ there bit.
    let k = c.loop-p.invariant.seeks in
    let p : ℕ = c.loop-p.p in
    let here : p / word_bits ≡ c.args.g = omega (arith, c.loop-p.auto.p, c.loop-p-test.true) in
    ap (λ (s : SeatState). holds s.held p) k.state ∙ k.unheld p there here bit

pub returns-in-Some-clause-only : goal.returns-in-Some-clause-only
returns-in-Some-clause-only c = traced-join (view_of c.args.seat.now) (view_of c.loop-p.seat) (view_of c.take_shown.new.seat) c.loop-p.invariant.seeks.only c.in-Some.ensures.only

pub returns-in-Some-clause-some : goal.returns-in-Some-clause-some
returns-in-Some-clause-some c =
    let k = c.loop-p.invariant.seeks in
    gains-from c.args.q c.args.not_full c.in-Some.held (view_of c.args.seat.now) (view_of c.loop-p.seat) (view_of c.take_shown.new.seat) k.only c.in-Some.ensures.only k.state k.misses.moves c.in-Some.ensures.some

pub loop-p-preserved : goal.loop-p-preserved
loop-p-preserved c =
    let i = c.loop-p.invariant in
    let e = c.in_default.ensures in
    record {
      sits = e.seat;
      seeks = word-next c.args.heap.now.shape c.args.q c.args.not_full c.args.g c.look-word.result c.loop-p.p (view_of c.args.seat.now) (view_of c.loop-p.seat) (view_of c.take_shown.new.seat) (omega (arith, c.loop-p.auto.p)) c.loop-p-test.true i.seeks e.only e.none.0 e.none.1 e.none.2 e.none.3;
      outside = keeps-join (c.args.q ∷ []) (view_of c.args.seat.now) (view_of c.loop-p.seat) (view_of c.take_shown.new.seat) i.seeks.only.shape (ap (λ (s : SeatState). s.alone) i.seeks.state) i.outside e.outside;
      vain =
          λ room alone.
          let here : c.loop-p.p / word_bits ≡ c.args.g = omega (arith, c.loop-p.auto.p, c.loop-p-test.true) in
          below-next c.args.heap.now.shape c.args.q c.args.g c.look-word.result c.loop-p.p (view_of c.args.seat.now) (view_of c.loop-p.seat) (view_of c.take_shown.new.seat) (i.vain room alone) alone here (e.clear room) e.same;
      few = tries-next c.args.heap.now.shape c.args.not_full 1 (word_bits * c.args.g) c.loop-p.p 0 (view_of c.args.seat.now) (view_of c.loop-p.seat) (view_of c.take_shown.new.seat) i.seeks.only.ran e.only.ran i.few e.few.0 e.few.1;
    }

pub returns-clause-none : goal.returns-clause-none
returns-clause-none c =
    let k = c.loop-p.invariant.seeks in
    let p : ℕ = c.loop-p.p in
    let g : ℕ = c.args.g in
    let few = trailing_le 64 c.look-word.result in
    let most = c.loop-p.auto.p-end (omega (arith, few)) in
    let past = c.loop-p-test.false in
    let last : p ≡ word_bits * g + word_bits = omega (arith, most, past) in
    (k.state, subst (λ x. MissesPackets c.args.heap.now.shape c.args.q c.args.not_full (word_bits * g) x (events (view_of c.args.seat.now) (view_of c.loop-p.seat))) last k.misses)

pub returns-in-Some-clause-few : goal.returns-in-Some-clause-few
returns-in-Some-clause-few c =
    let sh : Shape = c.args.heap.now.shape in
    let i = c.loop-p.invariant in
    let e = c.in-Some.ensures in
    let lo : ℕ = word_bits * c.args.g in
    let p : ℕ = c.loop-p.p in
    tries-later sh c.args.not_full 1 lo (p + 1) (lo + word_bits) 1 _ (omega (arith, c.loop-p-test.true))
    (tries-next sh c.args.not_full 1 lo p 1 (view_of c.args.seat.now) (view_of c.loop-p.seat) (view_of c.take_shown.new.seat) i.seeks.only.ran e.only.ran i.few e.few.0 e.few.1)

pub returns-clause-few : goal.returns-clause-few
returns-clause-few c =
    let lo : ℕ = word_bits * c.args.g in
    let few = trailing_le 64 c.look-word.result in
    let most = c.loop-p.auto.p-end (omega (arith, few)) in
    tries-later c.args.heap.now.shape c.args.not_full 1 lo c.loop-p.p (lo + word_bits) 0 _ (omega (arith, most)) c.loop-p.invariant.few

pub returns-clause-vain : goal.returns-clause-vain
returns-clause-vain c = λ room alone.
    let k = c.loop-p.invariant.vain room alone in
    let past = c.loop-p-test.false in
    (c.look-word.result, k.found, λ x there here. k.clear x there (omega (arith, past, here)) here)
