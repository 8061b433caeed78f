use Rattle.std.proofs.Common.{ℕ, ◌≡◌, ◌+◌, ◌*◌, arith, subst, sym, ap, ◌∙◌, refl, List, [], ◌∷◌, ◌<◌, true}
use Rattle.std.proofs.lemmas.Bool.{false≢true}
use Rattle.mark_core.specs.Layout.{pool_words}
use Rattle.mark_core.specs.Numbers.{word_bits}
use Rattle.mark_core.specs.declared.kinds.Shape.{Shape}
use Rattle.gc_table.specs.declared.view.Entry.{Entry}
use Rattle.gc_table.specs.declared.view.View.{View}
use Rattle.gc_table.specs.Seats.{view_of}
use Rattle.gc_table.specs.Log.{events}
use Rattle.packet_pools.specs.Seeking.{only_moves, was_got}
use Rattle.packet_pools.specs.Gains.{MissesPackets}
use Rattle.gc_table.proofs.History.Log.{events-join, events-none}
use Rattle.packet_pools.proofs.Few.{few-none, tries-all, tries-start, tries-word}
use Rattle.packet_pools.proofs.TracedSteps.{traced-join, traced-refl}
use Rattle.packet_pools.proofs.Searches.{misses-join}
use Rattle.packet_pools.proofs.WordSearch.{seeks-on, gains-from}
use Rattle.mark_core.specs.declared.seat.SeatState.{SeatState}
use Rattle.packet_pools.proofs.Searches.{below-words}
use Rattle.packet_pools.proofs.Outside.{keeps-join, keeps-refl, noted-next}
use Rattle.packet_pools.proofs.seeking.take_any.Goals as goal

pub take_in_word-requires-clause-seat : goal.take_in_word-requires-clause-seat
take_in_word-requires-clause-seat c = let i = c.loop-g.invariant in (i.sits, seeks-on c.args.q (view_of c.args.seat.now) (view_of c.loop-g.seat) i.only i.state c.requires.seat.1)

pub returns-in-Some-clause-only : goal.returns-in-Some-clause-only
returns-in-Some-clause-only c = traced-join (view_of c.args.seat.now) (view_of c.loop-g.seat) (view_of c.take_in_word.new.seat) c.loop-g.invariant.only c.in-Some.ensures.only

pub returns-in-Some-clause-some : goal.returns-in-Some-clause-some
returns-in-Some-clause-some c =
    let i = c.loop-g.invariant in
    gains-from c.args.q c.args.not_full c.in-Some.held (view_of c.args.seat.now) (view_of c.loop-g.seat) (view_of c.take_in_word.new.seat) i.only c.in-Some.ensures.only i.state i.misses.moves c.in-Some.ensures.some

pub loop-g-preserved : goal.loop-g-preserved
loop-g-preserved c =
    let sh : Shape = c.args.heap.now.shape in
    let i = c.loop-g.invariant in
    let e = c.in_default.ensures in
    let v : View = view_of c.args.seat.now in
    let w : View = view_of c.loop-g.seat in
    let u : View = view_of c.take_in_word.new.seat in
    let g : ℕ = c.loop-g.g in
    let next : word_bits * g + word_bits ≡ word_bits * (g + 1) = omega arith in
    record {
      sits = e.seat;
      only = traced-join v w u i.only e.only;
      state = e.none.0 ∙ i.state;
      misses =
          subst (λ (x : ℕ × List Entry). MissesPackets sh c.args.q c.args.not_full 0 x.0 x.1) (λ y. (next y, sym (events-join v w u i.only.log e.only.log) y))
          (misses-join sh c.args.q c.args.not_full 0 (word_bits * g) (word_bits * g + word_bits) (events v w) (events w u) (omega arith) i.misses e.none.1);
      outside = keeps-join (c.args.q ∷ []) v w u i.only.shape (ap (λ (s : SeatState). s.alone) i.state) i.outside e.outside;
      noted =
          λ room alone p low below.
          let here : w.state.alone ≡ true = ap (λ (s : SeatState). s.alone) i.state ∙ alone in
          noted-next sh c.args.q g w u here (e.vain room here) (i.noted room alone) p low below;
      few = tries-word sh c.args.not_full g 0 v w u i.only.ran e.only.ran i.few e.few;
    }

pub returns-clause-none : goal.returns-clause-none
returns-clause-none c =
    let sh : Shape = c.args.heap.now.shape in
    let i = c.loop-g.invariant in
    let g : ℕ = c.loop-g.g in
    let past = c.loop-g-test.false in
    let most = c.loop-g.auto.g-end in
    let end = c.div_ceil-g-end.ensures in
    let packets : c.shape.result.packets ≡ sh.packets = ap (λ (x : Shape). x.packets) c.shape.ensures in
    let last : g ≡ pool_words sh = omega (arith, past, most, end, packets) in
    (i.state, subst (λ x. MissesPackets sh c.args.q c.args.not_full 0 (word_bits * x) (events (view_of c.args.seat.now) (view_of c.loop-g.seat))) last i.misses)

pub loop-g-init : goal.loop-g-init
loop-g-init c =
    let v : View = view_of c.args.seat.now in
    let none = events-none v in
    record {
      sits = c.requires.seat.0;
      only = traced-refl v;
      state = refl;
      misses = record { all = λ p a b l. absurd (omega (arith, b)); got = λ p t. absurd (false≢true (ap (was_got p) (sym none) ∙ t)); moves = ap (only_moves (c.args.q ∷ [])) none };
      outside = keeps-refl (c.args.q ∷ []) v;
      noted = λ room alone p low below. absurd (omega (arith, below));
      few = tries-start c.args.heap.now.shape c.args.not_full 0 0 (events v v) (omega arith) (few-none v);
    }

pub returns-in-Some-clause-few : goal.returns-in-Some-clause-few
returns-in-Some-clause-few c =
    let sh : Shape = c.args.heap.now.shape in
    let i = c.loop-g.invariant in
    let e = c.in-Some.ensures in
    let g : ℕ = c.loop-g.g in
    let below = c.loop-g-test.true in
    let end = c.div_ceil-g-end.ensures in
    let packets : c.shape.result.packets ≡ sh.packets = ap (λ (x : Shape). x.packets) c.shape.ensures in
    tries-all sh c.args.not_full (g + 1) 1 (word_bits * (g + 1)) _ (omega (arith, below, end, packets))
    (tries-word sh c.args.not_full g 1 (view_of c.args.seat.now) (view_of c.loop-g.seat) (view_of c.take_in_word.new.seat) i.only.ran e.only.ran i.few e.few)

pub returns-clause-few : goal.returns-clause-few
returns-clause-few c =
    let sh : Shape = c.args.heap.now.shape in
    let g : ℕ = c.loop-g.g in
    let most = c.loop-g.auto.g-end in
    let end = c.div_ceil-g-end.ensures in
    let packets : c.shape.result.packets ≡ sh.packets = ap (λ (x : Shape). x.packets) c.shape.ensures in
    tries-all sh c.args.not_full g 0 (word_bits * g) _ (omega (arith, most, end, packets)) c.loop-g.invariant.few

pub returns-clause-noted : goal.returns-clause-noted
returns-clause-noted c = λ room alone p there.
    let sh : Shape = c.args.heap.now.shape in
    let i = c.loop-g.invariant in
    let g : ℕ = c.loop-g.g in
    let past = c.loop-g-test.false in
    let most = c.loop-g.auto.g-end in
    let end = c.div_ceil-g-end.ensures in
    let packets : c.shape.result.packets ≡ sh.packets = ap (λ (x : Shape). x.packets) c.shape.ensures in
    let last : g ≡ pool_words sh = omega (arith, past, most, end, packets) in
    let low : p < sh.packets = subst (λ (s : Shape). p < s.packets) i.sits.1 there in
    i.noted room alone p low (subst (λ x. p < word_bits * x) (sym last) (below-words sh p low))
