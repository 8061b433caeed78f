-- Block after block of a stretch, until it is done.
use Rattle.std.proofs.Common.{ℕ, ◌≡◌, ◌<◌, ◌≤◌, ◌+◌, List, [], ◌∷◌, ◌++◌, length, arith, refl, sym, ap, ◌∙◌, Some, None, Option, cond, ◌-◌, replicate, subst, true, false, ◌&&◌, ◌||◌, ⊎_elim}
use Rattle.std.proofs.lemmas.Bool.{lt-ltb, le-ltb, cases_Bool, false≢true}
use Rattle.std.proofs.lemmas.List.{length-append, replicate_more}
use Rattle.mark_core.specs.Cards.{block_cells}
use Rattle.mark_core.specs.Steps.ColourSteps.{cleaning_after}
use Rattle.mark_core.specs.Steps.SweepSteps.{untouched, next_in_stretch, stretch_end}
use Rattle.mark_core.specs.declared.kinds.Step.TheVariants.{ClearMarks, NextBlock, ReadAlloc, ReadBlockMarks, StoreAlloc, ReadStat}
use Rattle.mark_core.specs.declared.seat.SeatState.{SeatState}
use Rattle.mark_core.specs.declared.seat.Cleaning.{Cleaning}
use Rattle.gc_table.specs.declared.view.Entry.{Entry}
use Rattle.gc_table.specs.declared.view.View.{View}
use Rattle.gc_table.specs.Seats.{Stored}
use Rattle.gc_table.specs.Log.{event, events, Only}
use Rattle.gc_table.specs.Running.{Ran, AtLeast, IsSeen}
use Rattle.gc_table.proofs.History.Log.{events-after, events-none}
use Rattle.gc_table.proofs.Running.{ran-events, run-keeps}
use Rattle.sweeper.specs.Blocks.{ClearsOn, HasBlock, IsSweptBlock, SweepsOn, cleaning_after_all, freed_blocks, freed_of, rest_of, swept_blocks, swept_events, DrawsBlock, IsCleared, IsSweptNext}
use Rattle.sweeper.specs.Freeing.{freed_in}
use Rattle.sweeper.proofs.SweptBlocks.{freed-more, split-sum as freed-add}
use Rattle.mark_core.specs.Effects.{place, seat_after}
use Rattle.mark_core.specs.Notes.{same_place, keeps_bound, is_counter}
use Rattle.mark_core.specs.Places.{the_next_block}
use Rattle.mark_core.specs.Views.{Standing}
use Rattle.mark_core.specs.declared.kinds.Shape.{Shape}
use Rattle.mark_core.specs.declared.kinds.Step.{Step}
use Rattle.mark_core.proofs.Writing.Frames.{standing-kept}
use Rattle.gc_table.specs.Taking.{after}
use Rattle.gc_table.proofs.Noticing.{floor-here, floor-elsewhere, found-above}
use Rattle.sweeper.specs.Sweepers.{is_sweeping}
use Rattle.sweeper.proofs.Drawing.{bounded, next-word}
use Rattle.sweeper.proofs.Sweepers.{sweeping-stands}

-- one block more was swept
swept-more : (b : ℕ) (xs : List (ℕ × ℕ)) (x : ℕ × ℕ) → swept_blocks b (xs ++ x ∷ []) ≡ swept_blocks b xs ++ swept_events (b + length xs) x.0 x.1
swept-more b [] x = let same : b ≡ b + 0 = omega arith in ap (λ n. swept_events n x.0 x.1) same
swept-more b (y ∷ ys) x =
    let same : b + 1 + length ys ≡ b + length (y ∷ ys) = omega arith in
    ap (λ (es : List Entry). swept_events b y.0 y.1 ++ es) (swept-more (b + 1) ys x ∙ ap (λ n. swept_blocks (b + 1) ys ++ swept_events n x.0 x.1) same)

freed-all : (xs : List (ℕ × ℕ)) (x : ℕ × ℕ) → freed_blocks (xs ++ x ∷ []) ≡ freed_blocks xs + freed_of x.0 x.1
freed-all [] x = let same : (n : ℕ) → n + 0 ≡ 0 + n = λ n. omega arith in same (freed_of x.0 x.1)
freed-all (y ∷ ys) x = freed-add (freed_of y.0 y.1) (freed_blocks (ys ++ x ∷ [])) (freed_blocks ys) (freed_of x.0 x.1) (freed-all ys x)

cleaning-more : (o : Option Cleaning) (b : ℕ) (xs : List (ℕ × ℕ)) (x : ℕ × ℕ) → cleaning_after_all o b (xs ++ x ∷ []) ≡ cleaning_after (cleaning_after_all o b xs) (b + length xs) x.0
cleaning-more o b [] x = let same : b ≡ b + 0 = omega arith in ap (λ n. cleaning_after o n x.0) same
cleaning-more o b (y ∷ ys) x =
    let same : b + 1 + length ys ≡ b + length (y ∷ ys) = omega arith in
    cleaning-more (cleaning_after o b y.0) (b + 1) ys x ∙ ap (λ n. cleaning_after (cleaning_after_all (cleaning_after o b y.0) (b + 1) ys) n x.0) same

-- a block of the stretch is in hand
pub rest-some : (b until : ℕ) → b < until → rest_of b until ≡ Some (untouched b until)
rest-some b until h = ap (λ z. cond z (Some (untouched b until)) None) (lt-ltb b until h)

-- none is at its end
pub rest-none : (until : ℕ) → rest_of until until ≡ None
rest-none until = ap (λ z. cond z (Some (untouched until until)) None) (le-ltb until until (omega arith))

-- the next block of the rest is the rest from there on
rest-next : (b until : ℕ) → b < until → next_in_stretch (rest_of b until) ≡ rest_of (b + 1) until
rest-next b until h = ap next_in_stretch (rest-some b until h)

module _ (first until : ℕ) (v : View) (hand : v.state.block ≡ Some (untouched first until)) (h : first < until) where
  own-rest : v.state.block ≡ rest_of first until
  own-rest = hand ∙ sym (rest-some first until h)

  pub sweeps-begin : SweepsOn first first until 0 v v
  sweeps-begin = record {
    words = [];
    many = omega arith;
    few = omega arith;
    events = events-none v;
    freed = refl;
    counted = ap (freed_in v) (events-none v);
    state = λ z. record v.state { block = own-rest z };
  }

  pub clears-begin : ClearsOn first first until v v
  clears-begin = record { many = 0; reached = omega arith; events = events-none v; state = λ z. record v.state { block = own-rest z } }

module _ (first b until : ℕ) (v w u : View) (r : Ran v w) (t : Ran w u) (h : b < until) where
  pub sweeps-next : (freed more : ℕ) → SweepsOn first b until freed v w → IsSweptBlock b more w u → more ≤ block_cells → SweepsOn first (b + 1) until (freed + more) v u
  sweeps-next freed more a s m =
      let x : ℕ × ℕ = (s.alloc, s.mark) in
      let long = length-append a.words (x ∷ []) in
      let here = a.many in
      let few = a.few in
      let all = freed-all a.words x in
      let before = a.freed in
      let count = s.count in
      record {
        words = a.words ++ x ∷ [];
        many = omega (arith, long, here);
        few = omega (arith, long, few, m);
        events =
            ran-events v w u r t
            ∙ ((λ z. a.events z ++ s.events z)
            ∙ (ap (λ n. swept_blocks first a.words ++ swept_events n s.alloc s.mark) (sym a.many) ∙ sym (swept-more first a.words x)));
        freed = omega (arith, all, before, count);
        counted = freed-more v w u freed more r t a.counted s.counted;
        state =
            s.state
            ∙ (ap (λ (y : SeatState). record y { block = next_in_stretch y.block; cleaning = cleaning_after y.cleaning b s.alloc }) a.state
            ∙ (λ z. record v.state { block = rest-next b until h z; cleaning = (ap (λ n. cleaning_after (cleaning_after_all v.state.cleaning first a.words) n s.alloc) (sym a.many) ∙ sym (cleaning-more v.state.cleaning first a.words x)) z }));
      }

  pub clears-next : ClearsOn first b until v w → Stored ClearMarks w u → ClearsOn first (b + 1) until v u
  clears-next a s =
      let here = a.reached in
      record {
        many = a.many + 1;
        reached = omega (arith, here);
        events = ran-events v w u r t ∙ ((λ z. a.events z ++ events-after w u ClearMarks 0 s z) ∙ replicate_more a.many (event ClearMarks 0));
        state = ap (λ (y : View). y.state) s ∙ (ap (λ (y : SeatState). record y { block = next_in_stretch y.block }) a.state ∙ (λ z. record v.state { block = rest-next b until h z }));
      }

-- the block in hand of a seat that sweeps on
pub sweeps-hand : (first b until freed : ℕ) (v w : View) → b < until → SweepsOn first b until freed v w → HasBlock b w.state.block
sweeps-hand first b until freed v w h a = (until, ap (λ (s : SeatState). s.block) a.state ∙ rest-some b until h)

pub clears-hand : (first b until : ℕ) (v w : View) → b < until → ClearsOn first b until v w → HasBlock b w.state.block
clears-hand first b until v w h a = (until, ap (λ (s : SeatState). s.block) a.state ∙ rest-some b until h)

-- A stretch was drawn, and then swept or cleared of its marks.
bound-stays : (sh : Shape) (s : SeatState) (step : Step) (n : ℕ) (at : ℕ × ℕ) → is_sweeping step ≡ true → keeps_bound s at ≡ true → keeps_bound (seat_after sh s step n) at ≡ true
bound-stays sh s step n at k e = ap (λ (x : Standing). is_counter at && (x.admitted || x.knows)) (standing-kept sh s step n (sweeping-stands step k)) ∙ e

-- the counter of blocks doesn't fall in a sweep
above-step : (v : View) (step : Step) (n m : ℕ) → is_sweeping step ≡ true → IsSeen step n v → AtLeast v the_next_block m → AtLeast (after step n v) the_next_block m
above-step v NextBlock n m k s a =
    let low : m ≤ n = found-above v NextBlock n the_next_block m (s.found refl) refl a in
    let next = next-word v.shape n (bounded v n (s.found refl)) in
    floor-here v NextBlock n the_next_block m refl (bound-stays v.shape v.state NextBlock n the_next_block refl a.kept) (omega (arith, low, next))
above-step v (ReadStat which) n m k s a =
    let kept = bound-stays v.shape v.state (ReadStat which) n the_next_block refl a.kept in
    ⊎_elim
    (λ (here : same_place (place v.shape v.state (ReadStat which)) the_next_block ≡ true). floor-here v (ReadStat which) n the_next_block m here kept (found-above v (ReadStat which) n the_next_block m (s.found refl) here a))
    (λ (apart : same_place (place v.shape v.state (ReadStat which)) the_next_block ≡ false). floor-elsewhere v (ReadStat which) n the_next_block m apart kept a)
    (cases_Bool (same_place (place v.shape v.state (ReadStat which)) the_next_block))
above-step v (ReadAlloc b) n m k s a = floor-elsewhere v (ReadAlloc b) n the_next_block m refl (bound-stays v.shape v.state (ReadAlloc b) n the_next_block refl a.kept) a
above-step v ReadBlockMarks n m k s a = floor-elsewhere v ReadBlockMarks n the_next_block m refl (bound-stays v.shape v.state ReadBlockMarks n the_next_block refl a.kept) a
above-step v StoreAlloc n m k s a = floor-elsewhere v StoreAlloc n the_next_block m refl (bound-stays v.shape v.state StoreAlloc n the_next_block refl a.kept) a
above-step v ClearMarks n m k s a = floor-elsewhere v ClearMarks n the_next_block m refl (bound-stays v.shape v.state ClearMarks n the_next_block refl a.kept) a
above-step v step n m k s a = absurd (false≢true k)

pub above-kept : (v w : View) (m : ℕ) → Ran v w → Only is_sweeping v w → AtLeast v the_next_block m → AtLeast w the_next_block m
above-kept v w m r o a = run-keeps is_sweeping (λ (x : View). AtLeast x the_next_block m) (λ x step n k s q. above-step x step n m k s q) v w r o a

-- no cell was freed by drawing
drawn-none : (v w : View) (b : ℕ) → DrawsBlock b v w → freed_in v (events v w) ≡ 0
drawn-none v w b d = ap (freed_in v) d.events

-- the stretch that was drawn, up to block `until`, was swept
pub swept-next : (b until freed : ℕ) (v w u : View) → until ≡ stretch_end v.shape b → v.state.block ≡ None → DrawsBlock b v w → SweepsOn b until until freed w u → Ran v w → Ran w u → Only is_sweeping w u → IsSweptNext (record { block = b; blocks = until - b; freed = freed }) v u
swept-next b until freed v w u end free d s r t o =
    let low = d.some in
    let here = s.many in
    let few = s.few in
    let long : length s.words ≡ until - b = omega (arith, here) in
    let same : stretch_end v.shape b ≡ b + (until - b) = omega (arith, low, end) in
    let total = freed-more v w u 0 freed r t (drawn-none v w b d) s.counted in
    record {
      seen = d.seen;
      words = s.words;
      there = d.there;
      some = low;
      many = (long, sym same);
      events = ran-events v w u r t ∙ (λ z. d.events z ++ s.events z);
      freed = s.freed;
      few = omega (arith, few, long);
      counted = omega (arith, total);
      state =
          s.state
          ∙ (ap (λ (x : SeatState). record x { block = rest_of until until; cleaning = cleaning_after_all x.cleaning b s.words }) d.state
          ∙ (λ z. record v.state { below_block = false; block = (rest-none until ∙ sym free) z; cleaning = cleaning_after_all v.state.cleaning b s.words }));
      order = d.order;
      above = subst (AtLeast u the_next_block) same (above-kept w u (stretch_end v.shape b) t o d.above);
    }

-- the marks of the stretch that was drawn, up to block `until`, were cleared
pub cleared-next : (b until : ℕ) (v w u : View) → until ≡ stretch_end v.shape b → v.state.block ≡ None → DrawsBlock b v w → ClearsOn b until until w u → Ran v w → Ran w u → Only is_sweeping w u → IsCleared b v u
cleared-next b until v w u end free d s r t o =
    let here = s.reached in
    let many : s.many ≡ stretch_end v.shape b - b = omega (arith, here, end) in
    record {
      seen = d.seen;
      there = d.there;
      some = d.some;
      events = ran-events v w u r t ∙ (λ z. d.events z ++ (s.events ∙ ap (λ n. replicate n (event ClearMarks 0)) many) z);
      state = s.state ∙ (ap (λ (x : SeatState). record x { block = rest_of until until }) d.state ∙ (λ z. record v.state { below_block = false; block = (rest-none until ∙ sym free) z }));
      order = d.order;
      above = above-kept w u (stretch_end v.shape b) t o d.above;
    }
