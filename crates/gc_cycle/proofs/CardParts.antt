-- The steps of a pass over the next cards, part by part: what each does, and how often.
use Rattle.std.proofs.Common.{ℕ, ◌≡◌, ◌≤◌, ◌+◌, arith, refl, sym, ap, ◌∙◌, subst, cond, Bool, true, false, Some, Option, inl, inr}
use Rattle.std.specs.Prelude.{is_some, nat_lt}
use Rattle.std.proofs.lemmas.Bool.{false≢true, le-ltb, true≢false}
use Rattle.mark_core.specs.Layout.{card_count}
use Rattle.mark_core.specs.Numbers.{card_counter}
use Rattle.mark_core.specs.declared.kinds.Shape.{Shape}
use Rattle.mark_core.specs.declared.kinds.Step.TheVariants.{NextOfCards, ReadCard, ReadStat}
use Rattle.gc_table.specs.Log.{events}
use Rattle.gc_table.specs.Running.{Ran}
use Rattle.gc_table.specs.Seats.{Answered}
use Rattle.gc_table.specs.Taking.{after}
use Rattle.gc_table.specs.declared.view.View.{View}
use Rattle.gc_table.proofs.History.Log.{events-after, events-none}
use Rattle.gc_table.proofs.Running.{ran-answered, ran-events, ran-found, ran-join, ran-refl, ran-shape}
use Rattle.packet_pools.specs.Counts.{count_of, scans_object}
use Rattle.packet_pools.specs.Seeking.{moves_packet, only_moves, output_pools}
use Rattle.card_clean.specs.Cleaning.{Cleans, clears}
use Rattle.card_clean.specs.Passing.{Draws, DrawsCard}
use Rattle.card_clean.specs.declared.cleaned.Cleaned.{Cleaned}
use Rattle.card_clean.proofs.Cleared.{cleared-moves, cleared-one}
use Rattle.gc_cycle.specs.CardLooks.{looks_at_card}
use Rattle.gc_cycle.specs.Events.{never, Sort}
use Rattle.gc_cycle.specs.Sorts.{draws, pops, reads_card_left, reads_pace, reads_root, takes_deferred}
use Rattle.gc_cycle.proofs.CardLooks.{moves-unlooked, scan-unlooked}
use Rattle.gc_cycle.proofs.CleaningSpares.{moved-untaken, moves-undeferred, moves-unpopped, moves-unrooted, none-cleaning, scan-undeferred, scan-unpopped, scan-unrooted, Spares}
use Rattle.gc_cycle.proofs.Ends.Finishes.{never-both}
use Rattle.gc_cycle.proofs.Stops.Admitted.{count-none, count-run}

-- this many cards were drawn, looked at and cleared, and the counter of cards was read below its end so often at most; nothing was popped, no root and no number
-- that paces a cycle was read, and no packet was taken out of the deferred pool
pub record Piece (drawn looked left cleared : ℕ) (v w : View) : Type 0 where
  pub ran : Ran v w
  pub draws_are : count_of draws (events v w) ≡ drawn
  pub looks_are : count_of looks_at_card (events v w) ≡ looked
  pub left_most : count_of (reads_card_left (card_count v.shape)) (events v w) ≤ left
  pub clears_are : count_of clears (events v w) ≡ cleared
  pub unpopped : never pops (events v w) ≡ true
  pub unrooted : never reads_root (events v w) ≡ true
  pub undeferred : never takes_deferred (events v w) ≡ true
  pub unread : never reads_pace (events v w) ≡ true

never-run : (f : Sort) (u v w : View) → Ran u v → Ran v w → never f (events u v) ≡ true → never f (events v w) ≡ true → never f (events u w) ≡ true
never-run f u v w r q a b = ap (never f) (ran-events u v w r q) ∙ never-both f (events u v) (events v w) a b

pub piece-join : (a b c d e f g h : ℕ) (u v w : View) → Piece a b c d u v → Piece e f g h v w → Piece (a + e) (b + f) (c + g) (d + h) u w
piece-join a b c d e f g h u v w p q =
    let cards : ℕ = card_count u.shape in
    let drawn = count-run draws u v w p.ran q.ran in
    let looked = count-run looks_at_card u v w p.ran q.ran in
    let left = count-run (reads_card_left cards) u v w p.ran q.ran in
    let cleared = count-run clears u v w p.ran q.ran in
    let one = p.left_most in
    let two = subst (λ (sh : Shape). count_of (reads_card_left (card_count sh)) (events v w) ≤ g) (ran-shape u v p.ran) q.left_most in
    record {
      ran = ran-join u v w p.ran q.ran;
      draws_are = omega (arith, drawn, p.draws_are, q.draws_are);
      looks_are = omega (arith, looked, p.looks_are, q.looks_are);
      left_most = omega (arith, left, one, two);
      clears_are = omega (arith, cleared, p.clears_are, q.clears_are);
      unpopped = never-run pops u v w p.ran q.ran p.unpopped q.unpopped;
      unrooted = never-run reads_root u v w p.ran q.ran p.unrooted q.unrooted;
      undeferred = never-run takes_deferred u v w p.ran q.ran p.undeferred q.undeferred;
      unread = never-run reads_pace u v w p.ran q.ran p.unread q.unread;
    }

pub piece-none : (v : View) → Piece 0 0 0 0 v v
piece-none v =
    let none = ap {B = ℕ} (count_of (reads_card_left (card_count v.shape))) (events-none v) in
    record {
      ran = ran-refl v;
      draws_are = ap (count_of draws) (events-none v);
      looks_are = ap (count_of looks_at_card) (events-none v);
      left_most = omega (arith, none);
      clears_are = ap (count_of clears) (events-none v);
      unpopped = ap (never pops) (events-none v);
      unrooted = ap (never reads_root) (events-none v);
      undeferred = ap (never takes_deferred) (events-none v);
      unread = ap (never reads_pace) (events-none v);
    }

pub piece-still : (v w : View) → w ≡ v → Piece 0 0 0 0 v w
piece-still v w e = subst (λ (x : View). Piece 0 0 0 0 v x) (sym e) (piece-none v)

-- packets move
moves-undrawn : Spares (moves_packet output_pools) draws
moves-undrawn NextOfCards n e = absurd (false≢true e)
moves-undrawn step n e = refl

moves-unread : Spares (moves_packet output_pools) reads_pace
moves-unread (ReadStat which) n e = absurd (false≢true e)
moves-unread step n e = refl

moves-unleft : (cards : ℕ) → Spares (moves_packet output_pools) (reads_card_left cards)
moves-unleft cards (ReadStat which) n e = absurd (false≢true e)
moves-unleft cards step n e = refl

pub piece-moved : (v w : View) → Ran v w → only_moves output_pools (events v w) ≡ true → Piece 0 0 0 0 v w
piece-moved v w r m =
    let es = events v w in
    let cards : ℕ = card_count v.shape in
    let left = count-none (reads_card_left cards) es (moved-untaken output_pools (reads_card_left cards) (moves-unleft cards) es m) in
    record {
      ran = r;
      draws_are = count-none draws es (moved-untaken output_pools draws moves-undrawn es m);
      looks_are = count-none looks_at_card es (moved-untaken output_pools looks_at_card (moves-unlooked output_pools) es m);
      left_most = omega (arith, left);
      clears_are = cleared-moves output_pools es m;
      unpopped = moved-untaken output_pools pops (moves-unpopped output_pools) es m;
      unrooted = moved-untaken output_pools reads_root (moves-unrooted output_pools) es m;
      undeferred = moved-untaken output_pools takes_deferred moves-undeferred es m;
      unread = moved-untaken output_pools reads_pace moves-unread es m;
    }

-- a card is cleaned
scan-undrawn : Spares scans_object draws
scan-undrawn NextOfCards n e = absurd (false≢true e)
scan-undrawn step n e = refl

scan-unread : Spares scans_object reads_pace
scan-unread (ReadStat which) n e = absurd (false≢true e)
scan-unread step n e = refl

scan-unleft : (cards : ℕ) → Spares scans_object (reads_card_left cards)
scan-unleft cards (ReadStat which) n e = absurd (false≢true e)
scan-unleft cards step n e = refl

pub piece-cleaned : (sh : Shape) (card : ℕ) (r : Cleaned) (v w : View) → Ran v w → Cleans sh card r (events v w) → Piece 0 0 0 1 v w
piece-cleaned sh card r v w ran c =
    let es = events v w in
    let cards : ℕ = card_count v.shape in
    let left = count-none (reads_card_left cards) es (none-cleaning (reads_card_left cards) (moves-unleft cards) (scan-unleft cards) (λ k n. refl) (λ k n. refl) (λ k n. refl) (λ k n. refl) sh card r es c) in
    record {
      ran = ran;
      draws_are = count-none draws es (none-cleaning draws moves-undrawn scan-undrawn (λ k n. refl) (λ k n. refl) (λ k n. refl) (λ k n. refl) sh card r es c);
      looks_are = count-none looks_at_card es (none-cleaning looks_at_card (moves-unlooked output_pools) scan-unlooked (λ k n. refl) (λ k n. refl) (λ k n. refl) (λ k n. refl) sh card r es c);
      left_most = omega (arith, left);
      clears_are = cleared-one sh card r es c;
      unpopped = none-cleaning pops (moves-unpopped output_pools) scan-unpopped (λ k n. refl) (λ k n. refl) (λ k n. refl) (λ k n. refl) sh card r es c;
      unrooted = none-cleaning reads_root (moves-unrooted output_pools) scan-unrooted (λ k n. refl) (λ k n. refl) (λ k n. refl) (λ k n. refl) sh card r es c;
      undeferred = none-cleaning takes_deferred moves-undeferred scan-undeferred (λ k n. refl) (λ k n. refl) (λ k n. refl) (λ k n. refl) sh card r es c;
      unread = none-cleaning reads_pace moves-unread scan-unread (λ k n. refl) (λ k n. refl) (λ k n. refl) (λ k n. refl) sh card r es c;
    }

-- a card is looked at
pub piece-read : (card : ℕ) (P : ℕ → Type 0) (v w : View) → Answered (ReadCard card) P v w → Piece 0 1 0 0 v w
piece-read card P v w a =
    let one = events-after v w (ReadCard card) a.0 a.1 in
    let none = ap {B = ℕ} (count_of (reads_card_left (card_count v.shape))) one in
    record {
      ran = ran-answered v w (ReadCard card) P refl a;
      draws_are = ap (count_of draws) one;
      looks_are = ap (count_of looks_at_card) one;
      left_most = omega (arith, none);
      clears_are = ap (count_of clears) one;
      unpopped = ap (never pops) one;
      unrooted = ap (never reads_root) one;
      undeferred = ap (never takes_deferred) one;
      unread = ap (never reads_pace) one;
    }

one_at_most : (b : Bool) → cond {A = ℕ} b 1 0 ≤ 1
one_at_most true = omega arith
one_at_most false = omega arith

-- the counter is seen at its end
pub piece-over : (v w : View) (seen : ℕ) → w ≡ after (ReadStat card_counter) seen v → Ran v w → card_count v.shape ≤ seen → Piece 0 0 0 0 v w
piece-over v w seen e r over =
    let one = events-after v w (ReadStat card_counter) seen e in
    let cards : ℕ = card_count v.shape in
    let read = ap {B = ℕ} (count_of (reads_card_left cards)) one in
    let none : cond {A = ℕ} (nat_lt seen cards) 1 0 ≡ 0 = ap (λ (b : Bool). cond {A = ℕ} b 1 0) (le-ltb seen cards over) in
    record {
      ran = r;
      draws_are = ap (count_of draws) one;
      looks_are = ap (count_of looks_at_card) one;
      left_most = omega (arith, read, none);
      clears_are = ap (count_of clears) one;
      unpopped = ap (never pops) one;
      unrooted = ap (never reads_root) one;
      undeferred = ap (never takes_deferred) one;
      unread = ap (never reads_pace) one;
    }

-- a card is drawn, or the end is found by a draw
draw-ran : (n : ℕ) (v w : View) → Draws n v w → Ran v w
draw-ran n v w d =
    let u : View = after (ReadStat card_counter) d.seen v in
    ran-join v u w (ran-found v u (ReadStat card_counter) d.seen refl (refl, d.finds)) (ran-found u w NextOfCards n refl (d.view, d.draws))

pub piece-drawn : (n : ℕ) (v w : View) → Draws n v w → Piece 1 0 1 0 v w
piece-drawn n v w d =
    let cards : ℕ = card_count v.shape in
    let read = ap {B = ℕ} (count_of (reads_card_left cards)) d.events_are in
    record {
      ran = draw-ran n v w d;
      draws_are = ap (count_of draws) d.events_are;
      looks_are = ap (count_of looks_at_card) d.events_are;
      left_most = omega (arith, read, one_at_most (nat_lt d.seen cards));
      clears_are = ap (count_of clears) d.events_are;
      unpopped = ap (never pops) d.events_are;
      unrooted = ap (never reads_root) d.events_are;
      undeferred = ap (never takes_deferred) d.events_are;
      unread = ap (never reads_pace) d.events_are;
    }

pub piece-some : (card : ℕ) (v w : View) → DrawsCard (Some card) v w → Piece 1 0 1 0 v w
piece-some card v w (inl over) = absurd (true≢false (ap (λ (o : Option ℕ). is_some o) over.1))
piece-some card v w (inr gives) = piece-drawn gives.0 v w gives.1
