-- A refill in pieces: what a piece saw, and what the steps before its search leave of that.
use Rattle.std.proofs.Common.{ℕ, ◌≡◌, ◌<◌, ◌≤◌, ◌+◌, ◌-◌, List, [], ◌∷◌, ◌++◌, length, arith, refl, sym, ap, ◌∙◌, subst, Bool, true, false, not, Some, None, Option, suc}
use Rattle.std.specs.Prelude.{IfNone, IfSome, if◌then◌else◌}
use Rattle.std.proofs.lemmas.Bool.{and_parts, false≢true}
use Rattle.std.proofs.lemmas.List.{append-nil, length-append}
use Rattle.std.proofs.lemmas.List.FromFn.{length-range_with_len}
use Rattle.mark_core.specs.Layout.{block_count}
use Rattle.mark_core.specs.declared.kinds.Shape.{Shape}
use Rattle.mark_core.specs.declared.kinds.Step.{Step}
use Rattle.mark_core.specs.declared.kinds.Step.TheVariants.{AddStat, ClaimBlock, ReadPhase}
use Rattle.mark_core.specs.declared.seat.SeatState.{SeatState}
use Rattle.gc_table.specs.Log.{all_steps, events, Only}
use Rattle.gc_table.specs.Running.{Ran}
use Rattle.gc_table.specs.Seats.{Took}
use Rattle.gc_table.specs.declared.view.Entry.{Entry}
use Rattle.gc_table.specs.declared.view.View.{View}
use Rattle.gc_table.proofs.History.Log.{events-after, only-more}
use Rattle.gc_table.proofs.Running.{ran-events, ran-shape}
use Rattle.packet_pools.specs.Seeking.{some_event}
use Rattle.alloc_cache.specs.Claiming.{blocks_tried, ClaimsFirst, Misses, seeks_block, seen_taken, tried_by}
use Rattle.alloc_cache.specs.declared.cache.Cache.{Cache}
use Rattle.alloc_cache.proofs.Tried.{both-tried}
use Rattle.alloc_cache.proofs.Searches.{seen-front as taken-more, seen-back as taken-later}
use Rattle.gc_cycle.specs.declared.counts.Refill.{Refill}
use Rattle.gc_cycle.specs.Events.{never, before_last, Sort}
use Rattle.gc_cycle.specs.Mutating.{stays_calm}
use Rattle.gc_cycle.specs.Polling.{saw_full}
use Rattle.gc_cycle.specs.Sorts.{comes_in, claims}
use Rattle.gc_cycle.specs.Standing.{Mutates}
use Rattle.gc_cycle.specs.Statistics.{PaysNumbers}
use Rattle.gc_cycle.proofs.Refills.Answered.{mutates-same}
use Rattle.gc_cycle.proofs.Sequences.{none-of-steps}
use Rattle.cache_refills.specs.Pieces.{FindsBlock, LeavesBlocks, refill_of, SeesBlocks, SeesTo, takes_cells, IsShort}
use Rattle.cache_refills.specs.Pace.Pacing.{kicks}
use Rattle.cache_refills.specs.Refilling.{looks_for_end, prepares}
use Rattle.cache_refills.specs.Stops.{marking_done}
use Rattle.cache_refills.specs.Trying.{GoesWithout}
use Rattle.cache_refills.specs.declared.pieces.Piece.{Piece}
use Rattle.cache_refills.specs.declared.pieces.Piece.TheVariants as pieces
use Rattle.cache_refills.proofs.Causes.{done-later}
use Rattle.cache_refills.proofs.Refills.Paced.{seeks-prepare}
use Rattle.cache_refills.proofs.Refills.Passed.{unseen-full, unseen-join}
use Rattle.cache_refills.proofs.Refills.Payment.{never-run}
use Rattle.cache_refills.proofs.Refills.Rounds.{leads-prepared}
use Rattle.gc_cycle.specs.declared.counts.Refill.TheVariants as refills
use Rattle.cache_refills.proofs.Refills.Claimed.{claims-block}
use Rattle.cache_refills.proofs.Refills.Popping.{before-first, calm-claims}

-- steps that try no block

pub untried : (P : Step → Bool) → ((step : Step) → P step ≡ true → tried_by step ≡ []) → (es : List Entry) → all_steps P es ≡ true → blocks_tried es ≡ []
untried P f [] o = refl
untried P f (e ∷ es) o = let p = and_parts (P e.step) (all_steps P es) o in λ i. f e.step p.0 i ++ untried P f es p.1 i

pub calm-untried : (step : Step) → stays_calm step ≡ true → tried_by step ≡ []
calm-untried (ClaimBlock b) e = absurd (false≢true e)
calm-untried step e = refl

looks-untried : (step : Step) → looks_for_end step ≡ true → tried_by step ≡ []
looks-untried (ClaimBlock b) e = absurd (false≢true e)
looks-untried step e = refl

looks-untaken : (step : Step) (n : ℕ) → looks_for_end step ≡ true → takes_cells step n ≡ false
looks-untaken (AddStat which by down) n e = absurd (false≢true e)
looks-untaken step n e = refl

pub looks-leaves : (v w : View) → Only looks_for_end v w → LeavesBlocks v w
looks-leaves v w o = record { untried = untried looks_for_end looks-untried (events v w) o; without = ap not (none-of-steps looks_for_end takes_cells looks-untaken (events v w) o) }

kicks-untried : (step : Step) → kicks step ≡ true → tried_by step ≡ []
kicks-untried (ClaimBlock b) e = absurd (false≢true e)
kicks-untried step e = refl

kicks-untaken : (step : Step) (n : ℕ) → kicks step ≡ true → takes_cells step n ≡ false
kicks-untaken (AddStat which by down) n e = absurd (false≢true e)
kicks-untaken step n e = refl

pub kicks-leaves : (v w : View) → Only kicks v w → LeavesBlocks v w
kicks-leaves v w o = record { untried = untried kicks kicks-untried (events v w) o; without = ap not (none-of-steps kicks takes_cells kicks-untaken (events v w) o) }

-- steps of the search take no cell
seeks-untaken : (step : Step) (n : ℕ) → seeks_block step ≡ true → takes_cells step n ≡ false
seeks-untaken (AddStat which by down) n e = absurd (false≢true e)
seeks-untaken step n e = refl

pub calm-leaves : (v w : View) → Only stays_calm v w → blocks_tried (events v w) ≡ []
calm-leaves v w o = untried stays_calm calm-untried (events v w) o

-- a look at the phase
pub looked-leaves : (v w : View) → Took ReadPhase v w → LeavesBlocks v w
looked-leaves v w t = let one = events-after v w ReadPhase t.0 t.1.0 in record { untried = ap blocks_tried one; without = ap (never takes_cells) one }

-- blocks that were tried only in the second of two calls
later-tried : (u v w : View) (bs : List ℕ) → Ran u v → Ran v w → blocks_tried (events u v) ≡ [] → blocks_tried (events v w) ≡ bs → blocks_tried (events u w) ≡ bs
later-tried u v w bs r q a b = ap blocks_tried (ran-events u v w r q) ∙ (both-tried (events u v) (events v w) ∙ (λ i. a i ++ b i))

-- or only in the first
pub first-tried : (u v w : View) (bs : List ℕ) → Ran u v → Ran v w → blocks_tried (events u v) ≡ bs → blocks_tried (events v w) ≡ [] → blocks_tried (events u w) ≡ bs
first-tried u v w bs r q a b = ap blocks_tried (ran-events u v w r q) ∙ (both-tried (events u v) (events v w) ∙ ((λ i. a i ++ b i) ∙ append-nil bs))

pub seen-later : (u v w : View) (b : ℕ) → Ran u v → Ran v w → seen_taken b (events v w) ≡ true → seen_taken b (events u w) ≡ true
seen-later u v w b r q h = ap (seen_taken b) (ran-events u v w r q) ∙ taken-later b (events u v) (events v w) h

pub leaves-join : (u v w : View) → Ran u v → Ran v w → LeavesBlocks u v → LeavesBlocks v w → LeavesBlocks u w
leaves-join u v w r q a b = record { untried = later-tried u v w [] r q a.untried b.untried; without = never-run takes_cells u v w r q a.without b.without }

-- a search of blocks that were all missed
pub misses-blocks : (lo hi : ℕ) (v w : View) → Ran v w → Misses lo hi v w → SeesBlocks lo hi v w
misses-blocks lo hi v w r m =
    record {
      order = m.order;
      inside = ap not (leads-prepared v w r (only-more seeks_block prepares seeks-prepare v w m.seeks)).within;
      without = ap not (none-of-steps seeks_block takes_cells seeks-untaken (events v w) m.seeks);
      seen = m.all;
      tried = m.tried;
    }

-- the mutator goes on without a cache
pub misses-without : (lo hi : ℕ) (v w : View) → Mutates v → v.state.cache ≡ None → Ran v w → Misses lo hi v w → GoesWithout v w
misses-without lo hi v w m none r k =
    record {
      mutates = mutates-same v w k.state (ran-shape v w r) m;
      cache = ap (λ (x : SeatState). x.cache) k.state ∙ none;
      going = unseen-full v w (only-more seeks_block prepares seeks-prepare v w k.seeks);
    }

pub none-without : (o : Option Refill) (u v w : View) → Ran u v → Ran v w → saw_full (events u v) ≡ false → IfNone o (GoesWithout v w) → IfNone o (GoesWithout u w)
none-without None u v w r q a n = record { mutates = n.mutates; cache = n.cache; going = unseen-join u v w r q a n.going }
none-without (Some x) u v w r q a n = tt

-- a block was got, and then no other was tried
first-found : (lo hi : ℕ) (h : Cache) (v x w : View) → Ran v x → Ran x w → ClaimsFirst lo hi h v x → blocks_tried (events x w) ≡ [] → FindsBlock lo hi h.block v w
first-found lo hi h v x w r q k none =
    record {
      within = k.within;
      before = λ b l e. ap (seen_taken b) (ran-events v x w r q) ∙ taken-more b (events v x) (events x w) (k.before b l e);
      tried = first-tried v x w _ r q k.tried none;
    }

-- what holds of the answer holds of the piece that came to it
pub of-some : (P : Refill → Type 0) (o : Piece) (r : Refill) → refill_of o ≡ Some r → P r → IfSome (refill_of o) P
of-some P o r e p = subst (λ (z : Option Refill). IfSome z P) (sym e) p

pub of-none : (P : Type 0) (o : Piece) (r : Refill) → refill_of o ≡ Some r → IfNone (refill_of o) P
of-none P o r e = subst (λ (z : Option Refill). IfNone z P) (sym e) tt

pub some-same : {X : Type 0} {x y : X} → Some x ≡ Some y → x ≡ y
some-same e = cc

-- no answer isn't one
pub none-some : (r : Refill) → None ≡ Some r → ⊥
none-some r e = cc

pub paid-sees : (from most : ℕ) (h : Cache) (o : Piece) (r : Refill) (v x w : View) → refill_of o ≡ Some r → Ran v x → Ran x w → ClaimsFirst from (from + most) h v x → Only stays_calm x w → PaysNumbers h r x w → SeesTo from most o v w
paid-sees from most h (pieces.Cache k paid) r v x w e a b c o p =
    let same : k ≡ h = (subst (λ z. PaysNumbers h z x w) (sym (some-same e)) p).0 in
    subst (λ (z : Cache). FindsBlock from (from + most) z.block v w) (sym same) (first-found from (from + most) h v x w a b c (untried stays_calm calm-untried (events x w) o))
paid-sees from most h pieces.Full r v x w e a b c o p =
    let all = first-tried v x w _ a b c.tried (untried stays_calm calm-untried (events x w) o) in
    let long = ap length all ∙ length-range_with_len from (h.block + 1 - from) in
    let low = c.within.0 in
    let high = c.within.1 in
    omega (arith, long, low, high)
paid-sees from most h (pieces.Next n) r v x w e a b c o p = absurd (none-some r e)
paid-sees from most h pieces.Ended r v x w e a b c o p = absurd (none-some r e)
paid-sees from most h pieces.MarkingDone r v x w e a b c o p = absurd (none-some r e)

-- steps before a search

pub blocks-later : (lo hi : ℕ) (u v w : View) → Ran u v → Ran v w → some_event comes_in (events u v) ≡ false → LeavesBlocks u v → SeesBlocks lo hi v w → SeesBlocks lo hi u w
blocks-later lo hi u v w r q i l s =
    record {
      order = s.order;
      inside = never-run comes_in u v w r q (ap not i) s.inside;
      without = never-run takes_cells u v w r q l.without s.without;
      seen = λ b a e. seen-later u v w b r q (s.seen b a e);
      tried = later-tried u v w _ r q l.untried s.tried;
    }

pub sees-later : (from most : ℕ) (o : Piece) (u v w : View) → Ran u v → Ran v w → some_event comes_in (events u v) ≡ false → LeavesBlocks u v → SeesTo from most o v w → SeesTo from most o u w
sees-later from most (pieces.Cache h paid) u v w r q i l s = record { within = s.within; before = λ b a e. seen-later u v w b r q (s.before b a e); tried = later-tried u v w _ r q l.untried s.tried }
sees-later from most (pieces.Next n) u v w r q i l s = (s.0, subst (λ (sh : Shape). n < block_count sh) (ran-shape u v r) s.1, blocks-later from n u v w r q i l s.2)
sees-later from most pieces.Ended u v w r q i l s =
    let shape = ran-shape u v r in
    (subst (λ (sh : Shape). block_count sh ≤ from + most) shape s.0, blocks-later from (block_count u.shape) u v w r q i l (subst (λ (sh : Shape). SeesBlocks from (block_count sh) v w) shape s.1))
sees-later from most pieces.MarkingDone u v w r q i l s = (
  later-tried u v w [] r q l.untried s.0,
  ap (marking_done u.shape) (ran-events u v w r q) ∙ done-later u.shape (events u v) (events v w) (subst (λ (sh : Shape). marking_done sh (events v w) ≡ true) (ran-shape u v r) s.1),
)
sees-later from most pieces.Full u v w r q i l s =
    let same = ap length (later-tried u v w (blocks_tried (events v w)) r q l.untried refl) in omega (arith, same, s)

-- A refill in pieces: how many steps a piece takes.
-- how many events there are before the last one like f
before-short : (f : Sort) (es : List Entry) → length (before_last f es) ≤ length es
before-short f [] = omega arith
before-short f (e ∷ es) = either (some_event f es) (before-short f es)
  where
    either : (b : Bool) → length (before_last f es) ≤ length es → length (if b then e ∷ before_last f es else []) ≤ suc (length es)
    either true k = omega (arith, k)
    either false k = omega arith

before-long : (f : Sort) (xs ys : List Entry) → length (before_last f (xs ++ ys)) ≤ length xs + length (before_last f ys)
before-long f [] ys = omega arith
before-long f (x ∷ xs) ys = either (some_event f (xs ++ ys)) (before-long f xs ys)
  where
    either : (b : Bool) → length (before_last f (xs ++ ys)) ≤ length xs + length (before_last f ys) → length (if b then x ∷ before_last f (xs ++ ys) else []) ≤ suc (length xs) + length (before_last f ys)
    either true k = omega (arith, k)
    either false k = omega arith

pub paid-short : (from most : ℕ) (h : Cache) (o : Piece) (r : Refill) (v x w : View) → refill_of o ≡ Some r → Ran v x → Ran x w → ClaimsFirst from (from + most) h v x → Only stays_calm x w → (r ≡ refills.Full → length (events x w) ≤ 5) → IsShort 0 most o (events v w)
paid-short from most h (pieces.Cache k paid) r v x w e a b c o few =
    let same = ap (λ es. length (before_last claims es)) (ran-events v x w a b) ∙ ap length (before-first claims (events v x) (events x w) (claims-block h v x c.claims) (calm-claims x w o)) in
    let short = before-short claims (events v x) in
    let long = c.few in
    let low = c.within.0 in
    let high = c.within.1 in
    omega (arith, same, short, long, low, high)
paid-short from most h pieces.Full r v x w e a b c o few =
    let all = ap length (ran-events v x w a b) ∙ length-append (events v x) (events x w) in
    let end = few (sym (some-same e)) in
    let long = c.few in
    let low = c.within.0 in
    let high = c.within.1 in
    omega (arith, all, end, long, low, high)
paid-short from most h (pieces.Next n) r v x w e a b c o few = absurd (none-some r e)
paid-short from most h pieces.Ended r v x w e a b c o few = absurd (none-some r e)
paid-short from most h pieces.MarkingDone r v x w e a b c o few = absurd (none-some r e)

-- steps before a search
pub short-later : (before most : ℕ) (o : Piece) (u v w : View) → Ran u v → Ran v w → length (events u v) ≤ before → IsShort 0 most o (events v w) → IsShort before most o (events u w)
short-later before most (pieces.Cache h paid) u v w r q l s =
    let all = ap (λ es. length (before_last claims es)) (ran-events u v w r q) in let long = before-long claims (events u v) (events v w) in omega (arith, all, long, l, s)
short-later before most (pieces.Next n) u v w r q l s = let all = ap length (ran-events u v w r q) ∙ length-append (events u v) (events v w) in omega (arith, all, l, s)
short-later before most pieces.Ended u v w r q l s = let all = ap length (ran-events u v w r q) ∙ length-append (events u v) (events v w) in omega (arith, all, l, s)
short-later before most pieces.MarkingDone u v w r q l s = let all = ap length (ran-events u v w r q) ∙ length-append (events u v) (events v w) in omega (arith, all, l, s)
short-later before most pieces.Full u v w r q l s = let all = ap length (ran-events u v w r q) ∙ length-append (events u v) (events v w) in omega (arith, all, l, s)
