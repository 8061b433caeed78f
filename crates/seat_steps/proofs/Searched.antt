-- What a piece of a mutator's search for a cell did, and where it left the seat.
use Rattle.std.proofs.Common.{ℕ, ◌≡◌, ◌<◌, ◌≤◌, ◌+◌, ◌*◌, length, ap, arith, inr, refl, sym, subst, true, Option, Some, None}
use Rattle.std.specs.Prelude.{IfNone, IfOk, IfSome, Result, Ok, Err, is_some, not, IsFalse, IsTrue}
use Rattle.std.specs.Int.Count.{ones}
use Rattle.gc_table.specs.Log.{events}
use Rattle.gc_table.specs.Rule.{KnowsFull}
use Rattle.gc_table.specs.Running.{Ran}
use Rattle.gc_table.specs.Seats.{Sits, view_of}
use Rattle.gc_table.specs.declared.seat.Heap.{Heap}
use Rattle.gc_table.specs.declared.seat.HeapSeat.{HeapSeat}
use Rattle.gc_table.specs.declared.view.View.{View}
use Rattle.gc_table.proofs.Running.{ran-join, ran-refl}
use Rattle.mark_core.specs.declared.kinds.Shape.{Shape}
use Rattle.packet_pools.specs.Seeking.{some_event}
use Rattle.plain_heap.specs.declared.operation.Op.{Op}
use Rattle.gc_cycle.specs.Sorts.{pops}
use Rattle.alloc_cache.specs.Caching.{IsCached}
use Rattle.alloc_cache.specs.declared.cache.Cache.{Cache}
use Rattle.gc_cycle.specs.Sparing.{SparesRefill}
use Rattle.gc_cycle.specs.Standing.{KeepsSeat, KeepsSection}
use Rattle.gc_cycle.specs.declared.counts.Refill.{Refill}
use Rattle.cache_refills.specs.Getting.{RefillsTo}
use Rattle.cache_refills.specs.Pace.Pacing.{card_looks}
use Rattle.cache_refills.specs.Pace.StepBounds.{payment_steps}
use Rattle.cache_refills.specs.Pieces.{IsShort, SeesTo, refill_of}
use Rattle.cache_refills.specs.Trying.{GoesWithout, CallsForCollection, EntersTo, PassesTo}
use Rattle.cache_refills.specs.declared.pieces.Piece.{Piece}
use Rattle.cache_refills.specs.declared.pieces.Piece.TheVariants as pieces
use Rattle.gc_cycle.specs.declared.counts.Refill.TheVariants as refills
use Rattle.mutator_ops.specs.Few.{AtMost}
use Rattle.mutator_ops.proofs.Few.{at-most-join, at-most-more, at-most-none}
use Rattle.seat_turns.specs.Standing.{Works, plain_of, Halts, IsMutatorOutside, flush_steps}
use Rattle.seat_turns.proofs.Seats.{kept-works, going-seen, mutator-kept}
use Rattle.gc_cycle.specs.Statistics.{RoundNumbers}
use Rattle.cache_refills.specs.Pace.Pacing.{begins_where_due}
use Rattle.seat_steps.specs.Pacing.{CarriesPace, KeepsPace}
use Rattle.seat_steps.proofs.Paced.{carries-none, paces-first, paces-try}
use Rattle.seat_steps.specs.Causes.{ArrivesBy, GoesFreely, HasFree, PassesBy, PassesFreely}
use Rattle.seat_steps.specs.Seeking.{CachedBy, FailsBy, RefillFailsBy, MakesHere, MakesOwn, RefillsBy, SeeksOnce, SoughtBy, StandsAfter, TriesPiece}
use Rattle.seat_steps.specs.Arriving.{Arrives, LeavesWorld, Passes, Refills, Tries}
use Rattle.seat_steps.specs.declared.seeking.Sought.{Sought}
use Rattle.seat_steps.specs.declared.seeking.Sought.TheVariants as soughts
use Rattle.seat_steps.specs.declared.came.Came.{Came}
use Rattle.seat_steps.specs.declared.came.Came.TheVariants as cames
use Rattle.seat_steps.proofs.Found.{cache-kept, found-right, full-left, full-right}
use Rattle.std.proofs.lemmas.Bool.{false≢true}
use Rattle.mark_core.specs.Seats.{has_turn}
use Rattle.cache_refills.specs.Pace.Paying.{pops_where_paid}
use Rattle.gc_cycle.specs.Mutating.{GoesOut}
use Rattle.gc_cycle.proofs.Stops.Admitted.{count-none}
use Rattle.cache_refills.specs.declared.trying.Pass.{Pass}
use Rattle.cache_refills.specs.declared.trying.Pass.TheVariants as passes
use Rattle.seat_steps.specs.Filling.{TriesToFill, filling_steps, search_steps}

-- What a mutator is after a call that doesn't wait.
pub has-section : (o season : Option ℕ) → has_turn o season ≡ true → is_some o ≡ true
has-section None season e = absurd (false≢true e)
has-section (Some w) season e = refl

-- a safe point
pub tries-pass : (p : Pass) (handed kept : Option Cache) (done : ℕ) (h : Heap) (x y : HeapSeat) → Works h x → Sits h y → GoesOut (view_of x) (view_of y) → PassesTo p handed kept done (view_of x) (view_of y) → Passes p h y kept
tries-pass passes.Going handed kept done h x y k sits out p =
    (kept-works h x y k sits p.goes_on.mutates out.ran out.seat out.section, p.cached, going-seen (view_of x) (view_of y) p.goes_on)
tries-pass passes.Full handed kept done h x y k sits out p =
    (record { works = kept-works h x y k sits p.ends.mutates out.ran out.seat out.section; cache = p.ends.cache }, p.known, p.none)
tries-pass passes.Out handed kept done h x y k sits out p =
    (record { sits = sits; out = p.out; mutator = mutator-kept (view_of x) (view_of y) k.mutator out.ran out.seat out.section }, p.none)

-- an entry
pub tries-enter : (p : Pass) (h : Heap) (x y : HeapSeat) → IsMutatorOutside h x → Sits h y → GoesOut (view_of x) (view_of y) → EntersTo p (view_of x) (view_of y) → Tries p h y
tries-enter passes.Going h x y k sits out p =
    record { works = record { sits = sits; mutates = p.1.mutates; mutator = mutator-kept (view_of x) (view_of y) k.mutator out.ran out.seat out.section }; cache = p.2 }
tries-enter passes.Full h x y k sits out p =
    (record { works = record { sits = sits; mutates = p.1.mutates; mutator = mutator-kept (view_of x) (view_of y) k.mutator out.ran out.seat out.section }; cache = p.1.cache }, p.2)
tries-enter passes.Out h x y k sits out p = record { sits = sits; out = p.1; mutator = mutator-kept (view_of x) (view_of y) k.mutator out.ran out.seat out.section }

-- a cache that was asked for
pub fills : (r : Refill) (done : ℕ) (h : Heap) (x y : HeapSeat) → Works h x → Sits h y → Ran (view_of x) (view_of y) → KeepsSeat (view_of x) (view_of y) → KeepsSection (view_of x) (view_of y) → RefillsTo r done (view_of x) (view_of y) → SparesRefill r (view_of x) (view_of y) → Refills r h y
fills (refills.Cache free paid) done h x y k sits ran seat section p q = (kept-works h x y k sits p.goes_on.mutates ran seat section, p.cached, p.free)
fills refills.Full done h x y k sits ran seat section p q = (record { works = kept-works h x y k sits p.mutates ran seat section; cache = p.cache }, q)

pub fills-some : (o : Option Refill) (done : ℕ) (h : Heap) (x y : HeapSeat) → Works h x → Sits h y → Ran (view_of x) (view_of y) → KeepsSeat (view_of x) (view_of y) → KeepsSection (view_of x) (view_of y) → IfSome o (λ r. RefillsTo r done (view_of x) (view_of y) × SparesRefill r (view_of x) (view_of y)) → IfSome o (λ r. Refills r h y)
fills-some None done h x y k sits ran seat section p = tt
fills-some (Some r) done h x y k sits ran seat section p = fills r done h x y k sits ran seat section p.0 p.1

pub fills-none : (o : Option Refill) (h : Heap) (x y : HeapSeat) → Works h x → Sits h y → Ran (view_of x) (view_of y) → KeepsSeat (view_of x) (view_of y) → KeepsSection (view_of x) (view_of y) → IfNone o (CallsForCollection (view_of x) (view_of y)) → IfNone o (Halts h y)
fills-none None h x y k sits ran seat section p = record { works = kept-works h x y k sits p.mutates ran seat section; cache = p.cache }
fills-none (Some r) h x y k sits ran seat section p = tt

-- what the try came to
pub fills-tries :
    (o : Option Refill) (done : ℕ) (sh : Shape) (v w : View) → v.shape ≡ sh → done ≡ v.state.made → IfSome o (λ r. RefillsTo r done v w × SparesRefill r v w) → IfNone o (CallsForCollection v w)
    → IsTrue (pops_where_paid (events v w)) → IfNone o (IsFalse (some_event pops (events v w))) → IfNone o (AtMost (search_steps sh) v w) → AtMost (filling_steps sh) v w → TriesToFill o v w
fills-tries None done sh v w shape e some none paid calm few longest = (none.cause, count-none pops (events v w) (ap not calm), subst (λ (s : Shape). AtMost (search_steps s) v w) (sym shape) few)
fills-tries (Some r) done sh v w shape e some none paid calm few longest =
    (subst (λ n. RefillsTo r n v w) e some.0, paid, subst (λ (s : Shape). AtMost (filling_steps s) v w) (sym shape) longest)

-- where a piece leaves the seat
pub stands-after :
    (p : Piece) (done : ℕ) (h : Heap) (x y : HeapSeat) → Works h x → Sits h y → Ran (view_of x) (view_of y) → KeepsSeat (view_of x) (view_of y) → KeepsSection (view_of x) (view_of y)
    → IfSome (refill_of p) (λ r. RefillsTo r done (view_of x) (view_of y) × SparesRefill r (view_of x) (view_of y)) → IfNone (refill_of p) (GoesWithout (view_of x) (view_of y)) → StandsAfter p h y
stands-after (pieces.Cache free paid) done h x y k sits ran seat section p q = fills (refills.Cache free paid) done h x y k sits ran seat section p.0 p.1
stands-after pieces.Full done h x y k sits ran seat section p q = fills refills.Full done h x y k sits ran seat section p.0 p.1
stands-after (pieces.Next n) done h x y k sits ran seat section p q = record { works = kept-works h x y k sits q.mutates ran seat section; cache = q.cache }
stands-after pieces.Ended done h x y k sits ran seat section p q = record { works = kept-works h x y k sits q.mutates ran seat section; cache = q.cache }
stands-after pieces.MarkingDone done h x y k sits ran seat section p q = record { works = kept-works h x y k sits q.mutates ran seat section; cache = q.cache }

gets : (o : Option Refill) (done : ℕ) (v w : View) → done ≡ v.state.made → IfSome o (λ r. RefillsTo r done v w × SparesRefill r v w) → IfSome o (λ r. RefillsTo r v.state.made v w)
gets None done v w e p = tt
gets (Some r) done v w e p = subst (λ (n : ℕ). RefillsTo r n v w) e p.0

pub tries-piece :
    (p : Piece) (from most done : ℕ) (v w : View) → done ≡ v.state.made → SeesTo from most p v w → IsShort 5 most p (events v w) → length (events v w) ≤ 3 * most + 6 + payment_steps 1024 card_looks v.shape → IfSome (refill_of p) (λ r. RefillsTo r done v w × SparesRefill r v w)
    → begins_where_due (events v w) ≡ true → RoundNumbers (refill_of p) v w → TriesPiece from most p v w
tries-piece p from most done v w e sees short longest some due numbers = record { sees = sees; short = short; longest = longest; gets = gets (refill_of p) done v w e some; due = due; numbers = numbers }

-- a piece, and then the way to its turn, or out
module _ (from most : ℕ) (p : Piece) (v w x : View) (a : Ran v w) (t : TriesPiece from most p v w) (b : Ran w x) (e : CarriesPace w x) where
  pub seeks : (Later : View → View → Type 0) → Later w x → SeeksOnce 0 Later from most p v x
  seeks Later k = record { asked = v; first = ran-refl v; first_few = at-most-none 0 v; got = w; ran = a; tries = t; last = b; later = k; paces = paces-try (refill_of p) v v w x (carries-none v) a t.gets t.due t.numbers e }

  pub fails : (c : Came) (h : Heap) (s : HeapSeat) → LeavesWorld c h s → ArrivesBy c w x → FailsBy 0 from most c v x
  fails cames.Stopped h s l g = (found-right v w x a b g.0, (p, seeks (AtMost 8) g.1))
  fails cames.Full h s l g = ((full-right v w x a b g.0.0, g.0.1), (p, seeks (AtMost 8) g.1))
  fails c h s l g = absurd l

-- more steps before it
pub seeks-first : (more before from most : ℕ) (Later : View → View → Type 0) (p : Piece) (u v w : View) → Ran u v → AtMost more u v → CarriesPace u v → SeeksOnce before Later from most p v w → SeeksOnce (more + before) Later from most p u w
seeks-first more before from most Later p u v w r few e t =
    record {
      asked = t.asked;
      first = ran-join u v t.asked r t.first;
      first_few = at-most-join more before u v t.asked r t.first few t.first_few;
      got = t.got;
      ran = t.ran;
      tries = t.tries;
      last = t.last;
      later = t.later;
      paces = paces-first u v w e t.paces;
    }

-- the cache was given up first
module _ (from most : ℕ) (u v w : View) (r : Ran u v) (few : AtMost (flush_steps u + 3) u v) (e : CarriesPace u v) where
  before : (Later : View → View → Type 0) (p : Piece) → SeeksOnce 0 Later from most p v w → SeeksOnce (flush_steps u + 3) Later from most p u w
  before Later p k = subst (λ (n : ℕ). SeeksOnce n Later from most p u w) (let z : flush_steps u + 3 + 0 ≡ flush_steps u + 3 = omega arith in z) (seeks-first (flush_steps u + 3) 0 from most Later p u v w r few e k)

  pub given-up : (s : Sought) → SoughtBy 0 from most s v w → RefillsBy from most s u w
  given-up soughts.Free k = (k.0, inr (k.1.0, k.1.1, before GoesFreely (pieces.Cache k.1.0 k.1.1) k.1.2))
  given-up (soughts.Next n) k = before GoesFreely (pieces.Next n) k
  given-up soughts.Ended k = before GoesFreely pieces.Ended k
  given-up soughts.MarkingDone k = before GoesFreely pieces.MarkingDone k

  pub fails-first : (c : Came) → Ran v w → FailsBy 0 from most c v w → RefillFailsBy from most c u w
  fails-first cames.Stopped q k = (found-right u v w r q k.0, (k.1.0, before (AtMost 8) k.1.0 k.1.1))
  fails-first cames.Full q k = ((full-right u v w r q k.0.0, k.0.1), (k.1.0, before (AtMost 8) k.1.0 k.1.1))
  fails-first c q k = k

-- who tried to come to its turn and hasn't left the world
pub arrives-leaves : (c : Came) (h : Heap) (s : HeapSeat) → (c ≡ cames.Done → ⊥) → Arrives c h s → LeavesWorld c h s
arrives-leaves cames.Done h s other a = absurd (other refl)
arrives-leaves cames.Stopped h s other a = a
arrives-leaves cames.Full h s other a = a
arrives-leaves c h s other a = absurd a

-- the cache has a free cell
pub has-free : (h : Cache) (v : View) → IsCached h v → 0 < ones h.cells → HasFree v.state.cache
has-free h v is free = subst HasFree (sym is) free

pub had-free : (o : Option Cache) (h : Cache) (v : View) → IfSome o (λ k. IsCached k v) → o ≡ Some h → 0 < ones h.cells → HasFree v.state.cache
had-free o h v some is free = has-free h v (subst (λ (p : Option Cache). IfSome p (λ k. IsCached k v)) is some) free

-- a piece that found no cell
pub lacked :
    (from most : ℕ) (s : Sought) (v w x : View) (r : Result Sought Came) → IfOk r (λ t. t ≡ s) → IfOk r (λ _. GoesFreely w x) → (GoesFreely w x → SoughtBy 0 from most s v x) → IfOk r (λ t. SoughtBy 0 from most t v x)
lacked from most s v w x (Ok t) e g k = subst (λ (u : Sought). SoughtBy 0 from most u v x) (sym e) (k g)
lacked from most s v w x (Err c) e g k = tt

-- a piece that found the heap full
pub seeks-full : (from most : ℕ) (v w x : View) → Ran v w → TriesPiece from most pieces.Full v w → Ran w x → CarriesPace w x → AtMost 2 w x → KnowsFull x → FailsBy 0 from most cames.Full v x
seeks-full from most v w x a t b e few known = ((full-left v w x a b t.gets.read, known), (pieces.Full, seeks from most pieces.Full v w x a t b e (AtMost 8) (at-most-more 2 8 w x (omega arith) few)))

-- an object was made of a cell of the cache
pub makes-own : (h : Heap) (x : HeapSeat) (v w : View) → Sits h x → Ran v w → PassesFreely (view_of x) v → HasFree v.state.cache → AtMost (h.shape.fields + 3) v w → KeepsPace (view_of x) w → MakesOwn (view_of x) w
makes-own h x v w sits b p had m paces =
    let u : View = view_of x in
    let same : u.shape.fields ≡ h.shape.fields = ap (λ (sh : Shape). sh.fields) sits.1 in
    record {
      had = subst HasFree (cache-kept u v p) had;
      passed = v;
      passes = p;
      ran = b;
      paces = paces;
      few = at-most-more (2 + (h.shape.fields + 3)) (u.shape.fields + 5) u w (omega (arith, same)) (at-most-join 2 (h.shape.fields + 3) u v w p.ran b p.few m);
    }

-- or the mutator left
pub missed : (op : Op) (c : Came) (h : Heap) (x y : HeapSeat) → LeavesWorld c h y → plain_of y ≡ plain_of x → MakesHere c op h x y
missed op cames.Stopped h x y l same = (l, same)
missed op cames.Full h x y l same = (l, same)
missed op c h x y l same = absurd l

pub misses : (c : Came) (v w : View) → (c ≡ cames.Done → ⊥) → PassesBy c v w → CachedBy c v w
misses cames.Done v w n g = absurd (n refl)
misses cames.Stopped v w n g = g
misses cames.Full v w n g = g
misses c v w n g = absurd g

pub ruleset trying = (has-section, tries-enter, tries-pass)
