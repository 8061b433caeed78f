-- What is counted as traced to pay for caches.
use Rattle.std.proofs.Common.{ℕ, ◌≡◌, ◌+◌, arith, inl, inr, ap, refl, sym, subst, Some, ⊎_elim}
use Rattle.std.specs.Prelude.{IfErr, IfOk, Result, Ok, Err}
use Rattle.mark_core.specs.declared.kinds.Shape.{Shape}
use Rattle.gc_table.specs.Running.{Ran}
use Rattle.gc_table.specs.Seats.{Sits, view_of}
use Rattle.gc_table.specs.declared.seat.Heap.{Heap}
use Rattle.gc_table.specs.declared.seat.HeapSeat.{HeapSeat}
use Rattle.gc_table.specs.declared.view.View.{View}
use Rattle.alloc_cache.specs.declared.cache.Cache.{Cache}
use Rattle.gc_cycle.specs.declared.counts.Paid.{Paid}
use Rattle.gc_cycle.specs.declared.counts.Refill.{Refill}
use Rattle.gc_cycle.specs.declared.counts.Refill.TheVariants as refills
use Rattle.mutator_ops.specs.Few.{AtMost}
use Rattle.mutator_ops.proofs.Few.{at-most-join, at-most-more}
use Rattle.seat_turns.specs.Standing.{flush_steps}
use Rattle.seat_steps.specs.Pacing.{CarriesPace}
use Rattle.seat_steps.specs.Causes.{ArrivesBy, GoesFreely, LacksBy}
use Rattle.seat_steps.specs.Filling.{TriesOnce}
use Rattle.seat_steps.specs.PaidTries.{CountsComing, CountsMaking, CountsPiece, CountsTry, counts_after, counts_more}
use Rattle.seat_steps.specs.declared.came.Came.{Came}
use Rattle.seat_steps.specs.declared.came.Came.TheVariants as cames
use Rattle.seat_steps.proofs.Filled.{tries-first, tries-last, tries-looked}
use Rattle.seat_steps.proofs.Found.{arrives-few}
use Rattle.seat_steps.proofs.Searched.{seeks-first}

-- a try that found the heap full pays nothing
pub full-counts : (r : Refill) (n : ℕ) → r ≡ refills.Full → n ≡ counts_after (Some r) n
full-counts r n is = subst (λ (z : Refill). n ≡ counts_after (Some z) n) (sym is) refl

-- one that got a cache pays for it
pub cache-counts : (r : Refill) (h : Cache) (paid : Paid) (n m : ℕ) → r ≡ refills.Cache h paid → m ≡ counts_more n paid.done → m ≡ counts_after (Some r) n
cache-counts r h paid n m is e = subst (λ (z : Refill). m ≡ counts_after (Some z) n) (sym is) e

-- who came to its turn, or left, took few steps
pub lacks-few : (c : Came) (v w : View) → LacksBy c v w → AtMost 8 v w
lacks-few cames.NoCell v w g = at-most-more 3 8 v w (omega arith) g
lacks-few cames.Stopped v w g = g.1
lacks-few cames.Full v w g = g.1
lacks-few c v w g = absurd g

pub either-few : {X : Type 0} (r : Result X Came) (v w : View) → IfOk r (λ _. GoesFreely v w) → IfErr r (λ came. ArrivesBy came v w) → AtMost 8 v w
either-few (Ok x) v w p q = at-most-more 3 8 v w (omega arith) p.few
either-few (Err came) v w p q = arrives-few came v w q

-- more steps before it
pub counts-first : (more earlier later a b : ℕ) (u v w : View) → Ran u v → AtMost more u v → CountsTry earlier later a b v w → CountsTry (more + earlier) later a b u w
counts-first more earlier later a b u v w r few t = record { tried = t.tried; tries = tries-first more earlier later t.tried u v w r few t.tries; counts = t.counts }

pub counts-looked : (later a b : ℕ) (u v w : View) → Ran u v → AtMost 2 u v → flush_steps v ≡ flush_steps u → CountsTry (flush_steps v + 3) later a b v w → CountsTry (flush_steps u + 5) later a b u w
counts-looked later a b u v w r few same t = record { tried = t.tried; tries = tries-looked later t.tried u v w r few same t.tries; counts = t.counts }

pub pieces-first : (more earlier later from most a b : ℕ) (u v w : View) → Ran u v → AtMost more u v → CarriesPace u v → CountsPiece earlier later from most a b v w → CountsPiece (more + earlier) later from most a b u w
pieces-first more earlier later from most a b u v w r few e t =
    record { piece = t.piece; seeks = seeks-first more earlier from most (AtMost later) t.piece u v w r few e t.seeks; counts = t.counts }

-- an object was made after that
module _ (h : Heap) (x : HeapSeat) (v w : View) (sits : Sits h x) (a : Ran (view_of x) v) (b : Ran v w) (few : AtMost (h.shape.fields + 3) v w) where
  known : (view_of x).shape.fields ≡ h.shape.fields
  known = ap (λ (sh : Shape). sh.fields) sits.1

  after_try : (n m : ℕ) → CountsTry (flush_steps (view_of x) + 5) 8 n m (view_of x) v → CountsTry (flush_steps (view_of x) + 5) ((view_of x).shape.fields + 11) n m (view_of x) w
  after_try n m t =
      record {
        tried = t.tried;
        tries =
            subst (λ (k : ℕ). TriesOnce (flush_steps (view_of x) + 5) k t.tried (view_of x) w) (let same = known in omega (arith, same))
            (tries-last (flush_steps (view_of x) + 5) 8 (h.shape.fields + 3) t.tried (view_of x) v w b few t.tries);
        counts = t.counts;
      }

  pub makes-counts : (n m : ℕ) → CountsComing n m (view_of x) v → CountsMaking n m (view_of x) w
  makes-counts n m c =
      ⊎_elim
      (λ (s : AtMost (flush_steps (view_of x) + 8) (view_of x) v × (m ≡ n)).
      inl (
        at-most-more (flush_steps (view_of x) + 8 + (h.shape.fields + 3)) (flush_steps (view_of x) + ((view_of x).shape.fields + 11)) (view_of x) w (let same = known in omega (arith, same))
            (at-most-join (flush_steps (view_of x) + 8) (h.shape.fields + 3) (view_of x) v w a b s.0 few),
        s.1,
      ))
      (λ (t : CountsTry (flush_steps (view_of x) + 5) 8 n m (view_of x) v). inr (after_try n m t))
      c

-- none was
pub misses-counts : (n m : ℕ) (v w : View) → CountsComing n m v w → CountsMaking n m v w
misses-counts n m v w c =
    ⊎_elim
    (λ (s : AtMost (flush_steps v + 8) v w × (m ≡ n)). inl (at-most-more (flush_steps v + 8) (flush_steps v + (v.shape.fields + 11)) v w (omega arith) s.0, s.1))
    (λ (t : CountsTry (flush_steps v + 5) 8 n m v w).
    inr (record {
      tried = t.tried;
      tries =
          record {
            asked = t.tries.asked;
            first = t.tries.first;
            first_few = t.tries.first_few;
            got = t.tries.got;
            ran = t.tries.ran;
            tries = t.tries.tries;
            last = t.tries.last;
            last_few = at-most-more 8 (v.shape.fields + 11) t.tries.got w (omega arith) t.tries.last_few;
          };
      counts = t.counts;
    }))
    c
