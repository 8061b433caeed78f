-- How many steps are taken with a try to get a cell, and besides.
use Rattle.std.proofs.Common.{ℕ, ◌≡◌, ◌+◌, inl, inr, arith, subst, Option, Some, None, ◌≤◌, ⊎_elim, ap, refl}
use Rattle.mark_core.specs.declared.kinds.Shape.{Shape}
use Rattle.gc_table.specs.Running.{Ran}
use Rattle.gc_table.specs.declared.seat.Heap.{Heap}
use Rattle.gc_table.specs.declared.seat.HeapSeat.{HeapSeat}
use Rattle.gc_table.specs.declared.view.View.{View}
use Rattle.gc_table.proofs.Running.{ran-join, ran-shape}
use Rattle.gc_table.specs.Rule.{KnowsFull}
use Rattle.gc_cycle.specs.declared.counts.Refill.{Refill}
use Rattle.gc_cycle.specs.declared.counts.Refill.TheVariants as refills
use Rattle.gc_table.specs.Seats.{view_of, Sits}
use Rattle.cache_refills.specs.Getting.{RefillsTo}
use Rattle.mutator_ops.specs.Few.{AtMost}
use Rattle.mutator_ops.proofs.Few.{at-most-join, at-most-more}
use Rattle.seat_steps.specs.Causes.{ArrivesBy, FillsBy, LacksBy, MakesBy, ComesFreely, MakesFreely, PassesBy}
use Rattle.seat_steps.specs.Filling.{TriesOnce, TriesToFill, filling_steps, search_steps, TriesSome, make_steps}
use Rattle.seat_turns.specs.Standing.{flush_steps}
use Rattle.seat_steps.specs.Arriving.{LeavesWorld, Refills}
use Rattle.seat_steps.specs.Pacing.{Paces}
use Rattle.seat_steps.specs.declared.came.Came.{Came}
use Rattle.seat_steps.specs.declared.came.Came.TheVariants as cames
use Rattle.seat_steps.proofs.Found.{found-right, full-left, full-right}

-- more before it, and more after it
pub tries-first : (more before later : ℕ) (o : Option Refill) (u v w : View) → Ran u v → AtMost more u v → TriesOnce before later o v w → TriesOnce (more + before) later o u w
tries-first more before later o u v w r few t =
    record {
      asked = t.asked;
      first = ran-join u v t.asked r t.first;
      first_few = at-most-join more before u v t.asked r t.first few t.first_few;
      got = t.got;
      ran = t.ran;
      tries = t.tries;
      last = t.last;
      last_few = t.last_few;
    }

pub tries-last : (before later more : ℕ) (o : Option Refill) (u v w : View) → Ran v w → AtMost more v w → TriesOnce before later o u v → TriesOnce before (later + more) o u w
tries-last before later more o u v w r few t =
    record {
      asked = t.asked;
      first = t.first;
      first_few = t.first_few;
      got = t.got;
      ran = t.ran;
      tries = t.tries;
      last = ran-join t.got v w t.last r;
      last_few = at-most-join later more t.got v w t.last r t.last_few few;
    }

-- all steps of a call whose try took this many
in_all : (before k later : ℕ) (o : Option Refill) (v w : View) → (t : TriesOnce before later o v w) → AtMost k t.asked t.got → AtMost (before + (k + later)) v w
in_all before k later o v w t few = at-most-join before (k + later) v t.asked w t.first (ran-join t.asked t.got w t.ran t.last) t.first_few (at-most-join k later t.asked t.got w t.ran t.last few t.last_few)

tried-few : (o : Option Refill) (v w : View) → TriesToFill o v w → AtMost (filling_steps v.shape) v w
tried-few None v w t = at-most-more (search_steps v.shape) (filling_steps v.shape) v w (omega arith) t.2
tried-few (Some r) v w t = t.2

pub tries-few : (before later : ℕ) (o : Option Refill) (v w : View) → TriesOnce before later o v w → AtMost (before + (filling_steps v.shape + later)) v w
tries-few before later o v w t =
    in_all before (filling_steps v.shape) later o v w t (subst (λ (sh : Shape). AtMost (filling_steps sh) t.asked t.got) (ran-shape v t.asked t.first) (tried-few o t.asked t.got t.tries))

none-few : (before later : ℕ) (v w : View) → TriesOnce before later None v w → AtMost (before + (search_steps v.shape + later)) v w
none-few before later v w t = in_all before (search_steps v.shape) later None v w t (subst (λ (sh : Shape). AtMost (search_steps sh) t.asked t.got) (ran-shape v t.asked t.first) t.tries.2)

-- a cache is given up, a try is made, and then the mutator comes to its turn or leaves
module _ (u v w x : View) (a : Ran u v) (few : AtMost 3 u v) (o : Option Refill) (b : Ran v w) (t : TriesToFill o v w) (d : Ran w x) where
  pub once : (later : ℕ) → AtMost later w x → TriesOnce 3 later o u x
  once later rest = record { asked = v; first = a; first_few = few; got = w; ran = b; tries = t; last = d; last_few = rest }

  pub fills-on : (rest : AtMost 3 w x) → TriesOnce 3 3 o u x
  fills-on rest = once 3 rest

  pub arrives-fills : (c : Came) (h : Heap) (s : HeapSeat) → LeavesWorld c h s → ArrivesBy c w x → FillsBy 3 c u x
  arrives-fills cames.Stopped h s l g = (found-right u w x (ran-join u v w a b) d g.0, (o, once 8 g.1))
  arrives-fills cames.Full h s l g = ((full-right u w x (ran-join u v w a b) d g.0.0, g.0.1), (o, once 8 g.1))
  arrives-fills c h s l g = absurd l

-- no cell was found
pub lacks-fills : (c : Came) (u v w x : View) → Ran u v → AtMost 3 u v → Ran v w → TriesToFill None v w → Ran w x → LacksBy c w x → FillsBy 3 c u x
lacks-fills cames.NoCell u v w x a few b t d g = fills-on u v w x a few None b t d g
lacks-fills cames.Stopped u v w x a few b t d g = (found-right u w x (ran-join u v w a b) d g.0, (None, once u v w x a few None b t d 8 g.1))
lacks-fills cames.Full u v w x a few b t d g = ((full-right u w x (ran-join u v w a b) d g.0.0, g.0.1), (None, once u v w x a few None b t d 8 g.1))
lacks-fills c u v w x a few b t d g = g

-- the try found the heap full
pub full-fills : (u v w x : View) → Ran u v → AtMost 3 u v → Ran v w → (r : Refill) → r ≡ refills.Full → TriesToFill (Some r) v w → Ran w x → AtMost 2 w x → KnowsFull x → FillsBy 3 cames.Full u x
full-fills u v w x a few b r is t d rest known =
    let q = ran-join v w x b d in
    let ends : RefillsTo refills.Full v.state.made v w = subst (λ (z : Refill). RefillsTo z v.state.made v w) is t.0 in
    ((full-right u v x a q (full-left v w x b d ends.read), known), (Some r, once u v w x a few (Some r) b t d 8 (at-most-more 2 8 w x (omega arith) rest)))

pub full-refills : (r : Refill) (h : Heap) (s : HeapSeat) → r ≡ refills.Full → Refills r h s → KnowsFull (view_of s)
full-refills r h s is p = (subst (λ (z : Refill). Refills z h s) is p).1

-- and before it two looks
pub passes-makes : (c : Came) (v w : View) → (c ≡ cames.Done → ⊥) → PassesBy c v w → Paces v w → MakesBy c v w
passes-makes cames.Done v w n g p = absurd (n refl)
passes-makes cames.Stopped v w n g p = ((g.0.0, at-most-more (flush_steps v + 6) (filling_steps v.shape + (flush_steps v + 13)) v w (omega arith) g.0.1), inl (at-most-more (flush_steps v + 6) (flush_steps v + 8) v w (omega arith) g.0.1), p)
passes-makes cames.Full v w n g p = ((g.0.0, at-most-more (flush_steps v + 7) (filling_steps v.shape + (flush_steps v + 13)) v w (omega arith) g.0.1), inl (at-most-more (flush_steps v + 7) (flush_steps v + 8) v w (omega arith) g.0.1), p)
passes-makes c v w n g p = absurd g

in_thirteen : (o : Option Refill) (v w : View) → TriesOnce (flush_steps v + 5) 8 o v w → AtMost (filling_steps v.shape + (flush_steps v + 13)) v w
in_thirteen o v w t = let all = tries-few (flush_steps v + 5) 8 o v w t in omega (arith, all)

-- two looks, the roots that lagged, and a cache that is given up
pub tries-looked : (later : ℕ) (o : Option Refill) (u v w : View) → Ran u v → AtMost 2 u v → flush_steps v ≡ flush_steps u → TriesOnce (flush_steps v + 3) later o v w → TriesOnce (flush_steps u + 5) later o u w
tries-looked later o u v w a few same t = subst (λ (k : ℕ). TriesOnce k later o u w) (omega (arith, same)) (tries-first 2 (flush_steps v + 3) later o u v w a few t)

pub fills-makes : (c : Came) (u v w : View) → Ran u v → AtMost 2 u v → flush_steps v ≡ flush_steps u → Ran v w → FillsBy (flush_steps v + 3) c v w → Paces u w → MakesBy c u w
fills-makes cames.Done u v w a few same b g p = absurd g
fills-makes cames.NoCell u v w a few same b g p =
    let t = tries-looked 3 None u v w a few same g in
    let all = none-few (flush_steps u + 5) 3 u w t in
    ((t, omega (arith, all)), p)
fills-makes cames.Stopped u v w a few same b g p = let t = tries-looked 8 g.1.0 u v w a few same g.1.1 in ((found-right u v w a b g.0, in_thirteen g.1.0 u w t), inr (g.1.0, t), p)
fills-makes cames.Full u v w a few same b g p = let t = tries-looked 8 g.1.0 u v w a few same g.1.1 in (((full-right u v w a b g.0.0, g.0.1), in_thirteen g.1.0 u w t), inr (g.1.0, t), p)
fills-makes c u v w a few same b g p = g

-- the roots that lagged were stored first
pub fills-flushed : (before more : ℕ) (c : Came) (u v w : View) → Ran u v → AtMost more u v → Ran v w → FillsBy before c v w → FillsBy (more + before) c u w
fills-flushed before more cames.NoCell u v w a few b g = tries-first more before 3 None u v w a few g
fills-flushed before more cames.Stopped u v w a few b g = (found-right u v w a b g.0, (g.1.0, tries-first more before 8 g.1.0 u v w a few g.1.1))
fills-flushed before more cames.Full u v w a few b g = ((full-right u v w a b g.0.0, g.0.1), (g.1.0, tries-first more before 8 g.1.0 u v w a few g.1.1))
fills-flushed before more c u v w a few b g = g

-- How many steps are taken until an object is made.
-- more steps are allowed after a try
tries_more : (before later more : ℕ) (v w : View) → later ≤ more → TriesSome before later v w → TriesSome before more v w
tries_more before later more v w le t = (
  t.0,
  record {
    asked = t.1.asked;
    first = t.1.first;
    first_few = t.1.first_few;
    got = t.1.got;
    ran = t.1.ran;
    tries = t.1.tries;
    last = t.1.last;
    last_few = at-most-more later more t.1.got w le t.1.last_few;
  },
)

-- an object was made
pub made-free : (h : Heap) (x : HeapSeat) (v w : View) → Sits h x → Ran (view_of x) v → Ran v w → ComesFreely (view_of x) v → AtMost (h.shape.fields + 3) v w → Paces (view_of x) w → MakesFreely (view_of x) w
made-free h x v w sits a b c m paces =
    let u : View = view_of x in
    let same : u.shape.fields ≡ h.shape.fields = ap (λ (sh : Shape). sh.fields) sits.1 in
    let in_all : AtMost 2 u v → AtMost (u.shape.fields + 5) u w = λ few. at-most-more (2 + (h.shape.fields + 3)) (u.shape.fields + 5) u w (omega (arith, same)) (at-most-join 2 (h.shape.fields + 3) u v w a b few m) in
    record {
      passed = c.passed;
      passes = c.passes;
      ran = ran-join c.passed v w c.ran b;
      paces = paces;
      few = λ f. in_all (c.few f);
      besides =
          ⊎_elim
          (λ (few : AtMost 2 u v). inl (in_all few))
          (λ (t : TriesSome (flush_steps u + 5) 3 u v).
          inr (tries_more (flush_steps u + 5) (3 + (h.shape.fields + 3)) (u.shape.fields + 6) u w (omega (arith, same)) (t.0, tries-last (flush_steps u + 5) 3 (h.shape.fields + 3) t.0 u v w b m t.1)))
          c.besides;
      longest =
          ⊎_elim
          (λ (few : AtMost 2 u v). at-most-more (u.shape.fields + 5) (make_steps u.shape + flush_steps u) u w (omega arith) (in_all few))
          (λ (t : TriesSome (flush_steps u + 5) 3 u v).
          at-most-more (flush_steps u + 5 + (filling_steps u.shape + (3 + (h.shape.fields + 3)))) (make_steps u.shape + flush_steps u) u w (omega (arith, same))
          (tries-few (flush_steps u + 5) (3 + (h.shape.fields + 3)) t.0 u w (tries-last (flush_steps u + 5) 3 (h.shape.fields + 3) t.0 u v w b m t.1)))
          c.besides;
    }
