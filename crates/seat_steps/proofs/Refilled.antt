-- A step of a refill, by what its piece came to.
use Rattle.std.proofs.Common.{ℕ, ◌≡◌, ◌≤◌, ◌+◌, ◌-◌, ◌*◌, ◌∙◌, length, ⊎_elim, arith, ap, inl, inr, sym, subst}
use Rattle.std.specs.Arc.{arc_value}
use Rattle.mark_core.specs.Layout.{block_count}
use Rattle.mark_core.specs.declared.kinds.Shape.{Shape}
use Rattle.gc_table.specs.Log.{events}
use Rattle.gc_table.specs.Seats.{view_of}
use Rattle.gc_table.specs.declared.seat.Heap.{Heap}
use Rattle.gc_table.specs.declared.seat.HeapSeat.{HeapSeat}
use Rattle.gc_table.specs.declared.view.View.{View}
use Rattle.gc_table.proofs.Running.{ran-join, ran-shape}
use Rattle.alloc_cache.specs.declared.cache.Cache.{Cache}
use Rattle.gc_cycle.specs.declared.counts.Paid.{Paid}
use Rattle.cache_refills.specs.Pace.Pacing.{card_looks}
use Rattle.cache_refills.specs.Pace.StepBounds.{payment_steps}
use Rattle.cache_refills.specs.Pieces.{SeesBlocks}
use Rattle.cache_refills.specs.declared.pieces.Piece.{Piece}
use Rattle.cache_refills.specs.declared.pieces.Piece.TheVariants as pieces
use Rattle.mutator_ops.specs.Few.{AtMost}
use Rattle.mutator_ops.proofs.Few.{at-most-join, at-most-none}
use Rattle.seat_turns.specs.Sharing.{LeavesHeap}
use Rattle.seat_turns.specs.Standing.{plain_of}
use Rattle.seat_steps.specs.Causes.{GoesFreely}
use Rattle.seat_steps.specs.Seeking.{RefillFailsBy, RefillsBy, SeeksOnce}
use Rattle.seat_steps.specs.declared.seeking.Sought.{Sought}
use Rattle.seat_steps.specs.declared.seeking.Sought.TheVariants as soughts
use Rattle.seat_steps.specs.Arriving.{LeavesWorld}
use Rattle.seat_steps.specs.declared.came.Came.{Came}
use Rattle.seat_steps.specs.declared.came.Came.TheVariants as cames
use Rattle.seat_turns.specs.Standing.{flush_steps}
use Rattle.seat_steps.specs.Refilling.{BeginsSearch, LooksOn, NotesSeen, SeenTo, StepperRefills, blocks_of, looked, reach, refill_steps}
use Rattle.seat_steps.specs.Stepping.{KeepsHeap, KeepsPlace}
use Rattle.seat_steps.specs.Steps.{shape_of}
use Rattle.seat_steps.specs.declared.stepper.Stage.TheVariants as stages
use Rattle.seat_steps.specs.declared.stepper.Stepper.{Stepper}
use Rattle.seat_steps.proofs.Answered.{cycle-join}

-- all steps of a step whose piece took this many
in_all : (before later from most k : ℕ) (Later : View → View → Type 0) (p : Piece) (v w : View) → (t : SeeksOnce before Later from most p v w) → AtMost later t.got w → length (events t.asked t.got) ≤ k → AtMost (before + (k + later)) v w
in_all before later from most k Later p v w t last few = at-most-join before (k + later) v t.asked w t.first (ran-join t.asked t.got w t.ran t.last) t.first_few (at-most-join k later t.asked t.got w t.ran t.last few last)

-- the heap's sizes, as the seat knows them
module _ (most : ℕ) (x : Stepper) (w : View) (shape : (view_of x.seat).shape ≡ shape_of x) where
  blocks_known : (p : Piece) (t : SeeksOnce (flush_steps (view_of x.seat) + 3) GoesFreely x.block (reach most x) p (view_of x.seat) w) → block_count t.asked.shape ≡ blocks_of x
  blocks_known p t = ap (λ (sh : Shape). block_count sh) (ran-shape (view_of x.seat) t.asked t.first ∙ shape)

  -- more blocks are left
  pub next-far : (n : ℕ) → SeeksOnce (flush_steps (view_of x.seat) + 3) GoesFreely x.block (reach most x) (pieces.Next n) (view_of x.seat) w → looked most x ≡ reach most x
  next-far n t =
      let sees = t.tries.sees in
      let here = sees.0 in
      let below = sees.1 in
      let known = blocks_known (pieces.Next n) t in
      omega (arith, here, below, known)

  pub next-within : (n : ℕ) → SeeksOnce (flush_steps (view_of x.seat) + 3) GoesFreely x.block (reach most x) (pieces.Next n) (view_of x.seat) w → n ≤ blocks_of x
  next-within n t = let below = t.tries.sees.1 in let known = blocks_known (pieces.Next n) t in omega (arith, below, known)

  -- none is
  pub ended-far : x.block ≤ blocks_of x → SeeksOnce (flush_steps (view_of x.seat) + 3) GoesFreely x.block (reach most x) pieces.Ended (view_of x.seat) w → (looked most x ≡ blocks_of x - x.block) × (x.block + looked most x ≡ blocks_of x)
  ended-far within t =
      let end = t.tries.sees.0 in
      let known = blocks_known pieces.Ended t in
      (omega (arith, end, known, within), omega (arith, end, known, within))

pub looks-next : (most n : ℕ) (x y : Stepper) → (view_of x.seat).shape ≡ shape_of x → SeeksOnce (flush_steps (view_of x.seat) + 3) GoesFreely x.block (reach most x) (pieces.Next n) (view_of x.seat) (view_of y.seat) → y.block ≡ n → LooksOn most x y
looks-next most n x y shape t at =
    let far = next-far most x (view_of y.seat) shape n t in
    let is : n ≡ x.block + looked most x = t.tries.sees.0 ∙ ap (λ k. x.block + k) (sym far) in
    record {
      piece = pieces.Next n;
      seeks = t;
      sees = subst (λ (k : ℕ). SeesBlocks x.block k t.asked t.got) is t.tries.sees.2;
      few = let all = in_all (flush_steps (view_of x.seat) + 3) 3 x.block (reach most x) (5 + 3 * reach most x) GoesFreely (pieces.Next n) (view_of x.seat) (view_of y.seat) t t.later.few t.tries.short in omega (arith, all);
      next = inl (at ∙ is);
    }

pub looks-ended : (most : ℕ) (x y : Stepper) → (view_of x.seat).shape ≡ shape_of x → x.block ≤ blocks_of x → SeeksOnce (flush_steps (view_of x.seat) + 3) GoesFreely x.block (reach most x) pieces.Ended (view_of x.seat) (view_of y.seat) → y.block ≡ 0 → LooksOn most x y
looks-ended most x y shape within t at =
    let far = ended-far most x (view_of y.seat) shape within t in
    let is : block_count t.asked.shape ≡ x.block + looked most x = blocks_known most x (view_of y.seat) shape pieces.Ended t ∙ sym far.1 in
    record {
      piece = pieces.Ended;
      seeks = t;
      sees = subst (λ (k : ℕ). SeesBlocks x.block k t.asked t.got) is t.tries.sees.1;
      few = let all = in_all (flush_steps (view_of x.seat) + 3) 3 x.block (reach most x) (5 + 3 * reach most x) GoesFreely pieces.Ended (view_of x.seat) (view_of y.seat) t t.later.few t.tries.short in omega (arith, all);
      next = inr (at, far.1);
    }

-- what it noted of its search
seen-to : (c : Came) (number most : ℕ) (x m y : Stepper) → number ≡ looked most x → m.seen ≡ x.seen → blocks_of m ≡ blocks_of x → SeenTo c number m y → SeenTo c (looked most x) x y
seen-to cames.NotYet number most x m y is seen blocks s = let all = s.0 in let below = s.1 in (omega (arith, all, is, seen), omega (arith, below, blocks))
seen-to cames.NoCell number most x m y is seen blocks s = let all = s.1 in (s.0, omega (arith, all, is, seen, blocks))
seen-to c number most x m y is seen blocks s = absurd s

keeps-noted : (number next : ℕ) (c : Came) (x m y : Stepper) → NotesSeen number next c m y → KeepsHeap x m → KeepsHeap x y
keeps-noted number next c x m y n k =
    record {
      heap = ap plain_of n.seat ∙ k.heap;
      leaves = subst (λ (s : HeapSeat). LeavesHeap (view_of x.seat) (view_of s)) (sym n.seat) k.leaves;
      world = ap (λ h. arc_value h) n.heap ∙ k.world;
      name_is = n.name_is ∙ k.name_is;
      stops = n.stops ∙ k.stops;
      cycle = cycle-join x m y k.cycle n.cycle;
    }

refills-on : (most : ℕ) (c : Came) (x y : Stepper) → SeenTo c (looked most x) x y → LooksOn most x y → x.stage ≡ stages.Inside → y.stage ≡ stages.Inside → KeepsHeap x y → StepperRefills most c x y
refills-on most cames.NotYet x y s l e f k = (l, s, e, f, k)
refills-on most cames.NoCell x y s l e f k = (inl (l, s), e, f, k)
refills-on most c x y s l e f k = absurd s

-- the piece was to look at this many blocks, and the stepper noted what it saw
module _ (most n : ℕ) (x m y : Stepper) (reaches : n ≡ reach most x) (shape : (view_of x.seat).shape ≡ shape_of x) (seen : m.seen ≡ x.seen) (blocks : blocks_of m ≡ blocks_of x) (was : x.stage ≡ stages.Inside) (inside : m.stage ≡ stages.Inside) (k : KeepsHeap x m) where
  sought : (p : Piece) → y.seat ≡ m.seat → SeeksOnce (flush_steps (view_of x.seat) + 3) GoesFreely x.block n p (view_of x.seat) (view_of m.seat) → SeeksOnce (flush_steps (view_of x.seat) + 3) GoesFreely x.block (reach most x) p (view_of x.seat) (view_of y.seat)
  sought p e t = subst (λ (i : ℕ). SeeksOnce (flush_steps (view_of x.seat) + 3) GoesFreely x.block i p (view_of x.seat) (view_of y.seat)) reaches (subst (λ (s : HeapSeat). SeeksOnce (flush_steps (view_of x.seat) + 3) GoesFreely x.block n p (view_of x.seat) (view_of s)) (sym e) t)

  pub refills-next : (at next : ℕ) (c : Came) → at ≡ next → SeeksOnce (flush_steps (view_of x.seat) + 3) GoesFreely x.block n (pieces.Next next) (view_of x.seat) (view_of m.seat) → NotesSeen n at c m y → StepperRefills most c x y
  refills-next at next c is t noted =
      let u = sought (pieces.Next next) noted.seat t in
      let far = next-far most x (view_of y.seat) shape next u in
      refills-on most c x y (seen-to c n most x m y (reaches ∙ sym far) seen blocks noted.seen) (looks-next most next x y shape u (noted.block ∙ is)) was (noted.stage ∙ inside) (keeps-noted n at c x m y noted k)

  pub refills-ended : (number : ℕ) (c : Came) → number ≡ blocks_of x - x.block → x.block ≤ blocks_of x → SeeksOnce (flush_steps (view_of x.seat) + 3) GoesFreely x.block n pieces.Ended (view_of x.seat) (view_of m.seat) → NotesSeen number 0 c m y → StepperRefills most c x y
  refills-ended number c is within t noted =
      let u = sought pieces.Ended noted.seat t in
      let far = (ended-far most x (view_of y.seat) shape within u).0 in
      refills-on most c x y (seen-to c number most x m y (is ∙ sym far) seen blocks noted.seen) (looks-ended most x y shape within u noted.block) was (noted.stage ∙ inside) (keeps-noted number 0 c x m y noted k)

-- with the payment
longest_in : (most later : ℕ) (Later : View → View → Type 0) (x : Stepper) (w : View) (p : Piece) → later ≤ 8 → (view_of x.seat).shape ≡ shape_of x → (t : SeeksOnce (flush_steps (view_of x.seat) + 3) Later x.block (reach most x) p (view_of x.seat) w) → AtMost later t.got w → AtMost (refill_steps most x) (view_of x.seat) w
longest_in most later Later x w p le shape t last =
    let known : t.asked.shape ≡ shape_of x = ran-shape (view_of x.seat) t.asked t.first ∙ shape in
    let long = subst (λ (sh : Shape). length (events t.asked t.got) ≤ 3 * reach most x + 6 + payment_steps 1024 card_looks sh) known t.tries.longest in
    let all = in_all (flush_steps (view_of x.seat) + 3) later x.block (reach most x) (3 * reach most x + 6 + payment_steps 1024 card_looks (shape_of x)) Later p (view_of x.seat) w t last long in
    omega (arith, all, le)

pub refilled-few : (most : ℕ) (x : Stepper) (w : View) → (view_of x.seat).shape ≡ shape_of x → RefillsBy x.block (reach most x) soughts.Free (view_of x.seat) w → AtMost (refill_steps most x) (view_of x.seat) w
refilled-few most x w shape k =
    ⊎_elim
    (λ (same : w ≡ view_of x.seat). subst (λ (y : View). AtMost (refill_steps most x) (view_of x.seat) y) (sym same) (at-most-none (refill_steps most x) (view_of x.seat)))
    (λ (t : (h : Cache) × (paid : Paid) × SeeksOnce (flush_steps (view_of x.seat) + 3) GoesFreely x.block (reach most x) (pieces.Cache h paid) (view_of x.seat) w). longest_in most 3 GoesFreely x w (pieces.Cache t.0 t.1) (omega arith) shape t.2 t.2.later.few)
    k.1

-- the mutator has a cache with a free cell
pub refills-done :
    (most n : ℕ) (x m y : Stepper) → n ≡ reach most x → (view_of x.seat).shape ≡ shape_of x → RefillsBy x.block n soughts.Free (view_of x.seat) (view_of m.seat) → BeginsSearch m y
    → x.stage ≡ stages.Inside → m.stage ≡ stages.Inside → KeepsHeap x m → StepperRefills most cames.Done x y
refills-done most n x m y reaches shape r b was inside k =
    let at : RefillsBy x.block (reach most x) soughts.Free (view_of x.seat) (view_of y.seat) = subst (λ (i : ℕ). RefillsBy x.block i soughts.Free (view_of x.seat) (view_of y.seat)) reaches (subst (λ (s : HeapSeat). RefillsBy x.block n soughts.Free (view_of x.seat) (view_of s)) (sym b.seat) r) in (
      at,
      refilled-few most x (view_of y.seat) shape at,
      b.search,
      was,
      b.stage ∙ inside,
      record {
        heap = ap plain_of b.seat ∙ k.heap;
        leaves = subst (λ (s : HeapSeat). LeavesHeap (view_of x.seat) (view_of s)) (sym b.seat) k.leaves;
        world = ap (λ h. arc_value h) b.heap ∙ k.world;
        name_is = b.name_is ∙ k.name_is;
        stops = b.stops ∙ k.stops;
        cycle = cycle-join x m y k.cycle b.cycle;
      },
    )

pub fails-at : (n most : ℕ) (c : Came) (x : Stepper) (w : View) → n ≡ reach most x → RefillFailsBy x.block n c (view_of x.seat) w → RefillFailsBy x.block (reach most x) c (view_of x.seat) w
fails-at n most c x w is f = subst (λ (i : ℕ). RefillFailsBy x.block i c (view_of x.seat) w) is f

pub seeks-at : (n most : ℕ) (p : Piece) (x : Stepper) (w : View) → n ≡ reach most x → SeeksOnce (flush_steps (view_of x.seat) + 3) GoesFreely x.block n p (view_of x.seat) w → SeeksOnce (flush_steps (view_of x.seat) + 3) GoesFreely x.block (reach most x) p (view_of x.seat) w
seeks-at n most p x w is t = subst (λ (i : ℕ). SeeksOnce (flush_steps (view_of x.seat) + 3) GoesFreely x.block i p (view_of x.seat) w) is t

-- the piece of an answer
pub next-of : (from n next : ℕ) (s : Sought) (v w : View) → s ≡ soughts.Next next → RefillsBy from n s v w → SeeksOnce (flush_steps v + 3) GoesFreely from n (pieces.Next next) v w
next-of from n next s v w is r = subst (λ (t : Sought). RefillsBy from n t v w) is r

pub ended-of : (from n : ℕ) (s : Sought) (v w : View) → s ≡ soughts.Ended → RefillsBy from n s v w → SeeksOnce (flush_steps v + 3) GoesFreely from n pieces.Ended v w
ended-of from n s v w is r = subst (λ (t : Sought). RefillsBy from n t v w) is r

pub free-of : (from n : ℕ) (s : Sought) (v w : View) → s ≡ soughts.Free → RefillsBy from n s v w → RefillsBy from n soughts.Free v w
free-of from n s v w is r = subst (λ (t : Sought). RefillsBy from n t v w) is r

pub refills-out : (most : ℕ) (c : Came) (h : Heap) (x y : Stepper) → (view_of x.seat).shape ≡ shape_of x → LeavesWorld c h y.seat → RefillFailsBy x.block (reach most x) c (view_of x.seat) (view_of y.seat) → x.stage ≡ stages.Inside → y.stage ≡ stages.Outside → KeepsHeap x y → KeepsPlace x y → StepperRefills most c x y
refills-out most cames.Stopped h x y shape l p e f k q = (p, longest_in most 8 (AtMost 8) x (view_of y.seat) p.1.0 (omega arith) shape p.1.1 p.1.1.later, e, f, k, q)
refills-out most cames.Full h x y shape l p e f k q = (p, longest_in most 8 (AtMost 8) x (view_of y.seat) p.1.0 (omega arith) shape p.1.1 p.1.1.later, e, f, k, q)
refills-out most c h x y shape l p e f k q = absurd l
