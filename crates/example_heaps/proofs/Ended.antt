-- A world for two threads is opened, and what they added to their logs ends in what its words say.
use Rattle.std.proofs.Common.{ℕ, zero, suc, ◌≡◌, ◌+◌, ◌∙◌, List, [], ◌∷◌, ◌++◌, ap, arith, refl, subst, sym, Bool, true, false, Option, None, Some}
use Rattle.std.specs.Prelude.{IfOk, IfSome, IsTrue, is_err, slice_get}
use Rattle.std.specs.Bool.{OnTrue}
use Rattle.std.specs.Arc.{arc_value}
use Rattle.std.specs.declared.result.Result.{Result}
use Rattle.std.specs.declared.result.Result.TheVariants.{Err, Ok}
use Rattle.std.proofs.lemmas.Bool.{false≢true}
use Rattle.std.proofs.lemmas.Option.{same_Some}
use Rattle.gc_table.specs.Log.{all_steps}
use Rattle.gc_table.specs.Seats.{view_of}
use Rattle.gc_table.specs.declared.seat.Heap.{Heap}
use Rattle.gc_table.specs.declared.view.Entry.{Entry}
use Rattle.gc_table.specs.declared.words.Words.{Words}
use Rattle.gc_table.specs.Single.{raises, takes_turns}
use Rattle.shared_heap.specs.Closing.{IsSharedEnd}
use Rattle.shared_heap.specs.Counting.{CounterRead, EachLog, LockClosed, OnlyExchanges, root_value_of}
use Rattle.shared_heap.specs.Lending.{IsFreshSharer, IsSharedOpened, KeepsRest}
use Rattle.shared_heap.specs.Logs.{Adds, Locks, Raises}
use Rattle.shared_heap.specs.Threads.{ThreadsRun}
use Rattle.shared_heap.specs.declared.mutator.SharedMutator.{SharedMutator}
use Rattle.managed_heap.specs.declared.sizes.Sizes.{Sizes}
use Rattle.shared_heap.specs.declared.world.SharedWorld.{SharedWorld}
use Rattle.example_heaps.specs.Locking.{IsAlone}
use Rattle.example_heaps.specs.Pairs.{AreNew}

-- a call that wasn't refused was done
pub if-ok : {A E : Type 0} (r : Result A E) (P : A → Type 0) → false ≡ is_err r → IfOk r P → (a : A) × P a
if-ok (Ok a) P e k = (a, k)
if-ok (Err z) P e k = absurd (false≢true e)

pub on-ok : {A E : Type 0} (r : Result A E) (X Y : Type 0) → IfOk r (λ _. X) → (X → Y) → IfOk r (λ _. Y)
on-ok (Ok a) X Y k f = f k
on-ok (Err z) X Y k f = tt

pub on-true : (b : Bool) (X Y : Type 0) → OnTrue b X → (X → Y) → OnTrue b Y
on-true true X Y k f = f k
on-true false X Y k f = tt

pub when-some : {A : Type 0} (r : Option A) (P : A → Type 0) → ((a : A) → r ≡ Some a → P a) → IfSome r P
when-some (Some a) P f = f a refl
when-some None P f = tt

pub if-some : {A : Type 0} (r : Option A) (P Q : A → Type 0) → ((a : A) → P a → Q a) → IfSome r P → IfSome r Q
if-some (Some a) P Q f k = f a k
if-some None P Q f k = tt

-- the first two mutators of a new world
pub are-new : (sizes : Sizes) (u v w : SharedWorld) (a b : SharedMutator) → IsSharedOpened sizes u → u.mutators.items ≡ a ∷ v.mutators.items → KeepsRest u v → v.mutators.items ≡ b ∷ w.mutators.items → KeepsRest v w → AreNew w a b
are-new sizes u v w a b opened one k two l =
    let heap : arc_value w.heap ≡ arc_value u.heap = ap (λ h. arc_value h) (l.heap ∙ k.heap) in
    let name : w.sizes.name ≡ sizes.name = ap (λ (s : Sizes). s.name) (l.sizes_are ∙ (k.sizes_are ∙ opened.sizes_are)) in
    let first : IsFreshSharer (arc_value u.heap) sizes.name 1 a = opened.fresh 0 a (ap (λ (s : List SharedMutator). slice_get s 0) one) in
    let second : IsFreshSharer (arc_value u.heap) sizes.name 2 b = opened.fresh 1 b (ap (λ (s : List SharedMutator). slice_get s 1) (one ∙ ap (λ (s : List SharedMutator). a ∷ s) two)) in
    record {
      first = subst (λ (z : Heap × ℕ). IsFreshSharer z.0 z.1 1 a) (λ i. (sym heap i, sym name i)) first;
      second = subst (λ (z : Heap × ℕ). IsFreshSharer z.0 z.1 2 b) (λ i. (sym heap i, sym name i)) second;
    }

-- what was added is the whole log of a mutator that had done nothing, and it is of its world
pub whole-log : (P : ℕ → List Entry → Type 0) (h : Heap) (name k : ℕ) (x y : SharedMutator) → IsFreshSharer h name k x → Adds (P (arc_value x.heap).shape.fields) x y → (arc_value y.heap ≡ h) × P h.shape.fields (view_of y.seat).log
whole-log P h name k x y f a =
    let log : (view_of y.seat).log ≡ a.more = a.log ∙ ap (λ (l : List Entry). l ++ a.more) f.log in (
      a.heap ∙ f.heap,
      subst (λ (l : List Entry). P h.shape.fields l) (sym log) (subst (λ (g : Heap). P g.shape.fields a.more) f.heap a.are),
    )

each_two : (P : List Entry → Type 0) (a b : SharedMutator) → P (view_of a.seat).log → P (view_of b.seat).log → EachLog P (a ∷ b ∷ [])
each_two P a b p q zero m at = subst (λ (z : SharedMutator). P (view_of z.seat).log) (same_Some a m at) p
each_two P a b p q (suc zero) m at = subst (λ (z : SharedMutator). P (view_of z.seat).log) (same_Some b m at) q
each_two P a b p q (suc (suc i)) m at = absurd (cc)

module _ (world : SharedWorld) (a b : SharedMutator) (w : Words) (end : IsSharedEnd world (a ∷ b ∷ []) [] w) where
  -- the value of the counter
  pub counted : CounterRead → (m n v : ℕ) → Raises (arc_value world.heap).shape.fields m (view_of a.seat).log → Raises (arc_value world.heap).shape.fields n (view_of b.seat).log → root_value_of w ≡ Some v → v ≡ m + n
  counted law m n v p q e =
      let value = law world (a ∷ b ∷ []) [] w end (each_two (OnlyExchanges (arc_value world.heap).shape.fields) a b p.only q.only) (each_two (λ l. IsTrue (all_steps raises l)) a b p.raises q.raises) v e in
      let one = p.won in
      let two = q.won in
      omega (arith, value, one, two)

  -- nobody had the lock beside the other
  pub locked : ThreadsRun → LockClosed → (n : ℕ) → Locks (arc_value world.heap).shape.fields false false (n + n) (view_of a.seat).log → Locks (arc_value world.heap).shape.fields false false (n + n) (view_of b.seat).log → IsAlone n w
  locked runs law n p q =
      let r = runs world (a ∷ b ∷ []) [] w end in
      record {
        world = world;
        first = a;
        second = b;
        ended = end;
        past = r.0;
        whole = r.1;
        visits = (p.won, q.won);
        alone =
            law world (a ∷ b ∷ []) [] w end r.0 r.1 (each_two (OnlyExchanges (arc_value world.heap).shape.fields) a b p.only q.only) (each_two (λ l. IsTrue (takes_turns false l)) a b p.turns q.turns);
      }
