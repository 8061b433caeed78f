-- A world for two threads is opened, and what they added to their logs ends in what its words say.
use Rattle.std.proofs.Common.{ℕ, zero, suc, ◌≡◌, ◌⊎◌, ◌+◌, ◌≤◌, ◌∙◌, List, [], ◌∷◌, ◌++◌, ap, arith, inl, inr, length, refl, subst, sym, ⊎_elim, true, false, None, Some}
use Rattle.std.specs.Prelude.{slice_get}
use Rattle.std.specs.Arc.{arc_value}
use Rattle.std.proofs.lemmas.Option.{same_Some}
use Rattle.mark_core.specs.declared.kinds.Event.{Event}
use Rattle.mark_core.specs.declared.kinds.Shape.{Shape}
use Rattle.gc_table.specs.Log.{all_steps}
use Rattle.gc_table.specs.Past.{log_of}
use Rattle.gc_table.specs.Seats.{view_of}
use Rattle.gc_table.specs.Single.{spares_values, takes_turns}
use Rattle.gc_table.specs.declared.seat.Heap.{Heap}
use Rattle.gc_table.specs.declared.seat.HeapSeat.{HeapSeat}
use Rattle.gc_table.specs.declared.view.Entry.{Entry}
use Rattle.gc_table.specs.declared.view.View.{View}
use Rattle.gc_table.specs.declared.words.Words.{Words}
use Rattle.gc_table.proofs.History.Log.{events-of}
use Rattle.gc_table.proofs.Running.{ran-grows}
use Rattle.heap_laws.specs.LentLocks.{IsThroughLent, LockByLog, TakesLent, makes_zero}
use Rattle.heap_laws.specs.Locks.{stores_none}
use Rattle.heap_laws.specs.Pairs.{IsStoredLent, KeepsPair, PairByLog, fits_pairs}
use Rattle.seat_turns.specs.Sharing.{spares_heap}
use Rattle.managed_heap.specs.declared.sizes.Sizes.{Sizes}
use Rattle.managed_heap.proofs.SeatsGathered.{left-at, split-at}
use Rattle.shared_heap.specs.Closing.{HasLeft, IsSharedEnd, all_seats}
use Rattle.shared_heap.specs.Lending.{IsFreshSharer, IsSharedOpened, KeepsRest}
use Rattle.shared_heap.specs.Logs.{Adds}
use Rattle.shared_heap.specs.Threads.{IsWhole, ThreadsRun}
use Rattle.shared_heap.specs.declared.mutator.SharedMutator.{SharedMutator}
use Rattle.shared_heap.specs.declared.world.SharedWorld.{SharedWorld}
use Rattle.example_locks.specs.Guarding.{IsGuarded}
use Rattle.example_locks.specs.Pairs.{AreNew}
use Rattle.example_locks.specs.Visits.{VisitsRoot}
use Rattle.example_locks.proofs.Inside.{finds-whole, reads-alike}
use Rattle.example_locks.proofs.Lent.{Told, none-told, told, visits-more, zero-pairs, zero-stored, zero-stores, zero-through, zero-turns, zero-zeros}

-- the first two mutators of a new world
pub are-new : (sizes : Sizes) (u v w : SharedWorld) (a b : SharedMutator) → IsSharedOpened sizes u → u.mutators.items ≡ a ∷ v.mutators.items → KeepsRest u v → v.mutators.items ≡ b ∷ w.mutators.items → KeepsRest v w → AreNew w a b
are-new sizes u v w a b opened one k two l =
    let heap : arc_value w.heap ≡ arc_value u.heap = ap (λ h. arc_value h) (l.heap ∙ k.heap) in
    let name : w.sizes.name ≡ sizes.name = ap (λ (s : Sizes). s.name) (l.sizes_are ∙ (k.sizes_are ∙ opened.sizes_are)) in
    let first : IsFreshSharer (arc_value u.heap) sizes.name 1 a = opened.fresh 0 a (ap (λ (s : List SharedMutator). slice_get s 0) one) in
    let second : IsFreshSharer (arc_value u.heap) sizes.name 2 b = opened.fresh 1 b (ap (λ (s : List SharedMutator). slice_get s 1) (one ∙ ap (λ (s : List SharedMutator). a ∷ s) two)) in
    record {
      first = subst (λ (z : Heap × ℕ). IsFreshSharer z.0 z.1 1 a) (λ i. (sym heap i, sym name i)) first;
      second = subst (λ (z : Heap × ℕ). IsFreshSharer z.0 z.1 2 b) (λ i. (sym heap i, sym name i)) second;
    }

-- what was added is the whole log of a mutator that had done nothing, and it is of its world
pub whole-log : (P : ℕ → List Entry → Type 0) (h : Heap) (name k : ℕ) (x y : SharedMutator) → IsFreshSharer h name k x → Adds (P (arc_value x.heap).shape.fields) x y → (arc_value y.heap ≡ h) × P h.shape.fields (view_of y.seat).log
whole-log P h name k x y f a =
    let log : (view_of y.seat).log ≡ a.more = a.log ∙ ap (λ (l : List Entry). l ++ a.more) f.log in (
      a.heap ∙ f.heap,
      subst (λ (l : List Entry). P h.shape.fields l) (sym log) (subst (λ (g : Heap). P g.shape.fields a.more) f.heap a.are),
    )

-- who left has added nothing that a plain heap sees
left_log : (m : SharedMutator) (s : HeapSeat) → HasLeft m s → (more : List Entry) × ((view_of s).log ≡ (view_of m.seat).log ++ more) × (all_steps spares_heap more ≡ true)
left_log m s h =
    let v : View = view_of m.seat in
    let w : View = view_of h.left.seat in
    let leaves = h.leaves.same.leaves in
    let g = ran-grows v w leaves.ran in (
      g.0,
      ap (λ (t : HeapSeat). (view_of t).log) h.seat_is ∙ g.1,
      subst (λ (es : List Entry). all_steps spares_heap es ≡ true) (events-of v w g.0 g.1) leaves.only,
    )

of_two : (P : SharedMutator → Type 0) (a b : SharedMutator) → P a → P b → (i : ℕ) (m : SharedMutator) → slice_get (a ∷ b ∷ []) i ≡ Some m → P m
of_two P a b p q zero m at = subst P (same_Some a m at) p
of_two P a b p q (suc zero) m at = subst P (same_Some b m at) q
of_two P a b p q (suc (suc i)) m at = absurd (cc)

there_or_past : (xs : List HeapSeat) (i : ℕ) → ((s : HeapSeat) × (slice_get xs i ≡ Some s)) ⊎ (length xs ≤ i)
there_or_past [] i = inr (omega arith)
there_or_past (x ∷ xs) zero = inl (x, refl)
there_or_past (x ∷ xs) (suc i) = ⊎_elim (λ (t : (s : HeapSeat) × (slice_get xs i ≡ Some s)). inl t) (λ (l : length xs ≤ i). inr (omega (arith, l))) (there_or_past xs i)

past_none : (xs : List HeapSeat) (i : ℕ) (s : HeapSeat) → length xs ≤ i → slice_get (xs ++ []) i ≡ Some s → ⊥
past_none [] zero s h e = cc
past_none [] (suc i) s h e = cc
past_none (x ∷ xs) zero s h e = absurd (omega (arith, h))
past_none (x ∷ xs) (suc i) s h e = past_none xs i s (omega (arith, h)) e

module _ (world : SharedWorld) (a b : SharedMutator) (w : Words) (end : IsSharedEnd world (a ∷ b ∷ []) [] w) (es : List Event) (whole : IsWhole (arc_value world.heap).shape (all_seats world end.rest []) w es) (n : ℕ) (p : VisitsRoot (arc_value world.heap).shape.fields n (view_of a.seat).log)
    (q : VisitsRoot (arc_value world.heap).shape.fields n (view_of b.seat).log) where
  abbrev sh : Shape
  sh = (arc_value world.heap).shape

  -- what is so of the log of section 0's seat, and of each that visits the lock, is so of all
  each_log : (P : List Entry → Type 0) → P [] → P (view_of world.zero).log → ((l : List Entry) → Told sh.fields n l → P l) → (i : ℕ) → P (log_of sh es i)
  each_log P none first visits i = ⊎_elim (λ (t : (s : HeapSeat) × (slice_get (all_seats world end.rest []) i ≡ Some s)). subst P (whole.run.parts i t.0 t.1) (of_seat i t.0 t.1)) (λ (past : length (all_seats world end.rest []) ≤ i). subst P (sym (whole.no_others i past)) none) (there_or_past (all_seats world end.rest []) i)
    where
      of_left : (s : HeapSeat) (m : SharedMutator) → HasLeft m s → VisitsRoot sh.fields n (view_of m.seat).log → P (view_of s).log
      of_left s m left v = let g = left_log m s left in subst P (sym g.1) (visits ((view_of m.seat).log ++ g.0) (told sh.fields n ((view_of m.seat).log ++ g.0) (visits-more sh.fields n (view_of m.seat).log g.0 v g.2)))

      of_mutator : (j : ℕ) (s : HeapSeat) → slice_get end.rest j ≡ Some s → P (view_of s).log
      of_mutator j s at = let it = left-at HasLeft (a ∷ b ∷ []) end.rest end.left j s at in of_left s it.0 it.2 (of_two (λ (m : SharedMutator). VisitsRoot sh.fields n (view_of m.seat).log) a b p q j it.0 it.1)

      of_seat : (j : ℕ) (s : HeapSeat) → slice_get (all_seats world end.rest []) j ≡ Some s → P (view_of s).log
      of_seat zero s at = subst (λ (t : HeapSeat). P (view_of t).log) (same_Some world.zero s at) first
      of_seat (suc j) s at = ⊎_elim (λ (h : slice_get end.rest j ≡ Some s). of_mutator j s h) (λ (l : length end.rest ≤ j). absurd (past_none end.rest j s l at)) (split-at end.rest [] j s at)

  values : all_steps (spares_values sh.fields) (view_of world.zero).log ≡ true
  values = world.first.one.values

  takes_lent : TakesLent sh es 0 whole.root
  takes_lent =
      record {
        history = record { allowed = whole.run.allowed; sound = whole.run.sound };
        below = omega arith;
        lends = λ k. ⊎_elim (λ z. inl z.0) (λ z. inr z) (whole.kept k);
        lent = each_log (λ (l : List Entry). IsThroughLent 0 l) (none-told sh.fields).through (zero-through sh.fields (view_of world.zero).log values) (λ l t. t.through);
        turns = each_log (λ (l : List Entry). takes_turns false l ≡ true) refl (zero-turns sh.fields false (view_of world.zero).log values) (λ l t. t.turns);
        unstored = each_log (λ (l : List Entry). all_steps stores_none l ≡ true) refl (zero-stores sh.fields (view_of world.zero).log values) (λ l t. t.unstored);
        made = each_log (λ (l : List Entry). all_steps (makes_zero sh.fields) l ≡ true) refl (zero-zeros sh.fields (view_of world.zero).log values) (λ l t. t.zeros) whole.root.section;
      }

  keeps_pair : KeepsPair sh es 0 whole.root
  keeps_pair =
      record {
        takes = takes_lent;
        pairs = each_log (λ (l : List Entry). fits_pairs false None l ≡ true) refl (zero-pairs sh.fields false (view_of world.zero).log values world.first.fields) (λ l t. t.pairs);
        stored = each_log (λ (l : List Entry). IsStoredLent 0 l) (none-told sh.fields).stored (zero-stored (view_of world.zero).log world.first.fields) (λ l t. t.stored);
      }

-- both threads visited the lock so many times
pub guarded : ThreadsRun → LockByLog → PairByLog → (world : SharedWorld) (a b : SharedMutator) (w : Words) (end : IsSharedEnd world (a ∷ b ∷ []) [] w) (n : ℕ)
    → VisitsRoot (arc_value world.heap).shape.fields (n + n) (view_of a.seat).log → VisitsRoot (arc_value world.heap).shape.fields (n + n) (view_of b.seat).log → IsGuarded n w
guarded runs alone pair world a b w end n p q =
    let r = runs world (a ∷ b ∷ []) [] w end in
    let fields : ℕ = (arc_value world.heap).shape.fields in
    record {
      world = world;
      first = a;
      second = b;
      ended = end;
      past = r.0;
      whole = r.1;
      visits = ((told fields (n + n) (view_of a.seat).log p).won, (told fields (n + n) (view_of b.seat).log q).won);
      alone = alone (arc_value world.heap).shape r.0 0 r.1.root (takes_lent world a b w end r.0 r.1 (n + n) p q);
      pair =
          let keeps = keeps_pair world a b w end r.0 r.1 (n + n) p q in
          let finds = finds-whole alone pair (arc_value world.heap).shape r.0 0 r.1.root keeps in
          (finds, reads-alike alone pair (arc_value world.heap).shape r.0 0 r.1.root keeps r.1.tells finds);
    }
