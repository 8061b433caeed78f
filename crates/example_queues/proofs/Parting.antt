-- Lists that are parted at one place, seats that are left, and logs that change no object.
use Rattle.std.proofs.Common.{ℕ, ◌≡◌, ◌<◌, ◌∙◌, List, [], ◌∷◌, ◌++◌, ap, arith, drop, length, refl, subst, sym, take, true}
use Rattle.std.specs.Prelude.{slice_get}
use Rattle.std.specs.Arc.{arc_value}
use Rattle.std.proofs.Math.Seq.{take-append_seam}
use Rattle.std.proofs.lemmas.Bool.{and_from, and_parts, false≢true}
use Rattle.mark_core.specs.declared.kinds.Step.{Step}
use Rattle.mark_core.specs.declared.kinds.Step.TheVariants.{ExchangeField, ExchangeValue, StoreField, StoreValue}
use Rattle.gc_table.specs.Log.{all_steps}
use Rattle.gc_table.specs.Single.{spares_values}
use Rattle.gc_table.specs.declared.seat.Heap.{Heap}
use Rattle.gc_table.specs.declared.seat.HeapSeat.{HeapSeat}
use Rattle.gc_table.specs.declared.view.Entry.{Entry}
use Rattle.gc_table.proofs.History.Log.{drop-own}
use Rattle.managed_heap.specs.Gathering.{AreLeft}
use Rattle.managed_heap.specs.declared.sizes.Sizes.{Sizes}
use Rattle.queue_laws.specs.LentQueues.{LaysOut, keeps_objects}
use Rattle.shared_heap.specs.Closing.{HasLeft}
use Rattle.shared_heap.specs.Lending.{IsFreshSharer, IsSharedOpened, KeepsRest}
use Rattle.shared_heap.specs.Rooting.{spares_fields}
use Rattle.shared_heap.specs.declared.mutator.SharedMutator.{SharedMutator}
use Rattle.shared_heap.specs.declared.world.SharedWorld.{SharedWorld}
use Rattle.example_structures.specs.Fitting.{hands}
use Rattle.example_queues.specs.Teams.{AreNew}

-- the three mutators of a new world
pub are-new : (sizes : Sizes) (t u v w : SharedWorld) (a b c : SharedMutator) → IsSharedOpened sizes t → t.mutators.items ≡ a ∷ u.mutators.items → KeepsRest t u → u.mutators.items ≡ b ∷ v.mutators.items → KeepsRest u v → v.mutators.items ≡ c ∷ w.mutators.items → KeepsRest v w → AreNew w a b c
are-new sizes t u v w a b c opened one k two l three n =
    let heap : arc_value w.heap ≡ arc_value t.heap = ap (λ h. arc_value h) (n.heap ∙ (l.heap ∙ k.heap)) in
    let name : w.sizes.name ≡ sizes.name = ap (λ (s : Sizes). s.name) (n.sizes_are ∙ (l.sizes_are ∙ (k.sizes_are ∙ opened.sizes_are))) in
    let all : t.mutators.items ≡ a ∷ b ∷ c ∷ w.mutators.items = one ∙ ap (λ (s : List SharedMutator). a ∷ s) (two ∙ ap (λ (s : List SharedMutator). b ∷ s) three) in
    let first : IsFreshSharer (arc_value t.heap) sizes.name 1 a = opened.fresh 0 a (ap (λ (s : List SharedMutator). slice_get s 0) all) in
    let second : IsFreshSharer (arc_value t.heap) sizes.name 2 b = opened.fresh 1 b (ap (λ (s : List SharedMutator). slice_get s 1) all) in
    let third : IsFreshSharer (arc_value t.heap) sizes.name 3 c = opened.fresh 2 c (ap (λ (s : List SharedMutator). slice_get s 2) all) in
    record {
      first = subst (λ (z : Heap × ℕ). IsFreshSharer z.0 z.1 1 a) (λ i. (sym heap i, sym name i)) first;
      second = subst (λ (z : Heap × ℕ). IsFreshSharer z.0 z.1 2 b) (λ i. (sym heap i, sym name i)) second;
      maker = subst (λ (z : Heap × ℕ). IsFreshSharer z.0 z.1 3 c) (λ i. (sym heap i, sym name i)) third;
    }

-- two lists that are parted at the same place
pub same_parts : (xs ys zs ws : List Entry) → xs ++ ys ≡ zs ++ ws → length xs ≡ length zs → (xs ≡ zs) × (ys ≡ ws)
same_parts xs ys zs ws e long = (
  sym (take-append_seam xs ys) ∙ (ap (take (length xs)) e ∙ (ap (λ (n : ℕ). take n (zs ++ ws)) long ∙ take-append_seam zs ws)),
  sym (drop-own xs ys) ∙ (ap (drop (length xs)) e ∙ (ap (λ (n : ℕ). drop n (zs ++ ws)) long ∙ drop-own zs ws)),
)

pub none_parts : (xs ys : List Entry) → xs ++ ys ≡ [] → (xs ≡ []) × (ys ≡ [])
none_parts [] ys e = (refl, e)
none_parts (x ∷ xs) ys e = absurd (cc)

zero_keeps : (fields : ℕ) (step : Step) → spares_fields step ≡ true → spares_values fields step ≡ true → keeps_objects step ≡ true
zero_keeps fields (StoreField v i x) a b = absurd (false≢true a)
zero_keeps fields (ExchangeField v i x y) a b = absurd (false≢true a)
zero_keeps fields (StoreValue v n) a b = absurd (false≢true b)
zero_keeps fields (ExchangeValue v m n) a b = absurd (false≢true b)
zero_keeps fields step a b = refl

pub zero_all : (fields : ℕ) (es : List Entry) → all_steps spares_fields es ≡ true → all_steps (spares_values fields) es ≡ true → all_steps keeps_objects es ≡ true
zero_all fields [] a b = refl
zero_all fields (x ∷ xs) a b =
    let p = and_parts (spares_fields x.step) (all_steps spares_fields xs) a in
    let q = and_parts (spares_values fields x.step) (all_steps (spares_values fields) xs) b in
    and_from (keeps_objects x.step) (all_steps keeps_objects xs) (zero_keeps fields x.step p.0 q.0) (zero_all fields xs p.1 q.1)

pub lays_some : {n : ℕ} (es : List Entry) → LaysOut n 0 (hands 0) es → 0 < length es
lays_some [] l = absurd (false≢true l.first)
lays_some (x ∷ xs) l = omega arith

-- three seats, one for each mutator
pub three-left : (a b c : SharedMutator) (ss : List HeapSeat) → AreLeft HasLeft (a ∷ b ∷ c ∷ []) ss → (r : HeapSeat) × (s : HeapSeat) × (t : HeapSeat) × (ss ≡ r ∷ s ∷ t ∷ []) × HasLeft a r × HasLeft b s × HasLeft c t
three-left a b c [] k = absurd k
three-left a b c (r ∷ []) k = absurd k.1
three-left a b c (r ∷ s ∷ []) k = absurd k.1.1
three-left a b c (r ∷ s ∷ t ∷ []) k = (r, s, t, refl, k.0, k.1.0, k.1.1.0)
three-left a b c (r ∷ s ∷ t ∷ u ∷ ss) k = absurd k.1.1.1
