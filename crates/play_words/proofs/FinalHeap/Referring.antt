-- If a variable or a field of the plain heaps refers to the object of a record, that of the final heap refers to the record.
use Rattle.std.proofs.Common.{◌≡◌, ◌⊎◌, inl, inr, ℕ, suc, ◌+◌, ◌-◌, ◌*◌, ◌<◌, ◌≤◌, refl, ap, sym, ◌∙◌, subst, arith, List, [], ◌∷◌, length, get_or}
use Rattle.std.specs.Prelude.{Option, Some, None, slice_get, slice_index_or}
use Rattle.std.proofs.lemmas.Bool.{cases_lt}
use Rattle.std.proofs.Math.ListN.{length-set}
use Rattle.std.proofs.lemmas.List.{get_or_default}
use Rattle.plain_heap.specs.declared.object.Ref.{Ref}
use Rattle.plain_heap.specs.declared.object.Ref.TheVariants as refs
use Rattle.plain_heap.specs.declared.object.Object.{Object as PlainObject}
use Rattle.plain_heap.specs.declared.operation.Op.{Op}
use Rattle.plain_heap.specs.declared.operation.Op.TheVariants as ops
use Rattle.plain_heap.specs.PlainHeap.{Heap as Plain, empty_heap, variable}
use Rattle.plain_heap.specs.PlainStep.{heap_after, stored_at, replaced_by, with_field, with_value, followed, lent_variable}
use Rattle.plain_heap.specs.Sections.{Sections, Execution, parts_of}
use Rattle.plain_heap.specs.PlainRun.{heap_from, heap_after_parts, last_heap, last_heaps, ops_of, seen_catalogue}
use Rattle.plain_heap.specs.Paths.{Names, IsHeld, RefersTo}
use Rattle.gc_table.proofs.Stands.StandsReached.{names-one}
use Rattle.heap_dump.specs.Final.{DumpedHeap, object}
use Rattle.play_end.proofs.SectionLists.{last-section, object-there, of-section}
use Rattle.play_words.specs.Final.{name_in, IsNumberOf, IsFinalHeap}
use Rattle.play_words.proofs.FinalHeap.Legal.{records-apart}

-- ---- a heap has 32 variables

replaced-variables : (h : Plain) (n : ℕ) (change : PlainObject → PlainObject) (o : Option PlainObject) → length (replaced_by h n change o).variables ≡ length h.variables
replaced-variables h n change None = refl
replaced-variables h n change (Some o) = refl

stored-variables : (h : Plain) (r : Ref) (change : PlainObject → PlainObject) → length (stored_at h r change).variables ≡ length h.variables
stored-variables h refs.Nil change = refl
stored-variables h (refs.Cat n) change = refl
stored-variables h (refs.Own n) change = replaced-variables h n change (slice_get h.objects n)

variables-after : (h : Plain) (catalogue : Option Plain) (op : Op) → length (heap_after h catalogue op).variables ≡ length h.variables
variables-after h catalogue (ops.New v n) = length-set h.variables v (refs.Own (length h.objects))
variables-after h catalogue (ops.Let v w) = length-set h.variables v (variable h w)
variables-after h catalogue (ops.Nil v) = length-set h.variables v refs.Nil
variables-after h catalogue (ops.Set v i w) = stored-variables h (variable h v) (λ o. with_field o i (variable h w))
variables-after h catalogue (ops.Get v w i) = length-set h.variables v (followed h catalogue (variable h w) i)
variables-after h catalogue (ops.Cat v c) = length-set h.variables v (lent_variable catalogue c)
variables-after h catalogue (ops.Put v n) = stored-variables h (variable h v) (λ o. with_value o n)
variables-after h catalogue (ops.Say v) = refl
variables-after h catalogue (ops.Sum v i limit) = refl
variables-after h catalogue ops.Collect = refl

variables-from : (catalogue : Option Plain) (h : Plain) (os : List Op) → length (heap_from catalogue h os).variables ≡ length h.variables
variables-from catalogue h [] = refl
variables-from catalogue h (op ∷ os) = variables-from catalogue (heap_after h catalogue op) os ∙ variables-after h catalogue op

variables-in : (s : Sections) (w z : ℕ) (h : Plain) (parts : List (List Execution)) → length (heap_after_parts s w z h parts).variables ≡ length h.variables
variables-in s w z h [] = refl
variables-in s w z h (part ∷ parts) = variables-in s w (z + 1) (heap_from (seen_catalogue s w z) h (ops_of part)) parts ∙ variables-from (seen_catalogue s w z) h (ops_of part)

last-variables : (s : Sections) (w : ℕ) → length (last_heap s w).variables ≡ 32
last-variables s w = variables-in s w 1 (empty_heap s.fields w) (parts_of s w)

-- ---- what refers to the object of a record

-- the number of a reference to it is that of the record
number-of-record : (h : DumpedHeap) (section : ℕ) (ref : Ref) (n k : ℕ) → ((i j : ℕ) → i < length h.records → j < length h.records → name_in (object h i) ≡ name_in (object h j) → i ≡ j)
    → k < length h.records → IsNumberOf h section ref n → Names section ref (name_in (object h k)) → n ≡ suc k
number-of-record h section ref n k apart below (inl nil) names = absurd (subst (λ (r : Ref). Names section r (name_in (object h k))) nil.0 names)
number-of-record h section ref n k apart below (inr goes) names =
    let same : n - 1 ≡ k = apart (n - 1) k (omega (arith, goes.0, goes.1)) below (names-one section ref (name_in (object h (n - 1))) (name_in (object h k)) goes.2 names) in
    omega (arith, goes.0, same)

module _ (s : Sections) (h : DumpedHeap) (f : IsFinalHeap s h) where
  pub held-there : (k : ℕ) → k < length h.records → IsHeld (last_heaps s) (name_in (object h k)) → (i : ℕ) × (i < length h.roots) × (get_or h.roots i 0 ≡ suc k)
  held-there k below (heap, there, ref, (v, early, is), names) =
      let w = of-section (last_heap s) s heap there in
      let low : v < 32 = omega (arith, early, last-variables s w.0, ap (λ (p : Plain). length p.variables) w.2) in
      let ref_is : variable (last_heap s w.0) v ≡ ref = ap (λ (p : Plain). variable p v) w.2 ∙ (get_or_default heap.variables v refs.Nil ref early ∙ is) in
      let section : heap.section ≡ w.0 = ap (λ (p : Plain). p.section) (sym w.2) ∙ last-section s w.0 in
      let own : Names w.0 (variable (last_heap s w.0) v) (name_in (object h k)) =
      subst (λ (n : ℕ). Names n (variable (last_heap s w.0) v) (name_in (object h k))) section (subst (λ (r : Ref). Names heap.section r (name_in (object h k))) (sym ref_is) names) in
      let inside : w.0 < h.sections = omega (arith, w.1, f.sections) in (
        32 * w.0 + v,
        omega (arith, inside, low, f.count),
        number-of-record h w.0 (variable (last_heap s w.0) v) (get_or h.roots (32 * w.0 + v) 0) k (records-apart s h f) below (f.variables w.0 v inside low) own,
      )

  pub refers-there : (j k : ℕ) → j < length h.records → k < length h.records → RefersTo (last_heaps s) (name_in (object h j)) (name_in (object h k))
      → (i : ℕ) × (i < length (object h j).refs) × (get_or (object h j).refs i 0 ≡ suc k)
  refers-there j k in-j in-k (o, has, ref, (i, early, is), names) = of (cases_lt i s.fields)
    where
      there : slice_get (last_heap s (object h j).section).objects (object h j).number ≡ Some o
      there = (object-there s (name_in (object h j)) o has).1

      ref_is : slice_index_or o.refs i refs.Nil ≡ ref
      ref_is = get_or_default o.refs i refs.Nil ref early ∙ is

      of : (i < s.fields) ⊎ (s.fields ≤ i) → (n : ℕ) × (n < length (object h j).refs) × (get_or (object h j).refs n 0 ≡ suc k)
      of (inl low) = (
        i,
        omega (arith, low, (f.objects j in-j).count),
        number-of-record h (object h j).section (slice_index_or o.refs i refs.Nil) (get_or (object h j).refs i 0) k (records-apart s h f) in-k ((f.objects j in-j).each o there i low)
            (subst (λ (r : Ref). Names (object h j).section r (name_in (object h k))) (sym ref_is) names),
      )
      of (inr late) = absurd (subst (λ (r : Ref). Names (object h j).section r (name_in (object h k))) (sym ref_is ∙ (f.objects j in-j).others o there i late) names)
