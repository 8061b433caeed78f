-- A script has one final heap.
use Rattle.std.proofs.Common.{◌≡◌, inl, inr, ℕ, ◌+◌, ◌-◌, ◌*◌, ◌/◌, ◌%◌, ◌<◌, ap, sym, ◌∙◌, subst, arith, List, length, map, get_or}
use Rattle.std.specs.Prelude.{Some, slice_get, slice_index_or}
use Rattle.std.proofs.lemmas.List.{ext_get_or, length-map}
use Rattle.std.proofs.lemmas.Option.{same_Some}
use Rattle.plain_heap.specs.declared.object.Ref.{Ref}
use Rattle.plain_heap.specs.declared.object.Ref.TheVariants as refs
use Rattle.plain_heap.specs.declared.object.Object.{Object as PlainObject}
use Rattle.plain_heap.specs.PlainHeap.{variable}
use Rattle.plain_heap.specs.Sections.{Sections}
use Rattle.plain_heap.specs.PlainRun.{last_heap}
use Rattle.plain_heap.specs.Paths.{Name, Names, name_of}
use Rattle.gc_table.proofs.Stands.StandsReached.{names-one}
use Rattle.heap_dump.specs.Final.{Object, DumpedHeap, object, blank}
use Rattle.play_end.proofs.Deciding.{same-names}
use Rattle.play_words.specs.Final.{name_in, survivor_in, IsNumberOf, IsFinalHeap}
use Rattle.play_words.specs.Laws.{OneFinalHeap}
use Rattle.play_words.proofs.FinalHeap.Legal.{record-value, record-object, records-apart, name-at}

-- a reference has one number if no name stands twice
number-one : (a b : DumpedHeap) (section : ℕ) (ref : Ref) (m n : ℕ) → IsNumberOf a section ref m → IsNumberOf b section ref n → length a.records ≡ length b.records
    → ((k : ℕ) → k < length b.records → name_in (object a k) ≡ name_in (object b k)) → ((j k : ℕ) → j < length b.records → k < length b.records → name_in (object b j) ≡ name_in (object b k) → j ≡ k) → m ≡ n
number-one a b section ref m n (inl x) (inl y) long same apart = x.1 ∙ sym y.1
number-one a b section ref m n (inl x) (inr y) long same apart = absurd (subst (λ (r : Ref). Names section r (name_in (object b (n - 1)))) x.0 y.2)
number-one a b section ref m n (inr x) (inl y) long same apart = absurd (subst (λ (r : Ref). Names section r (name_in (object a (m - 1)))) y.0 x.2)
number-one a b section ref m n (inr x) (inr y) long same apart =
    let one : name_in (object b (m - 1)) ≡ name_in (object b (n - 1)) =
    sym (same (m - 1) (omega (arith, x.0, x.1, long))) ∙ names-one section ref (name_in (object a (m - 1))) (name_in (object b (n - 1))) x.2 y.2 in
    omega (arith, x.0, y.0, apart (m - 1) (n - 1) (omega (arith, x.0, x.1, long)) (omega (arith, y.0, y.1)) one)

module _ (s : Sections) (a b : DumpedHeap) (f : IsFinalHeap s a) (g : IsFinalHeap s b) where
  names-same : map name_of (map survivor_in a.records) ≡ map name_of (map survivor_in b.records)
  names-same =
      same-names (map name_of (map survivor_in a.records)) (map name_of (map survivor_in b.records)) f.survivors.reachable.ordered g.survivors.reachable.ordered
      (λ n c. (g.survivors.reachable.each n).1 ((f.survivors.reachable.each n).0 c)) (λ n c. (f.survivors.reachable.each n).1 ((g.survivors.reachable.each n).0 c))

  long : length a.records ≡ length b.records
  long =
      sym (length-map (map survivor_in a.records) name_of ∙ length-map a.records survivor_in)
      ∙ (ap length names-same ∙ (length-map (map survivor_in b.records) name_of ∙ length-map b.records survivor_in))

  same : (k : ℕ) → k < length b.records → name_in (object a k) ≡ name_in (object b k)
  same k below =
      let d : Name = name_in blank in
      sym (name-at s a f k d (omega (arith, below, long))) ∙ (ap (λ (l : List Name). get_or l k d) names-same ∙ name-at s b g k d below)

  apart : (j k : ℕ) → j < length b.records → k < length b.records → name_in (object b j) ≡ name_in (object b k) → j ≡ k
  apart = records-apart s b g

  roots-same : a.roots ≡ b.roots
  roots-same = ext_get_or 0 a.roots b.roots (omega (arith, f.count, g.count, f.sections, g.sections)) each
    where
      each : (i : ℕ) → i < length a.roots → get_or a.roots i 0 ≡ get_or b.roots i 0
      each i below =
          let place : 32 * (i / 32) + i % 32 ≡ i = omega arith in
          subst (λ (j : ℕ). get_or a.roots j 0 ≡ get_or b.roots j 0) place
          (number-one a b (i / 32) (variable (last_heap s (i / 32)) (i % 32)) (get_or a.roots (32 * (i / 32) + i % 32) 0) (get_or b.roots (32 * (i / 32) + i % 32) 0)
          (f.variables (i / 32) (i % 32) (omega (arith, below, f.count)) (omega arith)) (g.variables (i / 32) (i % 32) (omega (arith, below, f.count, f.sections, g.sections)) (omega arith)) long same apart)

  object-same : (k : ℕ) → k < length b.records → object a k ≡ object b k
  object-same k below = whole (object a k) (object b k) (ap (λ (n : Name). n.section) (same k below)) (ap (λ (n : Name). n.number) (same k below)) values told
    where
      inside : k < length a.records
      inside = omega (arith, below, long)

      whole : (x y : Object) → x.section ≡ y.section → x.number ≡ y.number → x.value ≡ y.value → x.refs ≡ y.refs → x ≡ y
      whole x y p q r t =
          ap (λ (n : ℕ). record x { section = n }) p
          ∙ (ap (λ (n : ℕ). record { section = y.section; number = n; value = x.value; refs = x.refs }) q
          ∙ (ap (λ (n : ℕ). record { section = y.section; number = y.number; value = n; refs = x.refs }) r ∙ ap (λ (l : List ℕ). record { section = y.section; number = y.number; value = y.value; refs = l }) t))

      at : (o : PlainObject) → slice_get (last_heap s (object a k).section).objects (object a k).number ≡ Some o → slice_get (last_heap s (object b k).section).objects (object b k).number ≡ Some o
      at o there = ap (λ (n : Name). slice_get (last_heap s n.section).objects n.number) (sym (same k below)) ∙ there

      values : (object a k).value ≡ (object b k).value
      values =
          let v = record-value s a f k inside in
          let u = record-value s b g k below in
          sym v.2 ∙ (ap (λ (o : PlainObject). o.value) (same_Some v.0 u.0 (sym (at v.0 v.1) ∙ u.1)) ∙ u.2)

      told : (object a k).refs ≡ (object b k).refs
      told = ext_get_or 0 (object a k).refs (object b k).refs ((f.objects k inside).count ∙ sym (g.objects k below).count) each
        where
          each : (i : ℕ) → i < length (object a k).refs → get_or (object a k).refs i 0 ≡ get_or (object b k).refs i 0
          each i few =
              let o = record-object s a f k inside in
              let low : i < s.fields = omega (arith, few, (f.objects k inside).count) in
              number-one a b (object b k).section (slice_index_or o.1.0.refs i refs.Nil) (get_or (object a k).refs i 0) (get_or (object b k).refs i 0)
              (subst (λ (n : ℕ). IsNumberOf a n (slice_index_or o.1.0.refs i refs.Nil) (get_or (object a k).refs i 0)) (ap (λ (n : Name). n.section) (same k below)) ((f.objects k inside).each o.1.0 o.1.1 i low))
              ((g.objects k below).each o.1.0 (at o.1.0 o.1.1) i low) long same apart

  heaps-same : a ≡ b
  heaps-same = whole a b (f.fields ∙ sym g.fields) (f.sections ∙ sym g.sections) roots-same (ext_get_or blank a.records b.records long (λ k below. object-same k (omega (arith, below, long))))
    where
      whole : (x y : DumpedHeap) → x.fields ≡ y.fields → x.sections ≡ y.sections → x.roots ≡ y.roots → x.records ≡ y.records → x ≡ y
      whole x y p q r t =
          ap (λ (n : ℕ). record x { fields = n }) p
          ∙ (ap (λ (n : ℕ). record { fields = y.fields; sections = n; roots = x.roots; records = x.records }) q
          ∙ (ap (λ (l : List ℕ). record { fields = y.fields; sections = y.sections; roots = l; records = x.records }) r ∙ ap (λ (l : List Object). record { fields = y.fields; sections = y.sections; roots = y.roots; records = l }) t))

pub one_final : OneFinalHeap
one_final s a b f g = heaps-same s a b f g
