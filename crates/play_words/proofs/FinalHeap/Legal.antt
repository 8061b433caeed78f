-- A final heap has a dump.
use Rattle.std.proofs.Common.{◌≡◌, ◌⊎◌, inl, inr, ℕ, zero, suc, ◌+◌, ◌-◌, ◌*◌, ◌/◌, ◌%◌, ◌<◌, ◌≤◌, ap, sym, ◌∙◌, subst, arith, List, length, map, get_or}
use Rattle.std.specs.Prelude.{Some, slice_get, Contains}
use Rattle.std.proofs.lemmas.Bool.{cases_lt}
use Rattle.std.proofs.lemmas.List.{get_or-map, length-map}
use Rattle.std.proofs.lemmas.Option.{slice_get-get_or}
use Rattle.plain_heap.specs.declared.object.Ref.{Ref}
use Rattle.plain_heap.specs.declared.object.Ref.TheVariants as refs
use Rattle.plain_heap.specs.declared.object.Object.{Object as PlainObject}
use Rattle.plain_heap.specs.Sections.{Sections, section_numbers, executed_total}
use Rattle.plain_heap.specs.PlainRun.{last_heap, last_heaps}
use Rattle.plain_heap.specs.Paths.{Name, Names, ComesBefore, IsReachable, Survivor, name_of, HasValue}
use Rattle.heap_dump.specs.Final.{DumpedHeap, Object, object, blank, IsWithinSection, RefersWithin, HasDump}
use Rattle.play_end.proofs.Deciding.{never, map-to}
use Rattle.play_end.proofs.SectionLists.{contains_got, object-there, reached-object}
use Rattle.play_words.specs.Final.{name_in, survivor_in, IsNumberOf, IsFinalHeap}
use Rattle.play_words.proofs.FinalHeap.Objects.{number-few}

-- an object that a reference of a section names is of this section or of the catalogue
named-within : (section : ℕ) (ref : Ref) (o : Object) → Names section ref (name_in o) → IsWithinSection section o
named-within section refs.Nil o e = absurd e
named-within section (refs.Own n) o e = inl e.0
named-within zero (refs.Cat n) o e = absurd e
named-within (suc section) (refs.Cat n) o e = inr e.0

within : (h : DumpedHeap) (section : ℕ) (ref : Ref) (n : ℕ) → IsNumberOf h section ref n → RefersWithin h section n
within h section ref n (inl nil) = inl nil.1
within h section ref n (inr goes) = inr (goes.0, goes.1, named-within section ref (object h (n - 1)) goes.2)

-- what limits a script and its heap
pub record IsLimited (s : Sections) (h : DumpedHeap) : Type 0 where
  pub fields : (1 ≤ s.fields) × (s.fields ≤ 16)
  pub sections : length (section_numbers s) ≤ 33
  pub short : executed_total s ≤ 2000000
  pub count : length h.records ≤ 65536
  pub values : (k : ℕ) (o : PlainObject) → k < length h.records → slice_get (last_heap s (object h k).section).objects (object h k).number ≡ Some o → o.value < 4294967296

module _ (s : Sections) (h : DumpedHeap) (f : IsFinalHeap s h) where
  -- names in order
  pub names : List Name
  names = map name_of (map survivor_in h.records)

  record-there : (k : ℕ) → k < length h.records → Contains h.records (object h k)
  record-there k below = contains_got h.records k (object h k) (slice_get-get_or h.records k blank below)

  -- each record's object is reachable
  pub record-reached : (k : ℕ) → k < length h.records → IsReachable (last_heaps s) (name_in (object h k))
  record-reached k below = (f.survivors.reachable.each (name_in (object h k))).0 (map-to name_of (map survivor_in h.records) (survivor_in (object h k)) (map-to survivor_in h.records (object h k) (record-there k below)))

  pub record-object : (k : ℕ) → k < length h.records → ((object h k).section < length (section_numbers s)) × ((o : PlainObject) × (slice_get (last_heap s (object h k).section).objects (object h k).number ≡ Some o))
  record-object k below = reached-object s (name_in (object h k)) (record-reached k below)

  -- the value of a record is that of its object
  pub record-value : (k : ℕ) → k < length h.records → (o : PlainObject) × (slice_get (last_heap s (object h k).section).objects (object h k).number ≡ Some o) × (o.value ≡ (object h k).value)
  record-value k below =
      let listed : List Survivor = map survivor_in h.records in
      let here : get_or listed k (survivor_in blank) ≡ survivor_in (object h k) = get_or-map survivor_in h.records k blank (survivor_in blank) below in
      let v : HasValue (last_heaps s) (survivor_in (object h k)) = subst (λ (x : Survivor). HasValue (last_heaps s) x) here (f.survivors.values k (survivor_in blank) (omega (arith, below, length-map h.records survivor_in))) in
      (v.0, (object-there s (name_in (object h k)) v.0 v.1).1, v.2)

  pub name-at : (k : ℕ) (d : Name) → k < length h.records → get_or (map name_of (map survivor_in h.records)) k d ≡ name_in (object h k)
  name-at k d below =
      get_or-map name_of (map survivor_in h.records) k (survivor_in blank) d (omega (arith, below, length-map h.records survivor_in))
      ∙ ap name_of (get_or-map survivor_in h.records k blank (survivor_in blank) below)

  -- no two records have one name
  pub records-apart : (j k : ℕ) → j < length h.records → k < length h.records → name_in (object h j) ≡ name_in (object h k) → j ≡ k
  records-apart j k in-j in-k one = of (cases_lt j k) (cases_lt k j)
    where
      d : Name
      d = name_in blank

      total : length (map name_of (map survivor_in h.records)) ≡ length h.records
      total = length-map (map survivor_in h.records) name_of ∙ length-map h.records survivor_in

      before : (i l : ℕ) → i < l → l < length h.records → i < length h.records → name_in (object h i) ≡ name_in (object h l) → ⊥
      before i l less in-l in-i is =
          never (name_in (object h l))
          (subst (λ (n : Name). ComesBefore n (name_in (object h l))) (name-at i d in-i ∙ is)
          (subst (λ (n : Name). ComesBefore (get_or (map name_of (map survivor_in h.records)) i d) n) (name-at l d in-l) (f.survivors.reachable.ordered i l d less (omega (arith, in-l, total)))))

      of : (j < k) ⊎ (k ≤ j) → (k < j) ⊎ (j ≤ k) → j ≡ k
      of (inl less) other = absurd (before j k less in-k in-j one)
      of (inr less) (inl more) = absurd (before k j more in-j in-k (sym one))
      of (inr less) (inr more) = omega arith

  pub legal : IsLimited s h → HasDump h
  legal l = record {
    fields = (omega (arith, l.fields, f.fields), omega (arith, l.fields, f.fields));
    sections = (omega (arith, f.sections), omega (arith, f.sections, l.sections));
    count = l.count;
    variables = f.count;
    roots = roots;
    objects = λ k below. record {
      section = omega (arith, (record-object k below).0, f.sections);
      number = let o = record-object k below in number-few s (object h k).section (object h k).number o.1.0 l.short o.0 o.1.1;
      value = let v = record-value k below in omega (arith, l.values k v.0 below v.1, v.2);
      fields = (f.objects k below).count ∙ sym f.fields;
      refs = λ i few. let o = record-object k below in within h (object h k).section _ (get_or (object h k).refs i 0) ((f.objects k below).each o.1.0 o.1.1 i (omega (arith, few, f.fields)));
    };
    rising = rising;
  }
    where
      roots : (i : ℕ) → i < 32 * h.sections → RefersWithin h (i / 32) (get_or h.roots i 0)
      roots i below =
          let place : 32 * (i / 32) + i % 32 ≡ i = omega arith in
          subst (λ (j : ℕ). RefersWithin h (i / 32) (get_or h.roots j 0)) place
          (within h (i / 32) _ (get_or h.roots (32 * (i / 32) + i % 32) 0) (f.variables (i / 32) (i % 32) (omega (arith, below)) (omega arith)))

      rising : (k : ℕ) → suc k < length h.records → ((object h k).section < (object h (suc k)).section) ⊎ (((object h k).section ≡ (object h (suc k)).section) × ((object h k).number < (object h (suc k)).number))
      rising k below =
          let d : Name = name_in blank in
          let order = f.survivors.reachable.ordered k (suc k) d (omega arith) (omega (arith, below, length-map (map survivor_in h.records) name_of, length-map h.records survivor_in)) in
          subst (λ (n : Name). (n.section < (object h (suc k)).section) ⊎ ((n.section ≡ (object h (suc k)).section) × (n.number < (object h (suc k)).number))) (name-at k d (omega (arith, below)))
          (subst (λ (n : Name). ((get_or (map name_of (map survivor_in h.records)) k d).section < n.section) ⊎ (((get_or (map name_of (map survivor_in h.records)) k d).section ≡ n.section) × ((get_or (map name_of (map survivor_in h.records)) k d).number < n.number))) (name-at (suc k) d below) order)
