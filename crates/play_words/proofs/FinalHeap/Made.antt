-- What is made of the words is the final heap.
use Rattle.std.proofs.Common.{◌≡◌, ℕ, suc, ◌+◌, ◌*◌, ◌<◌, ◌≤◌, refl, ap, sym, ◌∙◌, subst, arith, List, [], ◌∷◌, length, map, get_or}
use Rattle.std.specs.Prelude.{Some, All, slice_get, slice_index, slice_index_or}
use Rattle.std.proofs.lemmas.List.{get_or-map, get_or-take, length-map, length-take-le}
use Rattle.std.proofs.lemmas.Option.{slice_get-get_or, slice_get_within}
use Rattle.plain_heap.specs.declared.object.Ref.TheVariants as refs
use Rattle.plain_heap.specs.declared.object.Object.{Object as PlainObject}
use Rattle.plain_heap.specs.PlainHeap.{variable}
use Rattle.plain_heap.specs.Sections.{Sections, section_numbers, executed_total}
use Rattle.plain_heap.specs.PlainRun.{last_heap, last_heaps}
use Rattle.plain_heap.specs.Paths.{Name, AreSurvivors, Survivor as Listed}
use Rattle.play_report.specs.Report.{survivor_of}
use Rattle.play_report.specs.declared.report.Report.{Report}
use Rattle.play_report.specs.declared.report.Survivor.{Survivor}
use Rattle.gc_table.specs.declared.words.Words.{Words}
use Rattle.heap_dump.specs.declared.final_heap.FinalRecord.{FinalRecord}
use Rattle.heap_dump.specs.Final.{DumpedHeap, Object, object, blank, HasDump}
use Rattle.heap_dump.specs.Told.{object_told, heap_told, EndsInNil}
use Rattle.play_words.specs.EndOfPlay.{IsEndOf}
use Rattle.play_words.specs.Final.{name_in, survivor_in, IsNumberOf, HasRefs, IsFinalHeap}
use Rattle.play_words.specs.DumpTelling.{IsSurvivor, cell_of_survivor, AreNumbers, dumped_word, field_word, AreRecords, IsRecord}
use Rattle.play_words.proofs.FinalHeap.Legal.{legal}
use Rattle.play_words.proofs.FinalHeap.Loops.{image-at}
use Rattle.play_words.proofs.FinalHeap.Reached.{named, are-placed}
use Rattle.play_words.proofs.FinalHeap.Told.{HasSurvivors, told-variable, told-field, told-rest, value-fits, root-count, root-within}

listed-same : (a b c d e f : ℕ) → a ≡ d → b ≡ e → c ≡ f → ◌≡◌ {A = Listed} (record { section = a; number = b; value = c }) (record { section = d; number = e; value = f })
listed-same a b c d e f x y z = cc

-- records that tell survivors one by one
told-survivors : (fields : ℕ) (ts : List FinalRecord) (ys : List Survivor) → length ts ≡ length ys
    → ((k : ℕ) (y : Survivor) (t : FinalRecord) → slice_get ys k ≡ Some y → slice_get ts k ≡ Some t → survivor_in (object_told fields t) ≡ survivor_of y) → map survivor_in (map (object_told fields) ts) ≡ map survivor_of ys
told-survivors fields [] [] long same = refl
told-survivors fields [] (y ∷ ys) long same = absurd (omega (arith, long))
told-survivors fields (t ∷ ts) [] long same = absurd (omega (arith, long))
told-survivors fields (t ∷ ts) (y ∷ ys) long same =
    ap (λ (x : Listed). x ∷ map survivor_in (map (object_told fields) ts)) (same 0 y t refl refl)
    ∙ ap (λ (l : List Listed). survivor_of y ∷ l) (told-survivors fields ts ys (omega (arith, long)) (λ k x u at there. same (suc k) x u at there))

-- the heap of these roots and records
abbrev pub made : Sections → List ℕ → List FinalRecord → DumpedHeap
made s roots records = heap_told s.fields (length (section_numbers s)) roots records

module _ (s : Sections) (r : Report) (w : Words) (e : IsEndOf s r w) (numbers roots : List ℕ) (records : List FinalRecord) (n : AreNumbers r (length w.idents.items) numbers) (few : s.fields ≤ 16)
    (rooted : roots ≡ map (dumped_word numbers) w.roots.items) (are : AreRecords numbers r w s.fields (length r.survivors.items) records) where
  record-at : (k : ℕ) → k < length records → (t : FinalRecord) × (slice_get records k ≡ Some t)
  record-at k below = let d : FinalRecord = record { section = 0; number = 0; value = 0; refs = [] } in (get_or records k d, slice_get-get_or records k d below)

  survivor-at : (k : ℕ) → k < length records → (y : Survivor) × IsSurvivor r k y
  survivor-at k below = let d : Survivor = record { section = 0; number = 0; value = 0 } in (get_or r.survivors.items k d, slice_get-get_or r.survivors.items k d (omega (arith, below, are.count)))

  object-at : (k : ℕ) (t : FinalRecord) → slice_get records k ≡ Some t → object (made s roots records) k ≡ object_told s.fields t
  object-at k t at = image-at (object_told s.fields) records t blank k at

  same-survivor : (k : ℕ) (y : Survivor) (t : FinalRecord) → IsSurvivor r k y → slice_get records k ≡ Some t → survivor_in (object_told s.fields t) ≡ survivor_of y
  same-survivor k y t here at = let is = are.each k y t here at in listed-same t.section t.number t.value y.section y.number y.value is.section is.number is.value

  record-count : length (made s roots records).records ≡ length records
  record-count = length-map records (object_told s.fields)

  held : HasSurvivors r (made s roots records)
  held = record { count = record-count ∙ are.count; each = each }
    where
      each : (k : ℕ) (y : Survivor) → IsSurvivor r k y → name_in (object (made s roots records) k) ≡ named y
      each k y here =
          let t = record-at k (omega (arith, slice_get_within r.survivors.items k y here, are.count)) in
          ap name_in (object-at k t.0 t.1) ∙ ap (λ (x : Listed). record { section = x.section; number = x.number }) (same-survivor k y t.0 here t.1)

  has-refs : (k : ℕ) → k < length (made s roots records).records → HasRefs s (made s roots records) k
  has-refs k inside = record { count = ap (λ (o : Object). length o.refs) is ∙ length-take-le s.fields t.0.refs (omega (arith, few, told.refs.count)); others = others; each = each }
    where
      h : DumpedHeap
      h = made s roots records

      below : k < length records
      below = omega (arith, inside, record-count)

      t : (t : FinalRecord) × (slice_get records k ≡ Some t)
      t = record-at k below

      y : (y : Survivor) × IsSurvivor r k y
      y = survivor-at k below

      is : object h k ≡ object_told s.fields t.0
      is = object-at k t.0 t.1

      told : IsRecord numbers r w s.fields y.0 t.0
      told = are.each k y.0 t.0 y.1 t.1

      name : name_in (object h k) ≡ named y.0
      name = held.each k y.0 y.1

      own : (o : PlainObject) → slice_get (last_heap s (object h k).section).objects (object h k).number ≡ Some o → slice_get (last_heap s y.0.section).objects y.0.number ≡ Some o
      own o there = ap (λ (x : Name). slice_get (last_heap s x.section).objects x.number) (sym name) ∙ there

      others : (o : PlainObject) → slice_get (last_heap s (object h k).section).objects (object h k).number ≡ Some o → (i : ℕ) → s.fields ≤ i → slice_index_or o.refs i refs.Nil ≡ refs.Nil
      others o there i late = told-rest s r w e k y.0 y.1 o (own o there) i late

      each : (o : PlainObject) → slice_get (last_heap s (object h k).section).objects (object h k).number ≡ Some o → (i : ℕ) → i < s.fields
          → IsNumberOf h (object h k).section (slice_index_or o.refs i refs.Nil) (get_or (object h k).refs i 0)
      each o there i low =
          let value : get_or (object h k).refs i 0 ≡ dumped_word numbers (field_word w s.fields (cell_of_survivor r y.0) i) = ap (λ (x : Object). get_or x.refs i 0) is ∙ (get_or-take s.fields t.0.refs i 0 low ∙ told.refs.each i low) in
          subst (λ (section : ℕ). IsNumberOf h section (slice_index_or o.refs i refs.Nil) (get_or (object h k).refs i 0)) (sym (ap (λ (x : Name). x.section) name))
          (subst (λ (m : ℕ). IsNumberOf h y.0.section (slice_index_or o.refs i refs.Nil) m) (sym value) (told-field s r w e numbers h n held k y.0 y.1 o (own o there) i low))

  root-at : (k : ℕ) → k < length w.roots.items → get_or roots k 0 ≡ dumped_word numbers (slice_index w.roots.items k)
  root-at k inside = ap (λ (l : List ℕ). get_or l k 0) rooted ∙ get_or-map (dumped_word numbers) w.roots.items k 0 0 inside

  pub final : IsFinalHeap s (made s roots records)
  final = record {
    fields = refl;
    sections = refl;
    survivors = subst (λ (l : List Listed). AreSurvivors (last_heaps s) l) (sym (told-survivors s.fields records r.survivors.items are.count same-survivor)) e.report.survivors;
    count = ap length rooted ∙ (length-map w.roots.items (dumped_word numbers) ∙ (root-count s r w e ∙ (let turned : length (section_numbers s) * 32 ≡ 32 * length (section_numbers s) = omega arith in turned)));
    variables = λ i v within low.
        subst (λ (m : ℕ). IsNumberOf (made s roots records) i (variable (last_heap s i) v) m) (sym (root-at (32 * i + v) (omega (arith, within, low, root-count s r w e))))
        (told-variable s r w e numbers (made s roots records) n held i v within low);
    objects = has-refs;
  }

  pub final-legal : 1 ≤ s.fields → length (section_numbers s) ≤ 33 → executed_total s ≤ 2000000 → HasDump (made s roots records)
  final-legal some sections short = legal s (made s roots records) final
      (record {
        fields = (some, few);
        sections = sections;
        short = short;
        count = omega (arith, record-count, are.count, (are-placed s r w e).few);
        values = λ k o inside there.
            let y = survivor-at k (omega (arith, inside, record-count)) in
            value-fits s r w e k y.0 y.1 o (ap (λ (x : Name). slice_get (last_heap s x.section).objects x.number) (sym (held.each k y.0 y.1)) ∙ there);
      })

  pub rest-nil : All (EndsInNil s.fields) records
  rest-nil k d below i late =
      let at : slice_get records k ≡ Some (get_or records k d) = slice_get-get_or records k d below in
      let y = survivor-at k below in
      (are.each k y.0 (get_or records k d) y.1 at).refs.rest i late

-- each root goes to a cell of the table
pub roots-within : (s : Sections) (r : Report) (w : Words) → IsEndOf s r w → (numbers roots : List ℕ) → length numbers ≡ length w.idents.items → roots ≡ w.roots.items → All (λ word. word ≤ length numbers) roots
roots-within s r w e numbers roots count same =
    subst (λ (l : List ℕ). All (λ word. word ≤ length numbers) l) (sym same) (λ k d below. omega (arith, count, root-within s r w e k d below))

-- what the heap that is made has to meet, and what it is
pub record IsMade (s : Sections) (fields sections : ℕ) (roots : List ℕ) (records : List FinalRecord) : Type 0 where
  pub legal : HasDump (heap_told fields sections roots records)
  pub rest : All (EndsInNil fields) records
  pub final : IsFinalHeap s (heap_told fields sections roots records)

-- the limits of a script
pub record IsShort (s : Sections) : Type 0 where
  pub some : 1 ≤ s.fields
  pub few : s.fields ≤ 16
  pub sections : length (section_numbers s) ≤ 33
  pub short : executed_total s ≤ 2000000

-- from what the calls tell: the same table, words, roots and records are borrowed several times
pub is-made : (s : Sections) (r : Report) (w : Words) (e : IsEndOf s r w) (cells fields sections : ℕ) (table one two words roots lent : List ℕ) (records given : List FinalRecord) → IsShort s
    → cells ≡ length w.idents.items → fields ≡ s.fields → sections ≡ length (section_numbers s) → AreNumbers r cells table
    → one ≡ table → words ≡ w.roots.items → roots ≡ map (dumped_word one) words → lent ≡ roots
    → two ≡ table → AreRecords two r w fields (length r.survivors.items) records → given ≡ records → IsMade s fields sections lent given
is-made s r w e cells fields sections table one two words roots lent records given limits count field_is section_is n one_is words_are rooted lent_is two_is are given_is =
    subst (λ (f : ℕ). IsMade s f sections lent given) (sym field_is)
    (subst (λ (k : ℕ). IsMade s s.fields k lent given) (sym section_is)
    (record {
      legal = final-legal s r w e table lent given n' limits.few rooted' are' limits.some limits.sections limits.short;
      rest = rest-nil s r w e table lent given n' limits.few rooted' are';
      final = final s r w e table lent given n' limits.few rooted' are';
    }))
  where
    n' : AreNumbers r (length w.idents.items) table
    n' = subst (λ (k : ℕ). AreNumbers r k table) count n

    rooted' : lent ≡ map (dumped_word table) w.roots.items
    rooted' = lent_is ∙ (rooted ∙ (ap (λ (t : List ℕ). map (dumped_word t) words) one_is ∙ ap (λ (l : List ℕ). map (dumped_word table) l) words_are))

    are' : AreRecords table r w s.fields (length r.survivors.items) given
    are' =
        subst (λ (l : List FinalRecord). AreRecords table r w s.fields (length r.survivors.items) l) (sym given_is)
        (subst (λ (f : ℕ). AreRecords table r w f (length r.survivors.items) records) field_is (subst (λ (t : List ℕ). AreRecords t r w fields (length r.survivors.items) records) two_is are))
