-- What the words tell: each root and each field of a survivor's cell is nil, or goes to a cell that can be reached.
use Rattle.std.proofs.Common.{◌≡◌, inl, inr, ℕ, zero, suc, ◌+◌, ◌-◌, ◌*◌, ◌<◌, ◌≤◌, refl, ap, sym, ◌∙◌, subst, arith, List, length, get_or}
use Rattle.std.specs.Prelude.{Some, slice_get, slice_index, slice_index_or}
use Rattle.std.proofs.Math.Nat.{mul-le-mul_right}
use Rattle.std.proofs.lemmas.List.{get_or_default}
use Rattle.std.proofs.lemmas.Option.{slice_get_within, same_Some}
use Rattle.mark_core.specs.declared.kinds.Shape.{Shape}
use Rattle.mark_core.specs.Cells.{field, IsReachableCell}
use Rattle.mark_core.specs.Closed.{IsReachableIn}
use Rattle.mark_core.specs.Variables.{roots_now}
use Rattle.mark_core.specs.Rules.HeapRules.{section_of_cell}
use Rattle.mark_core.proofs.HeldBlock.{roots-length}
use Rattle.mark_core.proofs.Exacts.ExactsDrain.{reach-root, reach-field}
use Rattle.plain_heap.specs.declared.object.Ref.{Ref}
use Rattle.plain_heap.specs.declared.object.Ref.TheVariants as refs
use Rattle.plain_heap.specs.declared.object.Object.{Object}
use Rattle.plain_heap.specs.PlainHeap.{variable}
use Rattle.plain_heap.specs.Sections.{Sections, section_numbers}
use Rattle.plain_heap.specs.PlainRun.{last_heap}
use Rattle.plain_heap.specs.Paths.{Name, Names}
use Rattle.play_report.specs.declared.report.Report.{Report}
use Rattle.play_report.specs.declared.report.Survivor.{Survivor}
use Rattle.gc_table.specs.declared.view.Meaning.{Meaning}
use Rattle.gc_table.specs.declared.words.Words.{Words}
use Rattle.gc_table.specs.StandsFor.{WordAgrees, name_at, object_count}
use Rattle.gc_table.specs.TableState.{TableState, meanings_of, section_at}
use Rattle.gc_table.proofs.Shown.{closed-shown}
use Rattle.heap_dump.specs.Final.{DumpedHeap as Dumped, object}
use Rattle.play_end.proofs.Alike.{alike-objects, alike-variables}
use Rattle.play_end.proofs.EndListed.{meaning-there, the_words}
use Rattle.play_words.specs.EndOfPlay.{IsEndOf}
use Rattle.play_words.specs.Final.{IsNumberOf, name_in}
use Rattle.play_words.specs.DumpTelling.{IsSurvivor, cell_of_survivor, AreNumbers, dumped_word, field_word, HasFields}
use Rattle.play_end.proofs.EndClosed.{end-count, end-positions}
use Rattle.play_words.proofs.FinalHeap.Closing.{last-alike, roots-are, fields-are, field-count}
use Rattle.play_words.proofs.FinalHeap.Reached.{named, end_state, stands, in-cell, cell-survivor, cell-exists, survivor-cell}

-- the records are those of the survivors
pub record HasSurvivors (r : Report) (h : Dumped) : Type 0 where
  pub count : length h.records ≡ length r.survivors.items
  pub each : (k : ℕ) (y : Survivor) → IsSurvivor r k y → name_in (object h k) ≡ named y

-- places of fields
room-for : (c cells fields : ℕ) → c < cells → c * fields + fields ≤ cells * fields
room-for c cells fields below = omega (arith, mul-le-mul_right {m = c + 1} {n = cells} fields (omega (arith, below)), expand c fields)
  where
    expand : (c fields : ℕ) → (c + 1) * fields ≡ c * fields + fields
    expand c fields = grind arith

module _ (s : Sections) (r : Report) (w : Words) (e : IsEndOf s r w) where
  -- a word that agrees with a reference, and goes to a cell that can be reached, is told as the number of the record
  pub told : (numbers : List ℕ) (h : Dumped) → AreNumbers r (length w.idents.items) numbers → HasSurvivors r h → (section word : ℕ) (ref : Ref)
      → WordAgrees (the_words (end_state s r w e)).identities (object_count (meanings_of (end_state s r w e).sections)) section word ref
      → ((c : ℕ) → word ≡ c + 1 → IsReachableIn (end_state s r w e).core c) → IsNumberOf h section ref (dumped_word numbers word)
  told numbers h n held section zero ref (inl nil) reach = inl (nil.1, refl)
  told numbers h n held section zero ref (inr goes) reach = absurd (omega (arith, goes.0))
  told numbers h n held section (suc c) ref (inl nil) reach = absurd (omega (arith, nil.0))
  told numbers h n held section (suc c) ref (inr goes) reach =
      let ids : List ℕ = (the_words (end_state s r w e)).identities in
      let y = cell-survivor s r w e c (reach c (omega arith)) in
      let is : slice_index numbers c ≡ y.0 + 1 = ap (slice_index numbers) (sym y.3) ∙ n.each y.0 y.1 y.2 in
      let back : suc c - 1 ≡ c = omega arith in
      let last : y.0 ≡ y.0 + 1 - 1 = omega arith in
      let same : name_at ids (suc c - 1) ≡ name_in (object h (y.0 + 1 - 1)) =
      ap (name_at ids) (back ∙ sym y.3) ∙ ((in-cell s r w e y.0 y.1 y.2).1 ∙ (sym (held.each y.0 y.1 y.2) ∙ ap (λ (j : ℕ). name_in (object h j)) last)) in
      subst (λ (m : ℕ). IsNumberOf h section ref m) (sym is)
      (inr (omega arith, omega (arith, slice_get_within r.survivors.items y.0 y.1 y.2, held.count), subst (λ (name : Name). Names section ref name) same goes.1))

  -- no root lags any more
  shown : roots_now (the_words (end_state s r w e)).roots (end_state s r w e).core.seats ≡ (the_words (end_state s r w e)).roots
  shown = closed-shown e.shape e.seats w e.closed.end (omega (arith, e.closed.made.sections, e.closed.made.seated))

  -- a root goes to a cell that can be reached
  pub root-reaches : (k c : ℕ) → k < length w.roots.items → slice_index w.roots.items k ≡ c + 1 → IsReachableIn (end_state s r w e).core c
  root-reaches k c inside goes =
      let x : TableState = end_state s r w e in
      let same : w.roots.items ≡ (the_words x).roots = roots-are s e.shape e.seats w e.closed in
      subst (λ (rs : List ℕ). IsReachableCell x.core.shape rs (the_words x).fields c) (sym shown)
      (reach-root x.core.shape (the_words x).roots (the_words x).fields k c (subst (λ (l : List ℕ). k < length l) same inside) (ap (λ (l : List ℕ). slice_index l k) (sym same) ∙ goes))

  pub root-count : length w.roots.items ≡ length (section_numbers s) * 32
  root-count =
      let x : TableState = end_state s r w e in
      let none : x.core.shape.slots ≡ 0 = ap (λ (h : Shape). h.slots) e.closed.end.shape ∙ e.closed.made.slots in
      let all : x.core.shape.sections ≡ length (section_numbers s) = ap (λ (h : Shape). h.sections) e.closed.end.shape ∙ e.closed.made.sections in
      let spare : (n : ℕ) → n * 32 + n * 0 ≡ n * 32 = λ n. omega arith in
      ap length (roots-are s e.shape e.seats w e.closed)
      ∙ (roots-length x.core e.closed.end.whole.core ∙ (ap (λ (k : ℕ). x.core.shape.sections * 32 + x.core.shape.sections * k) none ∙ (spare x.core.shape.sections ∙ ap (λ (n : ℕ). n * 32) all)))

  pub root-within : (k d : ℕ) → k < length w.roots.items → get_or w.roots.items k d ≤ length w.idents.items
  root-within k d inside = of (slice_index w.roots.items k) refl
    where
      of : (word : ℕ) → slice_index w.roots.items k ≡ word → get_or w.roots.items k d ≤ length w.idents.items
      of zero is = omega (arith, is, get_or_default w.roots.items k d 0 inside)
      of (suc c) is = omega (arith, is, get_or_default w.roots.items k d 0 inside, cell-exists s r w e c (root-reaches k c inside (is ∙ (let one : suc c ≡ c + 1 = omega arith in one))))

  -- a variable is told
  pub told-variable : (numbers : List ℕ) (h : Dumped) → AreNumbers r (length w.idents.items) numbers → HasSurvivors r h → (i v : ℕ) → i < length (section_numbers s) → v < 32
      → IsNumberOf h i (variable (last_heap s i) v) (dumped_word numbers (slice_index w.roots.items (32 * i + v)))
  told-variable numbers h n held i v within low =
      let x : TableState = end_state s r w e in
      let o = stands s r w e in
      let m : Meaning = (section_at x.sections i).meaning in
      let there = meaning-there s e.shape.cells (end-positions s) x i o within in
      let place : i * 32 + v ≡ 32 * i + v = omega arith in
      let inside : 32 * i + v < length w.roots.items = omega (arith, within, low, root-count) in
      let same : variable m.heap v ≡ variable (last_heap s i) v = ap (λ (l : List Ref). slice_index_or l v refs.Nil) (alike-variables m.heap (last_heap s i) (last-alike s e.shape.cells x i m o there)) in
      let word : slice_index (roots_now (the_words x).roots x.core.seats) (i * 32 + v) ≡ slice_index w.roots.items (32 * i + v) =
      ap (λ (l : List ℕ). slice_index l (i * 32 + v)) shown ∙ ap (slice_index (the_words x).roots) place ∙ ap (λ (l : List ℕ). slice_index l (32 * i + v)) (sym (roots-are s e.shape e.seats w e.closed)) in
      told numbers h n held i (slice_index w.roots.items (32 * i + v)) (variable (last_heap s i) v)
      (subst (λ (t : Ref). WordAgrees (the_words x).identities (object_count (meanings_of x.sections)) i (slice_index w.roots.items (32 * i + v)) t) same
      (subst (λ (t : ℕ). WordAgrees (the_words x).identities (object_count (meanings_of x.sections)) i t (variable m.heap v)) word ((e.closed.end.whole.stands o.heap.owned).roots_agree i m there v low)))
      (λ c goes. root-reaches (32 * i + v) c inside goes)

  -- this many fields
  field-shape : (end_state s r w e).core.shape.fields ≡ s.fields
  field-shape = ap (λ (h : Shape). h.fields) e.closed.end.shape ∙ e.closed.made.fields

  -- a field of a survivor's cell, as the words have it
  field-is : (c i : ℕ) → field (end_state s r w e).core.shape (the_words (end_state s r w e)).fields c i ≡ field_word w s.fields c i
  field-is c i =
      let x : TableState = end_state s r w e in
      ap (λ (n : ℕ). slice_index (the_words x).fields (c * n + i)) field-shape ∙ ap (λ (l : List ℕ). slice_index l (c * s.fields + i)) (sym (fields-are s e.shape e.seats w e.closed))

  pub field-reaches : (j : ℕ) (y : Survivor) → IsSurvivor r j y → (i c : ℕ) → i < s.fields → field_word w s.fields (cell_of_survivor r y) i ≡ c + 1 → IsReachableIn (end_state s r w e).core c
  field-reaches j y at i c few goes =
      let x : TableState = end_state s r w e in
      reach-field x.core.shape (roots_now (the_words x).roots x.core.seats) (the_words x).fields (cell_of_survivor r y) i c (survivor-cell s r w e j y at).1 (omega (arith, few, field-shape)) (field-is (cell_of_survivor r y) i ∙ goes)

  pub has-fields : (j : ℕ) (y : Survivor) → IsSurvivor r j y → HasFields w s.fields (length w.idents.items) (cell_of_survivor r y)
  has-fields j y at = record { few = omega (arith, field-shape, e.closed.end.whole.core.formed.shaped.fields); room = room; within = λ i few. of i few (field_word w s.fields (cell_of_survivor r y) i) refl }
    where
      below : cell_of_survivor r y < length w.idents.items
      below = cell-exists s r w e (cell_of_survivor r y) (survivor-cell s r w e j y at).1

      long : length w.fields.items ≡ length w.idents.items * s.fields
      long =
          field-count s e.shape e.seats w e.closed
          ∙ (ap (λ (n : ℕ). n * e.shape.fields) (sym (end-count s e.shape.cells e.shape e.seats w e.closed)) ∙ ap (λ (n : ℕ). length w.idents.items * n) e.closed.made.fields)

      room : cell_of_survivor r y * s.fields + s.fields ≤ length w.fields.items
      room = subst (λ (n : ℕ). cell_of_survivor r y * s.fields + s.fields ≤ n) (sym long) (room-for (cell_of_survivor r y) (length w.idents.items) s.fields below)

      of : (i : ℕ) → i < s.fields → (word : ℕ) → field_word w s.fields (cell_of_survivor r y) i ≡ word → field_word w s.fields (cell_of_survivor r y) i ≤ length w.idents.items
      of i few zero is = omega (arith, is)
      of i few (suc c) is = omega (arith, is, cell-exists s r w e c (field-reaches j y at i c few (is ∙ (let one : suc c ≡ c + 1 = omega arith in one))))

  -- the object of a survivor, and how its fields are told
  pub told-field : (numbers : List ℕ) (h : Dumped) → AreNumbers r (length w.idents.items) numbers → HasSurvivors r h → (j : ℕ) (y : Survivor) → IsSurvivor r j y
      → (o : Object) → slice_get (last_heap s y.section).objects y.number ≡ Some o → (i : ℕ) → i < s.fields
      → IsNumberOf h y.section (slice_index_or o.refs i refs.Nil) (dumped_word numbers (field_word w s.fields (cell_of_survivor r y) i))
  told-field numbers h n held j y at o there i few =
      let x : TableState = end_state s r w e in
      let ids : List ℕ = (the_words x).identities in
      let cell = (survivor-cell s r w e j y at).0 in
      let m : Meaning = cell.2.0 in
      let holds = cell.2.2 in
      let alike = last-alike s e.shape.cells x y.section m (stands s r w e) cell.2.1 in
      let own : holds.object ≡ o =
      same_Some holds.object o (sym holds.there ∙ (ap (λ (k : Name). slice_get m.heap.objects k.number) cell.1 ∙ (ap (λ (os : List Object). slice_get os y.number) (alike-objects m.heap (last_heap s y.section) alike) ∙ there))) in
      let section : section_of_cell ids (cell_of_survivor r y) ≡ y.section = ap (λ (k : Name). k.section) cell.1 in
      told numbers h n held y.section (field_word w s.fields (cell_of_survivor r y) i) (slice_index_or o.refs i refs.Nil)
      (subst (λ (k : ℕ). WordAgrees ids (object_count (meanings_of x.sections)) k (field_word w s.fields (cell_of_survivor r y) i) (slice_index_or o.refs i refs.Nil)) section
      (subst (λ (p : Object). WordAgrees ids (object_count (meanings_of x.sections)) (section_of_cell ids (cell_of_survivor r y)) (field_word w s.fields (cell_of_survivor r y) i) (slice_index_or p.refs i refs.Nil)) own
      (subst (λ (t : ℕ). WordAgrees ids (object_count (meanings_of x.sections)) (section_of_cell ids (cell_of_survivor r y)) t (slice_index_or holds.object.refs i refs.Nil)) (field-is (cell_of_survivor r y) i) (holds.each_field i (omega (arith, few, field-shape))))))
      (λ c goes. field-reaches j y at i c few goes)

  -- by no other field does it refer to anything
  pub told-rest : (j : ℕ) (y : Survivor) → IsSurvivor r j y → (o : Object) → slice_get (last_heap s y.section).objects y.number ≡ Some o → (i : ℕ) → s.fields ≤ i
      → slice_index_or o.refs i refs.Nil ≡ refs.Nil
  told-rest j y at o there i late =
      let x : TableState = end_state s r w e in
      let cell = (survivor-cell s r w e j y at).0 in
      let m : Meaning = cell.2.0 in
      let holds = cell.2.2 in
      let alike = last-alike s e.shape.cells x y.section m (stands s r w e) cell.2.1 in
      let own : holds.object ≡ o =
      same_Some holds.object o (sym holds.there ∙ (ap (λ (k : Name). slice_get m.heap.objects k.number) cell.1 ∙ (ap (λ (os : List Object). slice_get os y.number) (alike-objects m.heap (last_heap s y.section) alike) ∙ there))) in
      subst (λ (p : Object). slice_index_or p.refs i refs.Nil ≡ refs.Nil) own (holds.rest i (omega (arith, late, field-shape)))

  -- its value fits
  pub value-fits : (j : ℕ) (y : Survivor) → IsSurvivor r j y → (o : Object) → slice_get (last_heap s y.section).objects y.number ≡ Some o → o.value < 4294967296
  value-fits j y at o there =
      let x : TableState = end_state s r w e in
      let cell = (survivor-cell s r w e j y at).0 in
      let m : Meaning = cell.2.0 in
      let alike = last-alike s e.shape.cells x y.section m (stands s r w e) cell.2.1 in
      ((e.closed.end.whole.stands (stands s r w e).heap.owned).numbered y.section m cell.2.1).4 y.number o (ap (λ (os : List Object). slice_get os y.number) (alike-objects m.heap (last_heap s y.section) alike) ∙ there)
