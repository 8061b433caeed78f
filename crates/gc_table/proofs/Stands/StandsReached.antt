-- The reachable objects and the reachable cells: each has the other.
use Rattle.mark_core.proofs.References.ReferencesNow.{the-roots}
use Rattle.mark_core.proofs.Lagging.{now-length}
use Rattle.std.proofs.Common.{ℕ, ◌≡◌, ◌+◌, ◌*◌, ◌/◌, ◌%◌, ◌<◌, ◌≤◌, List, [], ◌∷◌, length, arith, refl, sym, ap, ◌∙◌, subst, Some, ◌⊎◌, inl, inr, ◌-◌, ⊎_elim, zero, suc, get_or}
use Rattle.std.specs.Prelude.{slice_get, slice_index, slice_index_or, Contains}
use Rattle.std.proofs.lemmas.Bool.{cases_lt}
use Rattle.std.proofs.lemmas.List.{get_or_default, length-map}
use Rattle.std.proofs.lemmas.List.Elements.{Contains-get_or}
use Rattle.std.proofs.lemmas.Option.{same_Some, slice_get_within, slice_get-get_or, slice_get-map, get_or_from_slice_get}
use Rattle.mark_core.specs.Layout.{Words, words_of}
use Rattle.mark_core.specs.Cells.{field, IsCellPath}
use Rattle.mark_core.specs.Closed.{IsReachableIn}
use Rattle.mark_core.specs.Rules.HeapRules.{section_of_cell, number_of_cell}
use Rattle.mark_core.specs.Steps.{Core}
use Rattle.mark_core.specs.Laws.{IsCore}
use Rattle.mark_core.proofs.HeldBlock.{roots-length}
use Rattle.mark_core.proofs.Exacts.ExactsDrain.{reach-root, reach-field}
use Rattle.plain_heap.specs.declared.object.Ref.{Ref}
use Rattle.plain_heap.specs.declared.object.Ref.TheVariants as refs
use Rattle.plain_heap.specs.declared.object.Object.{Object}
use Rattle.plain_heap.specs.PlainHeap.{Heap, variable}
use Rattle.plain_heap.specs.Paths.{Name, Names, IsObject, IsHeld, RefersTo, IsReachable, HasObject}
use Rattle.plain_heap.proofs.Reaching.{of_reachable, reach_on}
use Rattle.gc_table.specs.StandsFor.{StandsFor, WordAgrees, HoldsObject, heaps_of, name_at, object_count}
use Rattle.gc_table.specs.declared.view.Meaning.{Meaning}
use Rattle.gc_table.specs.PlainSteps.{no_meaning, meaning_of}
use Rattle.gc_table.specs.Laws.{IsCellOfObject, ReachableObjectsHaveCells, ReachableCellsHaveObjects}
use Rattle.gc_table.proofs.Stands.StandsFrame.{named-object}
use Rattle.gc_table.proofs.Stands.StandsStores.{used-exists, reachable-used}
use Rattle.std.specs.Option.{option_map}

-- What words and references that agree name, in heaps and cells.
-- a reference names one object
pub names-one : (w : ℕ) (ref : Ref) (a b : Name) → Names w ref a → Names w ref b → a ≡ b
names-one w refs.Nil a b x y = absurd x
names-one w (refs.Own n) a b x y = same a b (x.0 ∙ sym y.0) (x.1 ∙ sym y.1)
  where
    same : (a b : Name) → a.section ≡ b.section → a.number ≡ b.number → a ≡ b
    same a b s n = ap (λ (k : ℕ). record { section = k; number = a.number }) s ∙ ap (λ (k : ℕ). record { section = b.section; number = k }) n
names-one zero (refs.Cat n) a b x y = absurd x
names-one (suc w) (refs.Cat n) a b x y = same a b (x.0 ∙ sym y.0) (x.1 ∙ sym y.1)
  where
    same : (a b : Name) → a.section ≡ b.section → a.number ≡ b.number → a ≡ b
    same a b s n = ap (λ (k : ℕ). record { section = k; number = a.number }) s ∙ ap (λ (k : ℕ). record { section = b.section; number = k }) n

-- the word of a reference that names an object names the object's cell
pub word-of : (ids : List ℕ) (p : ℕ → ℕ) (w word : ℕ) (ref : Ref) (name : Name) → WordAgrees ids p w word ref → Names w ref name → (x : ℕ) × (word ≡ x + 1) × (name_at ids x ≡ name) × (number_of_cell ids x < p (section_of_cell ids x))
word-of ids p w word ref name (inl z) names = absurd (subst (λ (r : Ref). Names w r name) z.1 names)
word-of ids p w word ref name (inr (some, own, below)) names = (word - 1, omega (arith, some), names-one w ref (name_at ids (word - 1)) name own names, below)

-- the reference of a word that names a cell names the cell's object
pub ref-of : (ids : List ℕ) (p : ℕ → ℕ) (w word x : ℕ) (ref : Ref) → word ≡ x + 1 → WordAgrees ids p w word ref → Names w ref (name_at ids x) × (number_of_cell ids x < p (section_of_cell ids x))
ref-of ids p w word x ref e (inl z) = absurd (omega (arith, e, z.0))
ref-of ids p w word x ref e (inr (some, own, below)) =
    let at : word - 1 ≡ x = omega (arith, e) in subst (λ y. Names w ref (name_at ids y) × (number_of_cell ids y < p (section_of_cell ids y))) at (own, below)

-- the heap of a section is one of all
pub heap-there : (ms : List Meaning) (w : ℕ) (m : Meaning) → slice_get ms w ≡ Some m → Contains (heaps_of ms) m.heap
heap-there ms w m g =
    let at : slice_get (heaps_of ms) w ≡ Some m.heap = slice_get-map (λ (x : Meaning). x.heap) ms w ∙ ap (option_map (λ (x : Meaning). x.heap)) g in
    (w, slice_get_within (heaps_of ms) w m.heap at, get_or_from_slice_get (heaps_of ms) w m.heap m.heap at)

-- each of all heaps is the heap of its section
pub there-heap : (c : Core) (ms : List Meaning) (heap : Heap) → StandsFor c ms → Contains (heaps_of ms) heap → (m : Meaning) × (slice_get ms heap.section ≡ Some m) × (m.heap ≡ heap)
there-heap c ms heap st (k, below, e) =
    let inside : k < length ms = subst (λ l. k < l) (length-map ms (λ (x : Meaning). x.heap)) below in
    let d : Meaning = record { heap = heap; got = refs.Nil; value = 0 } in
    let m : Meaning = get_or ms k d in
    let g : slice_get ms k ≡ Some m = slice_get-get_or ms k d inside in
    let at : slice_get (heaps_of ms) k ≡ Some m.heap = slice_get-map (λ (x : Meaning). x.heap) ms k ∙ ap (option_map (λ (x : Meaning). x.heap)) g in
    let same : m.heap ≡ heap = sym (get_or_from_slice_get (heaps_of ms) k m.heap heap at) ∙ e in
    let place : k ≡ heap.section = sym (st.numbered k m g).0 ∙ ap (λ (h : Heap). h.section) same in
    (m, ap (λ j. slice_get ms j) (sym place) ∙ g, same)

-- the object of a cell is one of the heaps
pub has-object : (c : Core) (ms : List Meaning) (x : ℕ) (m : Meaning) → StandsFor c ms → slice_get ms (section_of_cell (words_of c.shape c.words).identities x) ≡ Some m
    → (h : HoldsObject c.shape (words_of c.shape c.words).identities (words_of c.shape c.words).values (words_of c.shape c.words).fields (object_count ms) m x) → HasObject (heaps_of ms) (name_at (words_of c.shape c.words).identities x) h.object
has-object c ms x m st g h = (m.heap, heap-there ms (section_of_cell (words_of c.shape c.words).identities x) m g, (st.numbered (section_of_cell (words_of c.shape c.words).identities x) m g).0, h.there)

-- an object of the heaps is the one in the heap of its section
pub object-in : (c : Core) (ms : List Meaning) (name : Name) (object : Object) (m : Meaning) → StandsFor c ms → slice_get ms name.section ≡ Some m → HasObject (heaps_of ms) name object → slice_get m.heap.objects name.number ≡ Some object
object-in c ms name object m st g (heap, there, section, at) =
    let x = there-heap c ms heap st there in
    let same : m ≡ x.0 = same_Some m x.0 (sym g ∙ ap (λ j. slice_get ms j) (sym section) ∙ x.1) in
    ap (λ (y : Meaning). slice_get y.heap.objects name.number) same ∙ ap (λ (h : Heap). slice_get h.objects name.number) x.2 ∙ at

-- the number in the cell is that of an object of its section
abbrev IsGiven : Core → List Meaning → ℕ → Type 0
IsGiven c ms x = number_of_cell (words_of c.shape c.words).identities x < object_count ms (section_of_cell (words_of c.shape c.words).identities x)

-- a reachable cell with the number of an object holds this object
cell_holds : (c : Core) (ms : List Meaning) (x : ℕ) → IsCore c → StandsFor c ms → IsReachableIn c x → IsGiven c ms x → IsCellOfObject c ms (name_at (words_of c.shape c.words).identities x) x
cell_holds c ms x k st reach given =
    let w : Words = words_of c.shape c.words in
    let used = reachable-used c x k reach in
    (used, refl, named-object c.shape w.identities w.values w.fields ms x given (st.cells_agree x (used-exists c k x used) used))

-- what holds of a reachable cell
abbrev HasObjectIn : Core → List Meaning → ℕ → Type 0
HasObjectIn c ms x = IsGiven c ms x × IsReachable (heaps_of ms) (name_at (words_of c.shape c.words).identities x)

-- of a cell that a root names
rooted : (c : Core) (ms : List Meaning) (x k : ℕ) → IsCore c → StandsFor c ms → k < length (the-roots c) → slice_index (the-roots c) k ≡ x + 1 → HasObjectIn c ms x
rooted c ms x k core st h e = (named.1, (object, [], held))
  where
    ids : List ℕ
    ids = (words_of c.shape c.words).identities

    section : ℕ
    section = k / 32

    variable_there : k < c.shape.sections * 32
    variable_there =
        ⊎_elim
        (λ (l : k < c.shape.sections * 32). l)
        (λ (l : c.shape.sections * 32 ≤ k).
        let same : c.shape.sections * 32 + (k - c.shape.sections * 32) ≡ k = omega (arith, l) in
        absurd (omega (arith, e, sym (ap (slice_index (the-roots c)) same) ∙ st.slots_nil (k - c.shape.sections * 32))))
        (cases_lt k (c.shape.sections * 32))

    inside : section < length ms
    inside = omega (arith, variable_there, st.sections)

    m : Meaning
    m = meaning_of ms section

    there : slice_get ms section ≡ Some m
    there = slice_get-get_or ms section no_meaning inside

    place : section * 32 + k % 32 ≡ k
    place = omega arith

    low : k % 32 < 32
    low = omega arith

    named : Names section (variable m.heap (k % 32)) (name_at ids x) × IsGiven c ms x
    named = ref-of ids (object_count ms) section (slice_index (the-roots c) k) x (variable m.heap (k % 32)) e
        (subst (λ j. WordAgrees ids (object_count ms) section (slice_index (the-roots c) j) (variable m.heap (k % 32))) place (st.roots_agree section m there (k % 32) low))

    holds : IsCellOfObject c ms (name_at ids x) x
    holds = cell_holds c ms x core st (reach-root c.shape (the-roots c) (words_of c.shape c.words).fields k x h e) named.1

    object : IsObject (heaps_of ms) (name_at ids x)
    object = (holds.2.2.object, has-object c ms x holds.2.0 st holds.2.1 holds.2.2)

    held : IsHeld (heaps_of ms) (name_at ids x)
    held = (
      m.heap,
      heap-there ms section m there,
      variable m.heap (k % 32),
      Contains-get_or m.heap.variables (k % 32) refs.Nil (omega (arith, low, (st.numbered section m there).1)),
      subst (λ j. Names j (variable m.heap (k % 32)) (name_at ids x)) (sym (st.numbered section m there).0) named.0,
    )

-- of a cell that a field of a reachable cell names
fielded : (c : Core) (ms : List Meaning) (x d i : ℕ) → IsCore c → StandsFor c ms → IsReachableIn c d → HasObjectIn c ms d → i < c.shape.fields → field c.shape (words_of c.shape c.words).fields d i ≡ x + 1 → HasObjectIn c ms x
fielded c ms x d i core st reach from h e = (named.1, reach_on (heaps_of ms) (name_at ids d) (name_at ids x) from.1 refers object)
  where
    w : Words
    w = words_of c.shape c.words

    ids : List ℕ
    ids = w.identities

    source : IsCellOfObject c ms (name_at ids d) d
    source = cell_holds c ms d core st reach from.0

    o : Object
    o = source.2.2.object

    ref : Ref
    ref = slice_index_or o.refs i refs.Nil

    named : Names (section_of_cell ids d) ref (name_at ids x) × IsGiven c ms x
    named = ref-of ids (object_count ms) (section_of_cell ids d) (field c.shape w.fields d i) x ref e (source.2.2.each_field i h)

    holds : IsCellOfObject c ms (name_at ids x) x
    holds = cell_holds c ms x core st (reach-field c.shape (the-roots c) w.fields d i x reach h e) named.1

    object : IsObject (heaps_of ms) (name_at ids x)
    object = (holds.2.2.object, has-object c ms x holds.2.0 st holds.2.1 holds.2.2)

    refers : RefersTo (heaps_of ms) (name_at ids d) (name_at ids x)
    refers = (o, has-object c ms d source.2.0 st source.2.1 source.2.2, ref, Contains-get_or o.refs i refs.Nil (omega (arith, h, source.2.2.room, core.formed.shaped.fields)), named.0)

along : (c : Core) (ms : List Meaning) (x : ℕ) (ds : List ℕ) → IsCore c → StandsFor c ms → IsCellPath c.shape (the-roots c) (words_of c.shape c.words).fields (x ∷ ds) → HasObjectIn c ms x
along c ms x [] core st p = rooted c ms x p.0 core st p.1 p.2
along c ms x (d ∷ ds) core st p = fielded c ms x d p.0.0 core st (ds, p.1) (along c ms d ds core st p.1) p.0.1 p.0.2

-- a reachable cell holds an object, which is reachable
pub cells_have_objects : ReachableCellsHaveObjects
cells_have_objects c ms core st x reach = let a = along c ms x reach.0 core st reach.1 in (cell_holds c ms x core st reach a.0, a.1)

-- a reachable cell for an object
abbrev HasCell : Core → List Meaning → Name → Type 0
HasCell c ms name = (x : ℕ) × IsCellOfObject c ms name x × IsReachableIn c x

-- a cell that is reachable, and has the object's name
found_cell : (c : Core) (ms : List Meaning) (name : Name) (x : ℕ) → IsCore c → StandsFor c ms → IsReachableIn c x → name_at (words_of c.shape c.words).identities x ≡ name → IsGiven c ms x → HasCell c ms name
found_cell c ms name x core st reach e given = (x, subst (λ (n : Name). IsCellOfObject c ms n x) e (cell_holds c ms x core st reach given), reach)

-- an object that a variable names has one
held_cell : (c : Core) (ms : List Meaning) (name : Name) → IsCore c → StandsFor c ms → IsHeld (heaps_of ms) name → HasCell c ms name
held_cell c ms name core st (heap, there, ref, (v, below, is), names) =
    let w : Words = words_of c.shape c.words in
    let m = there-heap c ms heap st there in
    let low : v < 32 = omega (arith, below, (st.numbered heap.section m.0 m.1).1, ap (λ (h : Heap). length h.variables) m.2) in
    let section : heap.section < length ms = slice_get_within ms heap.section m.0 m.1 in
    let ref_is : variable m.0.heap v ≡ ref = ap (λ (h : Heap). variable h v) m.2 ∙ (get_or_default heap.variables v refs.Nil ref below ∙ is) in
    let agrees : WordAgrees w.identities (object_count ms) heap.section (slice_index (the-roots c) (heap.section * 32 + v)) ref = subst (λ (r : Ref). WordAgrees w.identities (object_count ms) heap.section (slice_index (the-roots c) (heap.section * 32 + v)) r) ref_is (st.roots_agree heap.section m.0 m.1 v low) in
    let x = word-of w.identities (object_count ms) heap.section (slice_index (the-roots c) (heap.section * 32 + v)) ref name agrees names in
    let inside : heap.section * 32 + v < length (the-roots c) = omega (arith, low, section, roots-length c core, now-length (words_of c.shape c.words).roots c.seats, st.sections) in
    found_cell c ms name x.0 core st (reach-root c.shape (the-roots c) w.fields (heap.section * 32 + v) x.0 inside x.1) x.2 x.3

-- an object that an object with a cell refers to has a cell
referred_cell : (c : Core) (ms : List Meaning) (from to : Name) → IsCore c → StandsFor c ms → HasCell c ms from → RefersTo (heaps_of ms) from to → HasCell c ms to
referred_cell c ms from to core st (x, cell, reach) (object, has, ref, (j, below, is), names) = of (cases_lt j c.shape.fields)
  where
    w : Words
    w = words_of c.shape c.words

    h : HoldsObject c.shape w.identities w.values w.fields (object_count ms) cell.2.0 x
    h = cell.2.2

    same : h.object ≡ object
    same = same_Some h.object object (sym h.there ∙ (ap (λ (n : Name). slice_get cell.2.0.heap.objects n.number) cell.1 ∙ object-in c ms from object cell.2.0 st cell.2.1 has))

    ref_is : slice_index_or h.object.refs j refs.Nil ≡ ref
    ref_is = ap (λ (o : Object). slice_index_or o.refs j refs.Nil) same ∙ (get_or_default object.refs j refs.Nil ref below ∙ is)

    of : (j < c.shape.fields) ⊎ (c.shape.fields ≤ j) → HasCell c ms to
    of (inl l) =
        let section : section_of_cell w.identities x ≡ from.section = ap (λ (n : Name). n.section) cell.1 in
        let agrees : WordAgrees w.identities (object_count ms) from.section (field c.shape w.fields x j) ref =
        subst (λ s. WordAgrees w.identities (object_count ms) s (field c.shape w.fields x j) ref) section
        (subst (λ (r : Ref). WordAgrees w.identities (object_count ms) (section_of_cell w.identities x) (field c.shape w.fields x j) r) ref_is (h.each_field j l)) in
        let z = word-of w.identities (object_count ms) from.section (field c.shape w.fields x j) ref to agrees names in
        found_cell c ms to z.0 core st (reach-field c.shape (the-roots c) w.fields x j z.0 reach l z.1) z.2 z.3
    of (inr l) = absurd (subst (λ (r : Ref). Names from.section r to) (sym ref_is ∙ h.rest j l) names)

-- each reachable object has a cell, which is reachable
pub objects_have_cells : ReachableObjectsHaveCells
objects_have_cells c ms core st name reach =
    of_reachable (heaps_of ms) (HasCell c ms) (λ n object held. held_cell c ms n core st held) (λ from to cell refers object. referred_cell c ms from to core st cell refers) name reach
