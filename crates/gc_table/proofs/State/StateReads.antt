-- What a seat reads is what the plain heap of its view has there.
use Rattle.std.proofs.Common.{ℕ, ◌≡◌, ◌+◌, ◌-◌, ◌/◌, ◌%◌, ◌<◌, zero, suc, List, arith, refl, sym, ap, ◌∙◌, subst, Bool, true, false, eqb, Option, Some, inl, inr}
use Rattle.std.specs.Prelude.{IsFalse, ◌↔◌, slice_get, slice_index, nat_lt, if◌then◌else◌}
use Rattle.std.proofs.lemmas.Bool.{and_parts, ltb-true, false_from_ne_true, ne_eqb}
use Rattle.std.proofs.lemmas.Option.{same_Some}
use Rattle.mark_core.specs.Layout.{Words, words_of, region_sizes, address}
use Rattle.mark_core.specs.Places.{the_named, position_at, counter_at}
use Rattle.mark_core.specs.Parts.{parts}
use Rattle.mark_core.specs.Seats.{may_mutate}
use Rattle.mark_core.specs.Rules.HeapRules.{section_of_cell, number_of_cell}
use Rattle.mark_core.specs.Steps.{Core, AllTrue}
use Rattle.mark_core.proofs.Known.{found}
use Rattle.mark_core.proofs.Blocks.BlocksStopped.{Taken, in-place}
use Rattle.mark_core.proofs.References.ReferencesRoots.{known-used}
use Rattle.mark_core.proofs.Writing.Places.{words-get}
use Rattle.mark_core.specs.declared.kinds.Shape.{Shape}
use Rattle.mark_core.specs.declared.kinds.Step.{Step}
use Rattle.mark_core.specs.declared.kinds.Step.TheVariants.{ReadOwn, ReadValue, ReadIdent, ReadCat, ReadStat, ReadSeason}
use Rattle.mark_core.specs.declared.seat.SeatState.{SeatState}
use Rattle.plain_heap.specs.declared.object.Ref.{Ref}
use Rattle.plain_heap.specs.declared.object.Ref.TheVariants as refs
use Rattle.plain_heap.specs.declared.object.Object.{Object}
use Rattle.plain_heap.specs.PlainHeap.{Heap}
use Rattle.plain_heap.specs.PlainStep.{object_of, followed, lent_variable}
use Rattle.plain_heap.specs.Paths.{Names}
use Rattle.gc_table.specs.StandsFor.{object_count, name_at, WordAgrees, StandsFor}
use Rattle.gc_table.specs.declared.view.Meaning.{Meaning}
use Rattle.gc_table.specs.declared.view.View.{View}
use Rattle.gc_table.specs.PlainSteps.{heap_in, catalogue_seen, meaning_of, known_as, own_section}
use Rattle.gc_table.specs.Sections.{seen_by}
use Rattle.mark_core.specs.declared.kinds.Shape.{Shape}
use Rattle.gc_table.specs.Reads.{Reads}
use Rattle.gc_table.specs.TableState.{TableState, meanings_of}
use Rattle.gc_table.specs.Rule.{IsState, Agrees}
use Rattle.gc_table.proofs.Stands.StandsFrame.{HasMeaning, named-object}
use Rattle.gc_table.proofs.Stands.StandsReached.{ref-of}
use Rattle.gc_table.proofs.Stands.StandsReads.{own-found, cat-found}
use Rattle.gc_table.proofs.Stands.StandsSeat.{Mutates, known-agrees}
use Rattle.gc_table.proofs.State.StateStores.{Acts, acts-taken, own-section, Views, views}
use Rattle.mark_core.specs.Numbers.{first_position, last_count, named_number, section_span}

-- the object that a reference to a cell names has the cell's value
object_agrees : (sh : Shape) (ids values fields : List ℕ) (ms : List Meaning) (i c : ℕ) (m : Meaning) (ref : Ref) → slice_get ms i ≡ Some m → WordAgrees ids (object_count ms) i (c + 1) ref → HasMeaning sh ids values fields ms c
    → (o : Object) × (object_of m.heap (catalogue_seen ms i) ref ≡ Some o) × (slice_index values c ≡ o.value)
object_agrees sh ids values fields ms i c m ref g (inl z) cell = absurd (omega (arith, z.0))
object_agrees sh ids values fields ms i c m refs.Nil g (inr (some, names, below)) cell = absurd names
object_agrees sh ids values fields ms i c m (refs.Own n) g (inr (some, names, below)) cell =
    let at : c + 1 - 1 ≡ c = omega arith in
    let section : section_of_cell ids c ≡ i = subst (λ d. section_of_cell ids d ≡ i) at names.0 in
    let number : number_of_cell ids c ≡ n = subst (λ d. number_of_cell ids d ≡ n) at names.1 in
    let o = named-object sh ids values fields ms c (subst (λ d. number_of_cell ids d < object_count ms (section_of_cell ids d)) at below) cell in
    let same : m ≡ o.0 = same_Some m o.0 (sym g ∙ ap (λ k. slice_get ms k) (sym section) ∙ o.1) in
    (o.2.object, ap (λ (x : Meaning). slice_get x.heap.objects n) same ∙ ap (λ k. slice_get o.0.heap.objects k) (sym number) ∙ o.2.there, o.2.value)
object_agrees sh ids values fields ms zero c m (refs.Cat n) g (inr (some, names, below)) cell = absurd names
object_agrees sh ids values fields ms (suc i) c m (refs.Cat n) g (inr (some, names, below)) cell =
    let at : c + 1 - 1 ≡ c = omega arith in
    let section : section_of_cell ids c ≡ 0 = subst (λ d. section_of_cell ids d ≡ 0) at names.0 in
    let number : number_of_cell ids c ≡ n = subst (λ d. number_of_cell ids d ≡ n) at names.1 in
    let o = named-object sh ids values fields ms c (subst (λ d. number_of_cell ids d < object_count ms (section_of_cell ids d)) at below) cell in
    let seen : slice_get ms 0 ≡ Some o.0 = ap (λ k. slice_get ms k) (sym section) ∙ o.1 in
    (o.2.object, ap (λ y. object_of m.heap (heap_in y) (refs.Cat n)) seen ∙ ap (λ k. slice_get o.0.heap.objects k) (sym number) ∙ o.2.there, o.2.value)

-- a word is nil exactly if its reference is
nil_both : (ids : List ℕ) (p : ℕ → ℕ) (w word : ℕ) (ref : Ref) → WordAgrees ids p w word ref → (word ≡ 0) ↔ (ref ≡ refs.Nil)
nil_both ids p w word ref (inl z) = (λ e. z.1, λ e. z.0)
nil_both ids p w word ref (inr (some, names, below)) = (λ e. absurd (omega (arith, e, some)), λ e. absurd (subst (λ (r : Ref). Names w r (name_at ids (word - 1))) e names))

value_found : (c : Core) (i : ℕ) (s : SeatState) (x : ℕ) (ms : List Meaning) → Taken c i s (ReadValue x) → StandsFor c ms → Mutates c i s ms
    → (o : Object) × (object_of (meaning_of ms i).heap (catalogue_seen ms i) (known_as s (meaning_of ms i) x) ≡ Some o) × (found c s (ReadValue x) ≡ o.value)
value_found c i s x ms k st a =
    let w : Words = words_of c.shape c.words in
    let step : Step = ReadValue x in
    let hx : x < c.shape.cells = ltb-true x c.shape.cells (and_parts (nat_lt x c.shape.cells) (may_mutate s) k.ok.0).0 in
    let m : Meaning = meaning_of ms i in
    let r = object_agrees c.shape w.identities w.values w.fields ms i x m (known_as s m x) a.there (known-agrees c i s step ms x k st a k.ok.1.0) (st.cells_agree x hx (known-used c i s step x k k.ok.1.0)) in
    let old : found c s step ≡ slice_index w.values x = words-get (region_sizes c.shape) 10 c.words x 0 (in-place c i s step k) in
    (r.0, r.1, old ∙ r.2)

-- the object that a seat knows by a cell is named by the cell's identity
abbrev IsNamed : ℕ → Ref → ℕ → Type 0
IsNamed w ref n = Names w ref (record { section = n / section_span; number = n % section_span })

ident_found : (c : Core) (i : ℕ) (s : SeatState) (x : ℕ) (ms : List Meaning) → Taken c i s (ReadIdent x) → StandsFor c ms → Mutates c i s ms → IsNamed i (known_as s (meaning_of ms i) x) (found c s (ReadIdent x))
ident_found c i s x ms k st a =
    let w : Words = words_of c.shape c.words in
    let step : Step = ReadIdent x in
    let ref : Ref = known_as s (meaning_of ms i) x in
    let old : found c s step ≡ slice_index w.identities x = words-get (region_sizes c.shape) 9 c.words x 0 (in-place c i s step k) in
    subst (IsNamed i ref) (sym old) (ref-of w.identities (object_count ms) i (x + 1) x ref refl (known-agrees c i s step ms x k st a k.ok.1.0)).0

-- the counters from 8 on are positions
counter_is : (b d e : Bool) (which n : ℕ) → b ≡ false → d ≡ false → e ≡ false → which - first_position ≡ n → (if b then (0, 3 + which) else if d then (0, 4 + which) else if e then the_named else position_at (which - first_position)) ≡ position_at n
counter_is true d e which n x y z h = absurd (cc)
counter_is false true e which n x y z h = absurd (cc)
counter_is false false true which n x y z h = absurd (cc)
counter_is false false false which n x y z h = ap position_at h

position_counter : (w : ℕ) → counter_at (first_position + w) ≡ position_at w
position_counter w =
    counter_is (nat_lt (first_position + w) last_count) (nat_lt (first_position + w) named_number) (eqb (first_position + w) named_number) (first_position + w) w (false_from_ne_true (nat_lt (first_position + w) last_count) (λ e. omega (arith, ltb-true (first_position + w) 2 e)))
    (false_from_ne_true (nat_lt (first_position + w) named_number) (λ e. omega (arith, ltb-true (first_position + w) named_number e))) (ne_eqb (first_position + w) named_number (λ e. omega (arith, e))) (omega arith)

-- what a mutator reads of a section's words, in the words of its view
value_read : (x : TableState) (i : ℕ) (v : View) (c : ℕ) → IsFalse x.core.shape.sharing → Acts x i v (ReadValue c) → Views x i v → (o : Object) × (object_of v.own.meaning.heap (seen_by v.shape v.plan v.state) (known_as v.state v.own.meaning c) ≡ Some o) × (found x.core v.state (ReadValue c) ≡ o.value)
value_read x i v c alone k a =
    subst (λ (o : Option Heap). (object : Object) × (object_of v.own.meaning.heap o (known_as v.state v.own.meaning c) ≡ Some object) × (found x.core v.state (ReadValue c) ≡ object.value)) (sym a.seen)
    (subst (λ (m : Meaning). (object : Object) × (object_of m.heap (catalogue_seen (meanings_of x.sections) i) (known_as v.state m c) ≡ Some object) × (found x.core v.state (ReadValue c) ≡ object.value)) a.meaning
    (value_found x.core i v.state c (meanings_of x.sections) (acts-taken x i v (ReadValue c) k) (k.whole.stands alone) a.mutates))

ident_read : (x : TableState) (i : ℕ) (v : View) (c : ℕ) → IsFalse x.core.shape.sharing → Acts x i v (ReadIdent c) → Views x i v → IsNamed (own_section v.state) (known_as v.state v.own.meaning c) (found x.core v.state (ReadIdent c))
ident_read x i v c alone k a =
    subst (λ (w : ℕ). IsNamed w (known_as v.state v.own.meaning c) (found x.core v.state (ReadIdent c))) (sym a.mutates.own)
    (subst (λ (m : Meaning). IsNamed i (known_as v.state m c) (found x.core v.state (ReadIdent c))) a.meaning
    (ident_found x.core i v.state c (meanings_of x.sections) (acts-taken x i v (ReadIdent c) k) (k.whole.stands alone) a.mutates))

own_read : (x : TableState) (i : ℕ) (v : View) (c j : ℕ) → IsFalse x.core.shape.sharing → Acts x i v (ReadOwn c j) → Views x i v → (found x.core v.state (ReadOwn c j) ≡ 0) ↔ (followed v.own.meaning.heap (seen_by v.shape v.plan v.state) (known_as v.state v.own.meaning c) j ≡ refs.Nil)
own_read x i v c j alone k a =
    let ms : List Meaning = meanings_of x.sections in
    let n : ℕ = found x.core v.state (ReadOwn c j) in
    subst (λ (o : Option Heap). (n ≡ 0) ↔ (followed v.own.meaning.heap o (known_as v.state v.own.meaning c) j ≡ refs.Nil)) (sym a.seen)
    (subst (λ (m : Meaning). (n ≡ 0) ↔ (followed m.heap (catalogue_seen ms i) (known_as v.state m c) j ≡ refs.Nil)) a.meaning
    (nil_both (words_of x.core.shape x.core.words).identities (object_count ms) i n _ (own-found x.core i v.state c j ms (acts-taken x i v (ReadOwn c j) k) (k.whole.stands alone) a.mutates).1))

cat_read : (x : TableState) (i : ℕ) (v : View) (u : ℕ) → IsFalse x.core.shape.sharing → Acts x i v (ReadCat u) → Views x i v → (found x.core v.state (ReadCat u) ≡ 0) ↔ (lent_variable (seen_by v.shape v.plan v.state) u ≡ refs.Nil)
cat_read x i v u alone k a =
    let ms : List Meaning = meanings_of x.sections in
    let n : ℕ = found x.core v.state (ReadCat u) in
    subst (λ (o : Option Heap). (n ≡ 0) ↔ (lent_variable o u ≡ refs.Nil)) (sym a.seen)
    (nil_both (words_of x.core.shape x.core.words).identities (object_count ms) i n _ (cat-found x.core i v.state u ms (acts-taken x i v (ReadCat u) k) (k.whole.stands alone) a.mutates).1)

season_read : (x : TableState) (i : ℕ) (v : View) → Acts x i v ReadSeason → Reads ReadSeason (found x.core v.state ReadSeason) v
season_read x i v k e =
    words-get (region_sizes x.core.shape) 13 x.core.words 1 0 (omega arith) ∙ k.whole.told.seasons.moved ∙ ap (λ y. y.seasons) (own-section x i 0 v k.agrees e)

position_read : (x : TableState) (i : ℕ) (v : View) (which : ℕ) → Acts x i v (ReadStat which) → Reads (ReadStat which) (found x.core v.state (ReadStat which)) v
position_read x i v which k w e at =
    let h : which < first_position + x.core.shape.sections = ltb-true which (first_position + x.core.shape.sections) k.ok.0 in
    ap (λ (n : ℕ). slice_index x.core.words (address x.core.shape (counter_at n))) at
    ∙ ap (λ (p : ℕ × ℕ). slice_index x.core.words (address x.core.shape p)) (position_counter w)
    ∙ words-get (region_sizes x.core.shape) 1 x.core.words w 0 (omega (arith, h, at))
    ∙ k.whole.told.positioned w v.own (k.agrees.own w e)

reads_of : (x : TableState) (i : ℕ) (v : View) (step : Step) → Acts x i v step → Reads step (found x.core v.state step) v
reads_of x i v (ReadValue c) k = λ alone. value_read x i v c (subst (λ (sh : Shape). IsFalse sh.sharing) k.agrees.shape alone) k (views x i v (ReadValue c) k (and_parts _ (may_mutate v.state) k.ok.0).1)
reads_of x i v (ReadIdent c) k = λ alone. ident_read x i v c (subst (λ (sh : Shape). IsFalse sh.sharing) k.agrees.shape alone) k (views x i v (ReadIdent c) k (and_parts _ (may_mutate v.state) k.ok.0).1)
reads_of x i v (ReadOwn c j) k = λ alone. own_read x i v c j (subst (λ (sh : Shape). IsFalse sh.sharing) k.agrees.shape alone) k (views x i v (ReadOwn c j) k (and_parts _ (may_mutate v.state) k.ok.0).1)
reads_of x i v (ReadCat u) k = λ alone. cat_read x i v u (subst (λ (sh : Shape). IsFalse sh.sharing) k.agrees.shape alone) k (views x i v (ReadCat u) k (and_parts _ (may_mutate v.state) k.ok.0).1)
reads_of x i v ReadSeason k = season_read x i v k
reads_of x i v (ReadStat which) k = position_read x i v which k
reads_of x i v step k = tt

-- what a seat reads is what its view says of the plain heap, the season and its own position
pub reads-true : (x : TableState) (i : ℕ) (v : View) (step : Step) → IsState x → Agrees x i v → IsFalse v.state.spent → AllTrue (parts x.core.shape (words_of x.core.shape x.core.words) x.core.seats v.state step) → Reads step (found x.core v.state step) v
reads-true x i v step whole agrees live ok = reads_of x i v step (record { whole = whole; agrees = agrees; live = live; ok = ok })
