-- An object changes in its cell and in its plain heap.
use Rattle.mark_core.proofs.References.ReferencesNow.{the-roots}
use Rattle.mark_core.proofs.Lagging.{now-seat}
use Rattle.std.proofs.Common.{Bool, ℕ, ◌≡◌, ◌≢◌, ◌+◌, ◌-◌, ◌<◌, ◌≤◌, zero, suc, List, set, length, arith, refl, sym, ap, ◌∙◌, subst, true, false, not, eqb, Option, Some, ◌⊎◌, inl, inr, ⊎_elim}
use Rattle.std.specs.Prelude.{IsFalse, ◌&&◌, ◌||◌, slice_get, slice_index, slice_index_or}
use Rattle.std.proofs.lemmas.Bool.{true≢false, and_parts, not-true, eqb-true, eqb-false, cases_eq}
use Rattle.std.proofs.lemmas.List.{length-set}
use Rattle.std.proofs.lemmas.Option.{same_Some}
use Rattle.mark_core.specs.Layout.{Words, words_of}
use Rattle.mark_core.specs.Bits.{cell_of}
use Rattle.mark_core.proofs.Formed.FormedLearns.{set-cases}
use Rattle.mark_core.specs.Seats.{is_the, has_making}
use Rattle.mark_core.specs.Views.{makers}
use Rattle.mark_core.specs.Cells.{field}
use Rattle.mark_core.specs.Rules.HeapRules.{section_of_cell, number_of_cell, NamesInUse}
use Rattle.mark_core.specs.Steps.MutatorSteps.{has_own, may_change, seat_variable as word_in}
use Rattle.mark_core.specs.Steps.{Core}
use Rattle.mark_core.proofs.Blocks.BlocksStopped.{Taken, mine as own-fact}
use Rattle.mark_core.proofs.References.ReferencesRoots.{Used, seat-formed}
use Rattle.mark_core.proofs.Used.UsedSeats.{IsMadeBy}
use Rattle.mark_core.specs.declared.kinds.Step.{Step}
use Rattle.mark_core.specs.declared.kinds.Step.TheVariants.{ReadCount}
use Rattle.mark_core.specs.declared.kinds.Shape.{Shape}
use Rattle.mark_core.specs.declared.seat.SeatState.{SeatState}
use Rattle.plain_heap.specs.declared.object.Ref.{Ref}
use Rattle.plain_heap.specs.declared.object.Ref.TheVariants as refs
use Rattle.plain_heap.specs.declared.object.Object.{Object}
use Rattle.plain_heap.specs.PlainHeap.{Heap, variable}
use Rattle.plain_heap.specs.PlainStep.{replaced, replaced_by, stored_at}
use Rattle.gc_table.specs.StandsFor.{object_count, WordAgrees, HoldsObject, SeatStands, StandsFor}
use Rattle.gc_table.specs.declared.view.Meaning.{Meaning}
use Rattle.gc_table.specs.PlainSteps.{meaning_of}
use Rattle.gc_table.proofs.Stands.StandsAgree.{Stays, next-on, agrees-on}
use Rattle.gc_table.proofs.Stands.StandsFrame.{HasMeaning, cell-on, named-object, Moves, had-meaning, get-set_same, get-set_other, counts-grow}
use Rattle.gc_table.proofs.Stands.StandsSeat.{Mutates, env-agrees, looks, names-used, making-is-free, free-not-used}
use Rattle.mark_core.specs.Numbers.{value_bound}

-- the object in cell y of the seat's own section
pub record Owns (c : Core) (i : ℕ) (s : SeatState) (v : ℕ) (ms : List Meaning) (y : ℕ) : Type 0 where
  pub cell : cell_of (word_in s v) ≡ y
  pub used : Used c y ≡ true
  pub exists : y < c.shape.cells
  pub section : section_of_cell (words_of c.shape c.words).identities y ≡ i
  pub ref : variable (meaning_of ms i).heap v ≡ refs.Own (number_of_cell (words_of c.shape c.words).identities y)
  pub holds : HoldsObject c.shape (words_of c.shape c.words).identities (words_of c.shape c.words).values (words_of c.shape c.words).fields (object_count ms) (meaning_of ms i) y

-- a reference to a cell of the own section
own_ref : (ids : List ℕ) (p : ℕ → ℕ) (i word : ℕ) (ref : Ref) → 0 < word → section_of_cell ids (word - 1) ≡ i → WordAgrees ids p i word ref → (ref ≡ refs.Own (number_of_cell ids (word - 1))) × (number_of_cell ids (word - 1) < p (section_of_cell ids (word - 1)))
own_ref ids p i word ref some e (inl z) = absurd (omega (arith, z.0, some))
own_ref ids p i word refs.Nil some e (inr (nonzero, names, below)) = absurd names
own_ref ids p i word (refs.Own n) some e (inr (nonzero, names, below)) = (ap (λ k. refs.Own k) (sym names.1), below)
own_ref ids p zero word (refs.Cat n) some e (inr (nonzero, names, below)) = absurd names
own_ref ids p (suc i) word (refs.Cat n) some e (inr (nonzero, names, below)) = absurd (omega (arith, e, names.0))

-- if objects aren't shared, a seat stores only in its own section's
pub owned : (sh : Shape) (ids : List ℕ) (s : SeatState) (v : ℕ) → IsFalse sh.sharing → may_change sh ids s v ≡ true → has_own ids s v ≡ true
owned sh ids s v alone e = ap (λ (b : Bool). not (eqb (word_in s v) 0) && (b || is_the s.section (section_of_cell ids (word_in s v - 1)))) (sym alone) ∙ e

-- a variable whose object is of the own section names the cell of an object of the own plain heap
pub owns : (c : Core) (i : ℕ) (s : SeatState) (step : Step) (v : ℕ) (ms : List Meaning) → Taken c i s step → StandsFor c ms → (a : Mutates c i s ms) → ((x : ℕ) → Used c x ≡ true → x < c.shape.cells) → v < 32 → has_own (words_of c.shape c.words).identities s v ≡ true
    → Owns c i s v ms (word_in s v - 1)
owns c i s step v ms k st a exist hv e = record { cell = whole; used = used; exists = exists; section = section; ref = ref.0; holds = subst (λ (z : Meaning). HoldsObject c.shape w.identities w.values w.fields (object_count ms) z y) (sym same) o.2 }
  where
    w : Words
    w = words_of c.shape c.words

    word : ℕ
    word = word_in s v

    y : ℕ
    y = word - 1

    both : (not (eqb word 0) ≡ true) × (is_the s.section (section_of_cell w.identities y) ≡ true)
    both = and_parts (not (eqb word 0)) (is_the s.section (section_of_cell w.identities y)) e

    not_nil : word ≡ 0 → ⊥
    not_nil = eqb-false word 0 (not-true (eqb word 0) both.0)

    some : 0 < word
    some = omega (arith, not_nil)

    used : Used c y ≡ true
    used = names-used (Used c) word some ((own-fact c i s step (NamesInUse w.allocs (makers c.seats)) k k.core.sound.references.seats_in_use).0 v 0 (omega (arith, hv, (seat-formed c i s step k).env)))

    exists : y < c.shape.cells
    exists = exist y used

    whole : cell_of word ≡ y
    whole = omega (arith, exists, k.core.formed.shaped.cells)

    section : section_of_cell w.identities y ≡ i
    section = sym (eqb-true i (section_of_cell w.identities y) (subst (λ (o : Option ℕ). is_the o (section_of_cell w.identities y) ≡ true) a.section both.1))

    ref : (variable (meaning_of ms i).heap v ≡ refs.Own (number_of_cell w.identities y)) × (number_of_cell w.identities y < object_count ms (section_of_cell w.identities y))
    ref = own_ref w.identities (object_count ms) i word (variable (meaning_of ms i).heap v) some section (env-agrees c i s step ms v k st a hv)

    o : (x : Meaning) × (slice_get ms (section_of_cell w.identities y) ≡ Some x) × HoldsObject c.shape w.identities w.values w.fields (object_count ms) x y
    o = named-object c.shape w.identities w.values w.fields ms y ref.1 (st.cells_agree y exists used)

    same : meaning_of ms i ≡ o.0
    same = same_Some (meaning_of ms i) o.0 (sym a.there ∙ ap (λ j. slice_get ms j) (sym section) ∙ o.1)

-- a store through that variable changes this object
pub stored-object : (c : Core) (i : ℕ) (s : SeatState) (v : ℕ) (ms : List Meaning) (y : ℕ) (change : Object → Object) → (b : Owns c i s v ms y)
    → stored_at (meaning_of ms i).heap (variable (meaning_of ms i).heap v) change ≡ replaced (meaning_of ms i).heap (number_of_cell (words_of c.shape c.words).identities y) (change b.holds.object)
stored-object c i s v ms y change b =
    let heap : Heap = (meaning_of ms i).heap in
    ap (λ (r : Ref). stored_at heap r change) b.ref ∙ ap (λ (o : Option Object). replaced_by heap (number_of_cell (words_of c.shape c.words).identities y) change o) b.holds.there

-- the meaning in which the object became this
abbrev pub with_object : Core → ℕ → List Meaning → ℕ → Object → Meaning
with_object c i ms y object = record (meaning_of ms i) { heap = replaced (meaning_of ms i).heap (number_of_cell (words_of c.shape c.words).identities y) object }

-- what the words say of the object that changed, and of the other cells
pub record Rewrites (c : Core) (i : ℕ) (ms : List Meaning) (y : ℕ) (values fields : List ℕ) (object : Object) : Type 0 where
  pub room : length object.refs ≡ 16
  pub rest : (j : ℕ) → c.shape.fields ≤ j → slice_index_or object.refs j refs.Nil ≡ refs.Nil
  pub value : slice_index values y ≡ object.value
  pub fits : object.value < value_bound
  pub each_field : (j : ℕ) → j < c.shape.fields → WordAgrees (words_of c.shape c.words).identities (object_count ms) i (field c.shape fields y j) (slice_index_or object.refs j refs.Nil)
  pub other_values : (z : ℕ) → z ≢ y → slice_index values z ≡ slice_index (words_of c.shape c.words).values z
  pub other_fields : (z j : ℕ) → z ≢ y → j < c.shape.fields → field c.shape fields z j ≡ field c.shape (words_of c.shape c.words).fields z j

pub object-moves : (c : Core) (i : ℕ) (s : SeatState) (step : Step) (v : ℕ) (ms : List Meaning) (y : ℕ) (values fields : List ℕ) (object : Object) (owed : Option ℕ) → Taken c i s step → StandsFor c ms → (a : Mutates c i s ms) → ((z : ℕ) → IsMadeBy c.shape step z → ⊥)
    → Owns c i s v ms y → Rewrites c i ms y values fields object → Moves c i s step (record (words_of c.shape c.words) { values = values; fields = fields }) (record s { owes = owed }) (with_object c i ms y object) ms
object-moves c i s step v ms y values fields object owed k st a none b r = record {
  numbered = let before = st.numbered i m a.there in (before.0, before.1, before.2, before.3, λ j o e. ⊎_elim (λ x. subst (λ (z : Object). z.value < value_bound) x.1 r.fits) (λ x. before.4 j o x) (set-cases m.heap.objects number j object o e));
  more = omega (arith, long);
  identities_kept = λ z u. refl;
  now_roots = the-roots c;
  now = now-seat w.roots c.seats i s (record s { owes = owed }) k.got refl refl;
  other_roots = λ j u d h. refl;
  slots_nil = st.slots_nil;
  own_roots = λ u h. agrees-on w.identities w.identities (object_count ms) q i _ _ (λ some. refl) more (st.roots_agree i m a.there u h);
  cells = λ z h u. let before = had-meaning c i s step ms z k st (none z) h u in cell z h before.0 before.1 (cases_eq z y);
  other_making = λ j o d g live z part e. r.other_values z (λ same. unused z same (making-is-free c j o ReadCount z part (looks c j o k.core g live) e) (free-not-used c j o ReadCount z (looks c j o k.core g live)));
  own_seat =
      λ live.
      record {
        got = agrees-on w.identities w.identities (object_count ms) q i s.got m.got (λ some. refl) more mine.got;
        made = subst (λ (l : ℕ). (l ≡ s.made) ⊎ ((l + 1 ≡ s.made) × IsFalse (has_making s.cache))) (sym long) mine.made;
        making = λ z part e l. r.other_values z (λ same. unused z same (making-is-free c i s step z part k e) (free-not-used c i s step z k)) ∙ mine.making z part e l;
        last = mine.last;
      };
}
  where
    w : Words
    w = words_of c.shape c.words

    m : Meaning
    m = meaning_of ms i

    n : Meaning
    n = with_object c i ms y object

    number : ℕ
    number = number_of_cell w.identities y

    long : length n.heap.objects ≡ length m.heap.objects
    long = length-set m.heap.objects number object

    q : ℕ → ℕ
    q = object_count (set ms i n)

    more : (j : ℕ) → object_count ms j ≤ q j
    more = counts-grow ms i m n a.there (omega (arith, long))

    mine : SeatStands c.shape w.identities w.values (object_count ms) i s m
    mine = st.seats_agree i s m k.got a.there k.live

    unused : (z : ℕ) → z ≡ y → {F : Type 0} → F → (F → Used c z ≡ false) → ⊥
    unused z same f g = true≢false (sym b.used ∙ ap (Used c) (sym same) ∙ g f)

    apart : (z : ℕ) → z < c.shape.cells → Used c z ≡ true → z ≢ y → section_of_cell w.identities z ≡ i → number_of_cell w.identities z ≢ number
    apart z h u d e same = d (k.core.sound.caches.distinct z h y b.exists u b.used (omega (arith, e, b.section, same)))

    cell : (z : ℕ) → z < c.shape.cells → Used c z ≡ true → HasMeaning c.shape w.identities w.values w.fields ms z → (z ≡ y) ⊎ (z ≢ y) → HasMeaning c.shape w.identities values fields (set ms i n) z
    cell z h u before (inl e) = subst (λ j. HasMeaning c.shape w.identities values fields (set ms i n) j) (sym e) (
      n,
      ap (λ j. slice_get (set ms i n) j) b.section ∙ get-set_same ms i m n a.there,
      inl (record {
        object = object;
        there = get-set_same m.heap.objects number b.holds.object object b.holds.there;
        room = r.room;
        rest = r.rest;
        value = r.value;
        each_field =
            λ j l.
            subst (λ o. WordAgrees w.identities q o (field c.shape fields y j) (slice_index_or object.refs j refs.Nil)) (sym b.section)
            (agrees-on w.identities w.identities (object_count ms) q i _ _ (λ some. refl) more (r.each_field j l));
      }),
    )
    cell z h u before (inr d) =
        let stays : Stays c.shape w.identities w.identities w.values values w.fields fields (object_count ms) q z =
        record { identity = refl; value = r.other_values z d; each_field = λ j l. r.other_fields z j d l; targets = λ j l some. refl; more = more } in
        cell-on c.shape w.identities w.identities w.values values w.fields fields ms i m n z a.there stays (λ e o. get-set_other m.heap.objects number (number_of_cell w.identities z) object (apart z h u d e))
        (λ e o. inr (next-on c.shape w.identities w.identities w.values values w.fields fields (object_count ms) q m n z stays long refl o)) before
