-- What a step makes of the value of a heap with one object.
use Rattle.std.proofs.Common.{ℕ, zero, suc, ◌≡◌, ◌≢◌, ◌⊎◌, ◌+◌, ◌<◌, ◌≤◌, ◌==◌, ◌&&◌, ◌||◌, ◌∙◌, List, [], ◌∷◌, ◌++◌, length, ap, arith, inl, inr, not, refl, subst, sym, ⊎_elim, Bool, true, false, Option, None, Some, eqb-true}
use Rattle.std.specs.Prelude.{if◌then◌else◌, nat_le, nat_lt, replicate, slice_get}
use Rattle.std.proofs.lemmas.Bool.{and_parts, cases_eq, cases_lt, false≢true}
use Rattle.std.proofs.lemmas.List.{set_past}
use Rattle.std.proofs.lemmas.Option.{same_Some}
use Rattle.plain_heap.specs.Paths.{Name}
use Rattle.mark_core.specs.Layout.{words_of}
use Rattle.mark_core.specs.Seats.{may_mutate}
use Rattle.mark_core.specs.Steps.{Core}
use Rattle.mark_core.specs.declared.kinds.Step.{Step}
use Rattle.mark_core.specs.declared.kinds.Step.TheVariants.{ExchangeField, ExchangeValue, ReadCat, ReadOwn, ReadSlot, StoreField, StoreNew, StoreRoot, StoreSlot, StoreValue, ReadWeak, HoldRoot}
use Rattle.mark_core.specs.declared.seat.SeatState.{SeatState}
use Rattle.mark_core.proofs.Known.{found}
use Rattle.mark_core.proofs.Blocks.BlocksStopped.{Taken}
use Rattle.gc_table.specs.Agreement.{AgreesWith}
use Rattle.gc_table.specs.AgreementLaws.{FindsValue}
use Rattle.gc_table.specs.RunWorlds.{World, WorldObject, WorldSection, in_section, object_of, own_section, replaced, section_of, variable_of, with_exchanged, with_exchanged_value, with_new, with_object, with_part, with_reference, with_register, with_value, with_variable, stored, world_by}
use Rattle.gc_table.proofs.Winning.{finds-value}
use Rattle.gc_table.proofs.Reading.{section-other, section-same, view-kept}
use Rattle.gc_table.proofs.Frame.{Mutates, mutates}
use Rattle.gc_table.specs.Single.{leaves_values, makes_object}

-- what a change leaves of each section it leaves of the heap
kept : {Y : Type 0} (view : WorldSection → Y) (world : World) (w k : ℕ) (f : WorldSection → WorldSection) → ((x : WorldSection) → view (f x) ≡ view x) → view (section_of (in_section world w f) k) ≡ view (section_of world k)
kept view world w k f same =
    ⊎_elim
    (λ (h : w < length world). view-kept view world w k f h (same (section_of world w)))
    (λ (h : length world ≤ w). ap (λ (x : World). view (section_of x k)) (set_past world w (f (section_of world w)) h))
    (cases_lt w (length world))

-- a section that changes, or doesn't
changed : (P : WorldSection → Type 0) (world : World) (w k : ℕ) (f : WorldSection → WorldSection) → P (section_of world k) → (k ≡ w → P (f (section_of world w))) → P (section_of (in_section world w f) k)
changed P world w k f other own =
    ⊎_elim
    (λ (h : w < length world).
    ⊎_elim
    (λ (e : k ≡ w). subst (λ (j : ℕ). P (section_of (in_section world w f) j)) (sym e) (subst P (sym (section-same world w f h)) (own e)))
    (λ (d : k ≢ w). subst P (sym (section-other world w k f d)) other)
    (cases_eq k w))
    (λ (h : length world ≤ w). subst (λ (x : World). P (section_of x k)) (sym (set_past world w (f (section_of world w)) h)) other)
    (cases_lt w (length world))

-- no object yet, or one of this value; this many
abbrev pub FirstIs : List WorldObject → ℕ → ℕ → Type 0
FirstIs xs n h = ((xs ≡ []) × (n ≡ 0) × (h ≡ 0)) ⊎ ((o : WorldObject) × (xs ≡ o ∷ []) × (o.value ≡ n) × (h ≡ 1))

-- the first section has h objects, one at most, of this value, and the others have none
pub record IsSingle (world : World) (n h : ℕ) : Type 0 where
  pub others : (w : ℕ) → w ≢ 0 → (section_of world w).objects ≡ []
  pub first : FirstIs (section_of world 0).objects n h
  pub coming : (section_of world 0).coming ≡ 0

-- a change that leaves objects, and the value to come
single_kept : (world : World) (w n h : ℕ) (f : WorldSection → WorldSection) → ((x : WorldSection) → (f x).objects ≡ x.objects) → ((x : WorldSection) → (f x).coming ≡ x.coming) → IsSingle world n h → IsSingle (in_section world w f) n h
single_kept world w n h f objects coming s =
    record {
      others = λ k d. kept (λ (x : WorldSection). x.objects) world w k f objects ∙ s.others k d;
      first = subst (λ (xs : List WorldObject). FirstIs xs n h) (sym (kept (λ (x : WorldSection). x.objects) world w 0 f objects)) s.first;
      coming = kept (λ (x : WorldSection). x.coming) world w 0 f coming ∙ s.coming;
    }

-- an object changes
abbrev changed_objects : ℕ → (WorldObject → WorldObject) → WorldSection → WorldSection
changed_objects number g x = record x { objects = replaced x.objects number g }

-- of one object there is one still, whatever changes
one_left : (o : WorldObject) (xs : List WorldObject) (number : ℕ) (g : WorldObject → WorldObject) → xs ≡ o ∷ [] → (p : WorldObject) × (replaced xs number g ≡ p ∷ []) × ((p ≡ o) ⊎ (p ≡ g o))
one_left o xs zero g e = (g o, ap (λ (l : List WorldObject). replaced l zero g) e, inr refl)
one_left o xs (suc k) g e = (o, ap (λ (l : List WorldObject). replaced l (suc k) g) e, inl refl)

none_left : (xs : List WorldObject) (number : ℕ) (g : WorldObject → WorldObject) → xs ≡ [] → replaced xs number g ≡ []
none_left xs number g e = ap (λ (l : List WorldObject). replaced l number g) e

-- the one object is as it was, or changed
one_after : (world : World) (to : Option Name) (g : WorldObject → WorldObject) (o : WorldObject) → (section_of world 0).objects ≡ o ∷ [] → (p : WorldObject) × ((section_of (with_object world to g) 0).objects ≡ p ∷ []) × ((p ≡ o) ⊎ (p ≡ g o))
one_after world None g o e = (o, e, inl refl)
one_after world (Some name) g o e =
    changed (λ (x : WorldSection). (p : WorldObject) × (x.objects ≡ p ∷ []) × ((p ≡ o) ⊎ (p ≡ g o))) world name.section 0 (changed_objects name.number g) (o, e, inl refl)
    (λ z. one_left o (section_of world name.section).objects name.number g (subst (λ (j : ℕ). (section_of world j).objects ≡ o ∷ []) z e))

none_after : (world : World) (to : Option Name) (g : WorldObject → WorldObject) (k : ℕ) → (section_of world k).objects ≡ [] → (section_of (with_object world to g) k).objects ≡ []
none_after world None g k e = e
none_after world (Some name) g k e =
    changed (λ (x : WorldSection). x.objects ≡ []) world name.section k (changed_objects name.number g) e
    (λ z. none_left (section_of world name.section).objects name.number g (subst (λ (j : ℕ). (section_of world j).objects ≡ []) z e))

coming_after : (world : World) (to : Option Name) (g : WorldObject → WorldObject) → (section_of (with_object world to g) 0).coming ≡ (section_of world 0).coming
coming_after world None g = refl
coming_after world (Some name) g = kept (λ (x : WorldSection). x.coming) world name.section 0 (changed_objects name.number g) (λ x. refl)

-- if the object has this value after the change
single_changed : (world : World) (to : Option Name) (g : WorldObject → WorldObject) (n m h : ℕ) → IsSingle world n h → ((section_of world 0).objects ≡ [] → m ≡ n)
    → ((o p : WorldObject) → (section_of world 0).objects ≡ o ∷ [] → o.value ≡ n → (section_of (with_object world to g) 0).objects ≡ p ∷ [] → (p ≡ o) ⊎ (p ≡ g o) → p.value ≡ m) → IsSingle (with_object world to g) m h
single_changed world to g n m h s empty full =
    record {
      others = λ k d. none_after world to g k (s.others k d);
      first =
          ⊎_elim
          (λ (e : ((section_of world 0).objects ≡ []) × (n ≡ 0) × (h ≡ 0)). inl (none_after world to g 0 e.0, empty e.0 ∙ e.1, e.2))
          (λ (e : (o : WorldObject) × ((section_of world 0).objects ≡ o ∷ []) × (o.value ≡ n) × (h ≡ 1)).
          let p = one_after world to g e.0 e.1 in
          inr (p.0, p.1, full e.0 p.0 e.1 e.2 p.1 p.2, e.3))
          s.first;
      coming = coming_after world to g ∙ s.coming;
    }

-- if values stay
same_value : (world : World) (to : Option Name) (g : WorldObject → WorldObject) (n h : ℕ) → ((o : WorldObject) → (g o).value ≡ o.value) → IsSingle world n h → IsSingle (with_object world to g) n h
same_value world to g n h same s =
    single_changed world to g n n h s (λ e. refl)
    (λ o p e is q by.
    ⊎_elim (λ (z : p ≡ o). ap (λ (x : WorldObject). x.value) z ∙ is) (λ (z : p ≡ g o). ap (λ (x : WorldObject). x.value) z ∙ (same o ∙ is)) by)

exchanged_value : (b : Bool) (x o : WorldObject) → x.value ≡ o.value → (if b then x else o).value ≡ o.value
exchanged_value true x o e = e
exchanged_value false x o e = refl

-- what an exchange makes of a value
abbrev pub value_after : Step → ℕ → ℕ
value_after (ExchangeValue v m x) n = if n == m then x else n
value_after step n = n

pub none_at : (k : ℕ) (p : WorldObject) → slice_get [] k ≡ Some p → ⊥
none_at k p e = cc

-- an object that is there is the one
pub the_one : (xs : List WorldObject) (number : ℕ) (o p : WorldObject) → xs ≡ o ∷ [] → slice_get xs number ≡ Some p → (number ≡ 0) × (o ≡ p)
the_one xs zero o p e at = (refl, same_Some o p (ap (λ (l : List WorldObject). slice_get l 0) (sym e) ∙ at))
the_one xs (suc k) o p e at = absurd (none_at k p (ap (λ (l : List WorldObject). slice_get l (suc k)) (sym e) ∙ at))

not_empty : (o : WorldObject) → [] ≡ o ∷ [] → ⊥
not_empty o e = let long = ap length e in omega (arith, long)

value_if : (b : Bool) (x : ℕ) (o : WorldObject) → (if b then with_value x o else o).value ≡ (if b then x else o.value)
value_if true x o = refl
value_if false x o = refl

pub exchanged_one : (c : Core) (i : ℕ) (s : SeatState) (v m x : ℕ) (world : World) (n h : ℕ) → Taken c i s (ExchangeValue v m x) → AgreesWith c world → IsSingle world n h
    → (found c s (ExchangeValue v m x) ≡ n) × IsSingle (world_by c.shape (words_of c.shape c.words) s (ExchangeValue v m x) world) (value_after (ExchangeValue v m x) n) h
exchanged_one c i s v m x world n h k a single =
    let g : FindsValue c world s v m x (found c s (ExchangeValue v m x)) = finds-value c i s v m x world k a in
    let first : g.name.section ≡ 0 = section_is g.name g.there in
    let there : slice_get (section_of world 0).objects g.name.number ≡ Some g.object = subst (λ (j : ℕ). slice_get (section_of world j).objects g.name.number ≡ Some g.object) first g.there in
    ⊎_elim (λ (e : ((section_of world 0).objects ≡ []) × (n ≡ 0) × (h ≡ 0)). absurd (none_at g.name.number g.object (ap (λ (l : List WorldObject). slice_get l g.name.number) (sym e.0) ∙ there)))
    (λ (e : (o : WorldObject) × ((section_of world 0).objects ≡ o ∷ []) × (o.value ≡ n) × (h ≡ 1)).
    let one = the_one (section_of world 0).objects g.name.number e.0 g.object e.1 there in
    let value : g.object.value ≡ n = ap (λ (o : WorldObject). o.value) (sym one.1) ∙ e.2 in
    let word : found c s (ExchangeValue v m x) ≡ n = g.found ∙ value in (
      word,
      single_changed world (variable_of world (own_section s) v) (with_exchanged_value m x) n (if n == m then x else n) h single (λ z. absurd (not_empty e.0 (sym z ∙ e.1)))
          (λ o p z is q by. value_of g first one.0 word value p q),
    ))
    single.first
  where
    after : World
    after = world_by c.shape (words_of c.shape c.words) s (ExchangeValue v m x) world

    section_is : (name : Name) → {object : WorldObject} → object_of world name ≡ Some object → name.section ≡ 0
    section_is name {object} at =
        ⊎_elim (λ (e : name.section ≡ 0). e) (λ (d : name.section ≢ 0). absurd (none_at name.number object (ap (λ (l : List WorldObject). slice_get l name.number) (sym (single.others name.section d)) ∙ at))) (cases_eq name.section 0)

    value_of : (g : FindsValue c world s v m x (found c s (ExchangeValue v m x))) → g.name.section ≡ 0 → g.name.number ≡ 0 → found c s (ExchangeValue v m x) ≡ n → g.object.value ≡ n → (p : WorldObject) → (section_of after 0).objects ≡ p ∷ [] → p.value ≡ (if n == m then x else n)
    value_of g first number word value p q =
        let word_is : ℕ = found c s (ExchangeValue v m x) in
        let there : slice_get (section_of after 0).objects 0 ≡ Some (if word_is == m then with_value x g.object else g.object) =
        subst (λ (j : ℕ × ℕ). slice_get (section_of after j.0).objects j.1 ≡ Some (if word_is == m then with_value x g.object else g.object)) (λ i. (first i, number i)) g.after in
        let it : p ≡ (if word_is == m then with_value x g.object else g.object) = same_Some p _ (ap (λ (l : List WorldObject). slice_get l 0) (sym q) ∙ there) in
        ap (λ (o : WorldObject). o.value) it ∙ (value_if (word_is == m) x g.object ∙ (λ i. if word i == m then x else value i))

-- a part of a new cell is stored
new_by : (b d : Bool) (fields word : ℕ) (world : World) (i n h : ℕ) → IsSingle world n h → (not d || (word == 0)) ≡ true → ((not b && not d) ≡ true → (i ≡ 0) × (h ≡ 0)) → 0 < length world
    → IsSingle (in_section world i (λ (x : WorldSection). if b then x else if d then record x { coming = word } else with_new fields x)) n (h + (if not b && not d then 1 else 0))
new_by true d fields word world i n h s value once inside = subst (IsSingle (in_section world i (λ (x : WorldSection). x)) n) (let e : h ≡ h + 0 = omega arith in e) (single_kept world i n h (λ x. x) (λ x. refl) (λ x. refl) s)
new_by false true fields word world i n h s value once inside =
    let f : WorldSection → WorldSection = λ x. record x { coming = word } in
    subst (IsSingle (in_section world i f) n) (let e : h ≡ h + 0 = omega arith in e)
    (record {
      others = λ k d. kept (λ (x : WorldSection). x.objects) world i k f (λ x. refl) ∙ s.others k d;
      first = subst (λ (xs : List WorldObject). FirstIs xs n h) (sym (kept (λ (x : WorldSection). x.objects) world i 0 f (λ x. refl))) s.first;
      coming = changed (λ (x : WorldSection). x.coming ≡ 0) world i 0 f s.coming (λ e. eqb-true word 0 value);
    })
new_by false false fields word world i n h s value once inside =
    let o = once refl in
    let none : ((section_of world 0).objects ≡ []) × (n ≡ 0) =
    ⊎_elim (λ (e : ((section_of world 0).objects ≡ []) × (n ≡ 0) × (h ≡ 0)). (e.0, e.1)) (λ (e : (p : WorldObject) × ((section_of world 0).objects ≡ p ∷ []) × (p.value ≡ n) × (h ≡ 1)). absurd (let a = e.3 in let b = o.1 in omega (arith, a, b))) s.first in
    subst (λ (j : ℕ). IsSingle (in_section world j (with_new fields)) n (h + 1)) (sym o.0)
    (record {
      others = λ k d. ap (λ (x : WorldSection). x.objects) (section-other world 0 k (with_new fields) d) ∙ s.others k d;
      first =
          inr (
            record { value = (section_of world 0).coming; refs = replicate fields None },
            ap (λ (x : WorldSection). x.objects) (section-same world 0 (with_new fields) inside) ∙ ap (λ (xs : List WorldObject). xs ++ record { value = (section_of world 0).coming; refs = replicate fields None } ∷ []) none.0,
            s.coming ∙ sym none.1,
            let zero_there = o.1 in omega (arith, zero_there),
          );
      coming = kept (λ (x : WorldSection). x.coming) world 0 0 (with_new fields) (λ x. refl) ∙ s.coming;
    })

none_new : {world : World} {n h : ℕ} → IsSingle world n h → IsSingle world n (h + 0)
none_new {world} {n} {h} s = subst (IsSingle world n) (let e : h ≡ h + 0 = omega arith in e) s

-- what one step makes of the one object
pub step_single : (c : Core) (i : ℕ) (s : SeatState) (step : Step) (world : World) (n h : ℕ) → Taken c i s step → AgreesWith c world → IsSingle world n h → leaves_values c.shape.fields step ≡ true → (makes_object c.shape.fields step ≡ true → (i ≡ 0) × (h ≡ 0))
    → IsSingle (world_by c.shape (words_of c.shape c.words) s step world) (value_after step n) (h + (if makes_object c.shape.fields step then 1 else 0))
step_single c i s (StoreField u j x) world n h k a single leaves once = none_new (same_value world (variable_of world (own_section s) u) (with_reference j (stored world (own_section s) x)) n h (λ o. refl) single)
step_single c i s (ExchangeField u j x y) world n h k a single leaves once =
    none_new (same_value world (variable_of world (own_section s) u) (with_exchanged j (stored world (own_section s) x) (stored world (own_section s) y)) n h (λ o. exchanged_value _ _ o refl) single)
step_single c i s (StoreValue u m) world n h k a single leaves once = absurd (false≢true leaves)
step_single c i s (ExchangeValue u m x) world n h k a single leaves once = none_new (exchanged_one c i s u m x world n h k a single).1
step_single c i s (StoreRoot u r) world n h k a single leaves once = none_new (single_kept world (own_section s) n h (with_variable u _) (λ x. refl) (λ x. refl) single)
step_single c i s (HoldRoot u r) world n h k a single leaves once = none_new (single_kept world (own_section s) n h (with_variable u _) (λ x. refl) (λ x. refl) single)
step_single c i s (StoreSlot j r) world n h k a single leaves once = none_new (single_kept world (own_section s) n h (with_variable (32 + j) _) (λ x. refl) (λ x. refl) single)
step_single c i s (ReadSlot j) world n h k a single leaves once = none_new (single_kept world (own_section s) n h (with_register _) (λ x. refl) (λ x. refl) single)
step_single c i s (ReadWeak y) world n h k a single leaves once = none_new (single_kept world (own_section s) n h (with_register _) (λ x. refl) (λ x. refl) single)
step_single c i s (ReadOwn x j) world n h k a single leaves once = none_new (single_kept world (own_section s) n h (with_register _) (λ x. refl) (λ x. refl) single)
step_single c i s (ReadCat u) world n h k a single leaves once = none_new (single_kept world (own_section s) n h (with_register _) (λ x. refl) (λ x. refl) single)
step_single c i s (StoreNew x part word) world n h k a single leaves once =
    let mu : Mutates c i s = mutates c i s (StoreNew x part word) k (and_parts (nat_lt x c.shape.cells && nat_le part (c.shape.fields + 1)) (may_mutate s) k.ok.0).1 in
    subst (λ (j : ℕ). IsSingle (in_section world j (with_part c.shape.fields part word)) n (h + (if makes_object c.shape.fields (StoreNew x part word) then 1 else 0))) (sym mu.own)
    (new_by (nat_lt part c.shape.fields) (part == c.shape.fields) c.shape.fields word world i n h single leaves once (let l = mu.inside in let m = a.sections in omega (arith, l, m)))
step_single c i s step world n h k a single leaves once = none_new single
