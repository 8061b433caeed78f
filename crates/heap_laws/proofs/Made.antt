-- What an object that is made has as its value.
use Rattle.std.proofs.Common.{ℕ, ◌≡◌, ◌≢◌, ◌+◌, ◌<◌, ◌≤◌, ◌==◌, ◌||◌, ◌∙◌, zero, suc, List, [], ◌∷◌, ◌++◌, set, length, refl, sym, ap, subst, not, Bool, true, false, Option, None, Some, eqb-true, ⊎_elim}
use Rattle.std.specs.Prelude.{if◌then◌else◌, nat_lt, replicate, slice_get}
use Rattle.std.proofs.lemmas.Bool.{cases_eq, cases_lt, or_cases, false≢true}
use Rattle.std.proofs.lemmas.List.{set_past}
use Rattle.std.proofs.lemmas.Option.{same_Some}
use Rattle.plain_heap.specs.Paths.{Name}
use Rattle.mark_core.specs.Layout.{words_of}
use Rattle.mark_core.specs.Steps.{Core}
use Rattle.mark_core.specs.declared.kinds.Step.{Step}
use Rattle.mark_core.specs.declared.kinds.Step.TheVariants.{ExchangeField, ExchangeValue, ReadCat, ReadOwn, ReadSlot, ReadWeak, StoreField, StoreNew, StoreRoot, StoreSlot, StoreValue, HoldRoot}
use Rattle.mark_core.specs.declared.seat.SeatState.{SeatState}
use Rattle.gc_table.specs.RunWorlds.{World, WorldObject, WorldSection, in_section, object_of, own_section, replaced, section_of, variable_of, with_new, with_object, with_part, with_register, with_variable, world_by}
use Rattle.gc_table.proofs.Reading.{none-some, section-other, section-same}
use Rattle.heap_laws.specs.LentLocks.{makes_zero}
use Rattle.heap_laws.proofs.Sections.{change_keeps, object_keeps}

-- where no element is none comes by a change of another
none_set : {X : Type 0} (xs : List X) (i k : ℕ) (y : X) → slice_get xs k ≡ None → slice_get (set xs i y) k ≡ None
none_set [] i k y e = e
none_set (x ∷ xs) zero zero y e = absurd (none-some x (sym e))
none_set (x ∷ xs) zero (suc k) y e = e
none_set (x ∷ xs) (suc i) zero y e = absurd (none-some x (sym e))
none_set (x ∷ xs) (suc i) (suc k) y e = none_set xs i k y e

-- an element that was added
added : {X : Type 0} (xs : List X) (y z : X) (k : ℕ) → slice_get xs k ≡ None → slice_get (xs ++ y ∷ []) k ≡ Some z → z ≡ y
added [] y z zero e f = same_Some z y (sym f)
added [] y z (suc k) e f = absurd (none-some z f)
added (x ∷ xs) y z zero e f = absurd (none-some x (sym e))
added (x ∷ xs) y z (suc k) e f = added xs y z k e f

-- a change of an object makes none
changes_none : (world : World) (to : Option Name) (f : WorldObject → WorldObject) (name : Name) → object_of world name ≡ None → object_of (with_object world to f) name ≡ None
changes_none world None f name e = e
changes_none world (Some other) f name e =
    let g : WorldSection → WorldSection = λ x. record x { objects = replaced x.objects other.number f } in
    ⊎_elim
    (λ (h : other.section < length world).
    ⊎_elim
    (λ (s : name.section ≡ other.section).
    subst (λ (z : ℕ). slice_get (section_of (in_section world other.section g) z).objects name.number ≡ None) (sym s)
    (ap (λ (x : WorldSection). slice_get x.objects name.number) (section-same world other.section g h)
    ∙ none_set (section_of world other.section).objects other.number name.number _ (subst (λ (z : ℕ). slice_get (section_of world z).objects name.number ≡ None) s e)))
    (λ (d : name.section ≢ other.section). ap (λ (x : WorldSection). slice_get x.objects name.number) (section-other world other.section name.section g d) ∙ e)
    (cases_eq name.section other.section))
    (λ (h : length world ≤ other.section). ap (λ (x : World). object_of x name) (set_past world other.section (g (section_of world other.section)) h) ∙ e)
    (cases_lt other.section (length world))

-- nor does a change of a section that leaves objects
leaves_none : (world : World) (w : ℕ) (f : WorldSection → WorldSection) (name : Name) → ((x : WorldSection) → (f x).objects ≡ x.objects) → object_of world name ≡ None → object_of (in_section world w f) name ≡ None
leaves_none world w f name same e = ap (λ (xs : List WorldObject). slice_get xs name.number) (change_keeps (λ (x : WorldSection). x.objects) world w name.section f same) ∙ e

-- a part of a new cell makes one of the section's coming value, whose fields are nil
part_object : (a q : Bool) (fields word : ℕ) (x : WorldSection) (k : ℕ) (object : WorldObject) → slice_get x.objects k ≡ None → slice_get (if a then x else if q then record x { coming = word } else with_new fields x).objects k ≡ Some object
    → object ≡ record { value = x.coming; refs = replicate fields None }
part_object true q fields word x k object e f = absurd (none-some object (sym e ∙ f))
part_object false true fields word x k object e f = absurd (none-some object (sym e ∙ f))
part_object false false fields word x k object e f = added x.objects _ object k e f

part_made : (world : World) (w fields part word : ℕ) (name : Name) (object : WorldObject) → object_of world name ≡ None → object_of (in_section world w (with_part fields part word)) name ≡ Some object
    → object ≡ record { value = (section_of world name.section).coming; refs = replicate fields None }
part_made world w fields part word name object e f =
    let g : WorldSection → WorldSection = with_part fields part word in
    ⊎_elim
    (λ (h : w < length world).
    ⊎_elim
    (λ (s : name.section ≡ w).
    let here : slice_get (g (section_of world w)).objects name.number ≡ Some object =
    ap (λ (x : WorldSection). slice_get x.objects name.number) (sym (section-same world w g h)) ∙ subst (λ (z : ℕ). slice_get (section_of (in_section world w g) z).objects name.number ≡ Some object) s f in
    let none : slice_get (section_of world w).objects name.number ≡ None = subst (λ (z : ℕ). slice_get (section_of world z).objects name.number ≡ None) s e in
    let new : ℕ → WorldObject = λ z. record { value = (section_of world z).coming; refs = replicate fields None } in
    part_object (nat_lt part fields) (part == fields) fields word (section_of world w) name.number object none here ∙ ap new (sym s))
    (λ (d : name.section ≢ w). absurd (none-some object (sym e ∙ (sym (ap (λ (x : WorldSection). slice_get x.objects name.number) (section-other world w name.section g d)) ∙ f))))
    (cases_eq name.section w))
    (λ (h : length world ≤ w). absurd (none-some object (sym e ∙ (sym (ap (λ (x : World). object_of x name) (set_past world w (g (section_of world w)) h)) ∙ f))))
    (cases_lt w (length world))

-- an object that a step makes has the value that its section's seat stored last in a new cell, and nil fields
pub made-object : (c : Core) (s : SeatState) (step : Step) (world : World) (name : Name) (object : WorldObject) → object_of world name ≡ None → object_of (world_by c.shape (words_of c.shape c.words) s step world) name ≡ Some object
    → object ≡ record { value = (section_of world name.section).coming; refs = replicate c.shape.fields None }
made-object c s (StoreField v i x) world name object e f = absurd (none-some object (sym (changes_none world (variable_of world (own_section s) v) _ name e) ∙ f))
made-object c s (StoreValue v n) world name object e f = absurd (none-some object (sym (changes_none world (variable_of world (own_section s) v) _ name e) ∙ f))
made-object c s (ExchangeField v i x y) world name object e f = absurd (none-some object (sym (changes_none world (variable_of world (own_section s) v) _ name e) ∙ f))
made-object c s (ExchangeValue v m n) world name object e f = absurd (none-some object (sym (changes_none world (variable_of world (own_section s) v) _ name e) ∙ f))
made-object c s (StoreRoot v r) world name object e f = absurd (none-some object (sym (leaves_none world (own_section s) (with_variable v _) name (λ x. refl) e) ∙ f))
made-object c s (HoldRoot v r) world name object e f = absurd (none-some object (sym (leaves_none world (own_section s) (with_variable v _) name (λ x. refl) e) ∙ f))
made-object c s (StoreSlot k r) world name object e f = absurd (none-some object (sym (leaves_none world (own_section s) (with_variable (32 + k) _) name (λ x. refl) e) ∙ f))
made-object c s (ReadSlot k) world name object e f = absurd (none-some object (sym (leaves_none world (own_section s) (with_register _) name (λ x. refl) e) ∙ f))
made-object c s (ReadWeak x) world name object e f = absurd (none-some object (sym (leaves_none world (own_section s) (with_register _) name (λ y. refl) e) ∙ f))
made-object c s (ReadOwn x i) world name object e f = absurd (none-some object (sym (leaves_none world (own_section s) (with_register _) name (λ y. refl) e) ∙ f))
made-object c s (ReadCat v) world name object e f = absurd (none-some object (sym (leaves_none world (own_section s) (with_register _) name (λ y. refl) e) ∙ f))
made-object c s (StoreNew x part word) world name object e f = part_made world (own_section s) c.shape.fields part word name object e f
made-object c s step world name object e f = absurd (none-some object (sym e ∙ f))

pub made-value : (c : Core) (s : SeatState) (step : Step) (world : World) (name : Name) (object : WorldObject) → object_of world name ≡ None → object_of (world_by c.shape (words_of c.shape c.words) s step world) name ≡ Some object → object.value ≡ (section_of world name.section).coming
made-value c s step world name object e f = ap (λ (o : WorldObject). o.value) (made-object c s step world name object e f)

-- the coming value of a section stays 0, if its seat stores no other in a new cell
part_coming : (a q : Bool) (fields word : ℕ) (x : WorldSection) → (not q || (word == 0)) ≡ true → x.coming ≡ 0 → (if a then x else if q then record x { coming = word } else with_new fields x).coming ≡ 0
part_coming true q fields word x z e = e
part_coming false true fields word x z e = ⊎_elim (λ (f : not true ≡ true). absurd (false≢true f)) (λ (f : (word == 0) ≡ true). eqb-true word 0 f) (or_cases (not true) (word == 0) z)
part_coming false false fields word x z e = e

in_coming : (world : World) (w k : ℕ) (f : WorldSection → WorldSection) → ((x : WorldSection) → x.coming ≡ 0 → (f x).coming ≡ 0) → (section_of world k).coming ≡ 0 → (section_of (in_section world w f) k).coming ≡ 0
in_coming world w k f keeps e =
    ⊎_elim
    (λ (h : w < length world).
    ⊎_elim
    (λ (s : k ≡ w).
    subst (λ (z : ℕ). (section_of (in_section world w f) z).coming ≡ 0) (sym s)
    (ap (λ (x : WorldSection). x.coming) (section-same world w f h) ∙ keeps (section_of world w) (subst (λ (z : ℕ). (section_of world z).coming ≡ 0) s e)))
    (λ (d : k ≢ w). ap (λ (x : WorldSection). x.coming) (section-other world w k f d) ∙ e)
    (cases_eq k w))
    (λ (h : length world ≤ w). ap (λ (x : World). (section_of x k).coming) (set_past world w (f (section_of world w)) h) ∙ e)
    (cases_lt w (length world))

pub coming-own : (c : Core) (s : SeatState) (step : Step) (world : World) (k : ℕ) → makes_zero c.shape.fields step ≡ true → (section_of world k).coming ≡ 0 → (section_of (world_by c.shape (words_of c.shape c.words) s step world) k).coming ≡ 0
coming-own c s (StoreField v i x) world k z e = object_keeps (λ (y : WorldSection). y.coming) (λ y objects. refl) world (variable_of world (own_section s) v) _ k ∙ e
coming-own c s (StoreValue v n) world k z e = object_keeps (λ (y : WorldSection). y.coming) (λ y objects. refl) world (variable_of world (own_section s) v) _ k ∙ e
coming-own c s (ExchangeField v i x y) world k z e = object_keeps (λ (q : WorldSection). q.coming) (λ q objects. refl) world (variable_of world (own_section s) v) _ k ∙ e
coming-own c s (ExchangeValue v m n) world k z e = object_keeps (λ (q : WorldSection). q.coming) (λ q objects. refl) world (variable_of world (own_section s) v) _ k ∙ e
coming-own c s (StoreRoot v r) world k z e = in_coming world (own_section s) k (with_variable v _) (λ x f. f) e
coming-own c s (HoldRoot v r) world k z e = in_coming world (own_section s) k (with_variable v _) (λ x f. f) e
coming-own c s (StoreSlot j r) world k z e = in_coming world (own_section s) k (with_variable (32 + j) _) (λ x f. f) e
coming-own c s (ReadSlot j) world k z e = in_coming world (own_section s) k (with_register _) (λ x f. f) e
coming-own c s (ReadWeak x) world k z e = in_coming world (own_section s) k (with_register _) (λ y f. f) e
coming-own c s (ReadOwn x i) world k z e = in_coming world (own_section s) k (with_register _) (λ y f. f) e
coming-own c s (ReadCat v) world k z e = in_coming world (own_section s) k (with_register _) (λ y f. f) e
coming-own c s (StoreNew x part word) world k z e =
    in_coming world (own_section s) k (with_part c.shape.fields part word) (λ y f. part_coming (nat_lt part c.shape.fields) (part == c.shape.fields) c.shape.fields word y z f) e
coming-own c s step world k z e = e
