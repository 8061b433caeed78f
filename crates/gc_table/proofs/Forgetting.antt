-- No step forgets an object, and none changes one but a store in it.
use Rattle.mark_core.specs.Steps.MutatorSteps.{weak_reference}
use Rattle.std.proofs.Common.{ℕ, ◌≡◌, ◌≢◌, ◌⊎◌, ◌<◌, ◌≤◌, zero, suc, List, [], ◌∷◌, set, length, arith, refl, sym, ap, ◌∙◌, subst, Bool, true, false, cond, eqb, Option, Some, None, inl, inr, ⊎_elim, ◌+◌, ◌/◌}
use Rattle.std.specs.Prelude.{nat_lt, slice_index}
use Rattle.std.proofs.lemmas.Bool.{false≢true, and_parts, eqb-true, cases_eq, cases_lt, cases_Bool}
use Rattle.plain_heap.specs.Paths.{Name}
use Rattle.mark_core.specs.declared.kinds.Step.{Step}
use Rattle.mark_core.specs.declared.kinds.Step.TheVariants.{ReadOwn, ReadCat, StoreField, StoreValue, StoreRoot, StoreNew, ExchangeField, ExchangeValue, StoreSlot, ReadSlot, ReadWeak, HoldRoot}
use Rattle.gc_table.specs.RunWorlds.{World, WorldObject, WorldSection, variable_of, object_of, reference_of, is_same, in_section, section_of, followed, with_register, with_variable, with_reference, with_value, with_new, with_part, with_object, stored, name_at, referred, own_section, with_exchanged, with_exchanged_value}
use Rattle.gc_table.specs.AgreementLaws.{StoresIn, HasReference, HasValue, NoneForgotten}
use Rattle.gc_table.proofs.Reading.{object-kept, object-changed, object-other}
use Rattle.gc_table.proofs.NewObjects.{before-new}

-- what is kept of the object
abbrev Kept : World → World → ℕ → Step → Name → WorldObject → Type 0
Kept world after w step name object = (p : WorldObject) × (object_of after name ≡ Some p) × ((p ≡ object) ⊎ StoresIn world w step name)

-- a section that doesn't exist doesn't change
set_past : {X : Type 0} (xs : List X) (i : ℕ) (x : X) → length xs ≤ i → set xs i x ≡ xs
set_past [] i x h = refl
set_past (y ∷ ys) zero x h = absurd (omega (arith, h))
set_past {X = X} (y ∷ ys) (suc i) x h = ap (λ (zs : List X). y ∷ zs) (set_past ys i x (omega (arith, h)))

-- a change of a section that keeps objects
keeps : (world : World) (i w : ℕ) (step : Step) (f : WorldSection → WorldSection) (name : Name) (object : WorldObject) → (i < length world → object_of (in_section world i f) name ≡ Some object) → object_of world name ≡ Some object
    → Kept world (in_section world i f) w step name object
keeps world i w step f name object there e =
    ⊎_elim
    (λ (h : i < length world). (object, there h, inl refl))
    (λ (h : length world ≤ i). (object, ap (λ (x : World). object_of x name) (set_past world i (f (section_of world i)) h) ∙ e, inl refl))
    (cases_lt i (length world))

abbrev name_with : ℕ → ℕ → Name
name_with section number = record { section = section; number = number }

-- names are told by their parts
pub name-is : (x y : Name) → y.section ≡ x.section → y.number ≡ x.number → x ≡ y
name-is x y a b = ap (λ (n : ℕ). name_with n x.number) (sym a) ∙ ap (λ (n : ℕ). name_with y.section n) (sym b)

-- an object changes, or another one
changes : (world : World) (to : Option Name) (f : WorldObject → WorldObject) (name : Name) (object : WorldObject) → object_of world name ≡ Some object
    → (p : WorldObject) × (object_of (with_object world to f) name ≡ Some p) × ((p ≡ object) ⊎ (to ≡ Some name))
changes world None f name object e = (object, e, inl refl)
changes world (Some other) f name object e = of (cases_eq name.section other.section) (cases_eq name.number other.number)
  where
    Is : Type 0
    Is = (p : WorldObject) × (object_of (with_object world (Some other) f) name ≡ Some p) × ((p ≡ object) ⊎ (Some other ≡ Some name))

    apart : (name.section ≡ other.section → name.number ≢ other.number) → Is
    apart d =
        ⊎_elim
        (λ (h : other.section < length world). (object, object-other world other name f h d ∙ e, inl refl))
        (λ (h : length world ≤ other.section). (object, ap (λ (x : World). object_of x name) (set_past world other.section _ h) ∙ e, inl refl))
        (cases_lt other.section (length world))

    of : (name.section ≡ other.section) ⊎ (name.section ≢ other.section) → (name.number ≡ other.number) ⊎ (name.number ≢ other.number) → Is
    of (inl a) (inl b) =
        let same : other ≡ name = name-is other name a b in
        (f object, subst (λ (n : Name). object_of (with_object world (Some n) f) name ≡ Some (f object)) (sym same) (object-changed world name f object e), inr (ap (λ (n : Name). Some n) same))
    of (inl a) (inr d) = apart (λ _. d)
    of (inr d) b = apart (λ h. absurd (d h))

-- what is the same is equal
pub same-is : (x y : Option Name) → is_same x y ≡ true → x ≡ y
same-is None None e = refl
same-is None (Some y) e = absurd (false≢true e)
same-is (Some x) None e = absurd (false≢true e)
same-is (Some x) (Some y) e =
    let a = and_parts (eqb x.section y.section) (eqb x.number y.number) e in
    ap (λ (n : Name). Some n) (name-is x y (sym (eqb-true x.section y.section a.0)) (sym (eqb-true x.number y.number a.1)))

-- an object changes if it has what is expected
exchanged : (world : World) (to : Option Name) (won : Bool) (f g : WorldObject → WorldObject) (name : Name) (object : WorldObject) (Has : Type 0) → object_of world name ≡ Some object → f object ≡ cond won (g object) object → (won ≡ true → Has)
    → (p : WorldObject) × (object_of (with_object world to f) name ≡ Some p) × ((p ≡ object) ⊎ ((to ≡ Some name) × Has))
exchanged world to won f g name object Has e is has =
    let r = changes world to f name object e in
    ⊎_elim
    (λ (same : r.0 ≡ object). (r.0, r.1, inl same))
    (λ (at : to ≡ Some name). by_won won is has at)
    r.2
  where
    Is : Type 0
    Is = (p : WorldObject) × (object_of (with_object world to f) name ≡ Some p) × ((p ≡ object) ⊎ ((to ≡ Some name) × Has))

    by_won : (b : Bool) → f object ≡ cond b (g object) object → (b ≡ true → Has) → to ≡ Some name → Is
    by_won b is has at =
        let after : object_of (with_object world to f) name ≡ Some (f object) = subst (λ (o : Option Name). object_of (with_object world o f) name ≡ Some (f object)) (sym at) (object-changed world name f object e) in
        ⊎_elim
        (λ (t : b ≡ true). (f object, after, inr (at, has t)))
        (λ (t : b ≡ false). (f object, after, inl (is ∙ ap (λ (z : Bool). cond z (g object) object) t)))
        (cases_Bool b)

-- a part of a new cell
part_keeps : (world : World) (i fields part word : ℕ) (name : Name) (object : WorldObject) (a b : Bool) → object_of world name ≡ Some object → i < length world
    → object_of (in_section world i (λ (x : WorldSection). cond a x (cond b (record x { coming = word }) (with_new fields x)))) name ≡ Some object
part_keeps world i fields part word name object true b e h = object-kept world i (λ (x : WorldSection). x) name h refl ∙ e
part_keeps world i fields part word name object false true e h = object-kept world i (λ (x : WorldSection). record x { coming = word }) name h refl ∙ e
part_keeps world i fields part word name object false false e h = before-new world i fields name object h e

pub none_forgotten : NoneForgotten
none_forgotten sh w s (StoreField v i x) world name object e = changes world (variable_of world (own_section s) v) (with_reference i (stored world (own_section s) x)) name object e
none_forgotten sh w s (StoreValue v n) world name object e = changes world (variable_of world (own_section s) v) (with_value n) name object e
none_forgotten sh w s (ExchangeField v i x y) world name object e =
    let from : Option Name = stored world (own_section s) x in
    let to : Option Name = stored world (own_section s) y in
    exchanged world (variable_of world (own_section s) v) (is_same (reference_of object i) from) (with_exchanged i from to) (with_reference i to) name object (HasReference world name i from) e refl (λ b. (object, e, same-is (reference_of object i) from b))
none_forgotten sh w s (ExchangeValue v m n) world name object e =
    exchanged world (variable_of world (own_section s) v) (eqb object.value m) (with_exchanged_value m n) (with_value n) name object (HasValue world name m) e refl (λ b. (object, e, eqb-true object.value m b))
none_forgotten sh w s (StoreRoot v r) world name object e = keeps world (own_section s) (own_section s) (StoreRoot v r) (with_variable v (referred w.identities r)) name object (λ h. object-kept world (own_section s) (with_variable v (referred w.identities r)) name h refl ∙ e) e
none_forgotten sh w s (HoldRoot v r) world name object e = keeps world (own_section s) (own_section s) (HoldRoot v r) (with_variable v (referred w.identities r)) name object (λ h. object-kept world (own_section s) (with_variable v (referred w.identities r)) name h refl ∙ e) e
none_forgotten sh w s (StoreSlot j r) world name object e =
    let f : WorldSection → WorldSection = with_variable (32 + j) (referred w.identities r) in keeps world (own_section s) (own_section s) (StoreSlot j r) f name object (λ h. object-kept world (own_section s) f name h refl ∙ e) e
none_forgotten sh w s (ReadSlot j) world name object e =
    let f : WorldSection → WorldSection = with_register (variable_of world (own_section s) (32 + j)) in keeps world (own_section s) (own_section s) (ReadSlot j) f name object (λ h. object-kept world (own_section s) f name h refl ∙ e) e
none_forgotten sh w s (ReadOwn c i) world name object e =
    let f : WorldSection → WorldSection = with_register (followed (object_of world (name_at w.identities c)) i) in
    keeps world (own_section s) (own_section s) (ReadOwn c i) f name object (λ h. object-kept world (own_section s) f name h refl ∙ e) e
none_forgotten sh w s (ReadWeak c) world name object e =
    let f : WorldSection → WorldSection = with_register (referred w.identities (weak_reference s c (slice_index w.allocs (c / 64)))) in keeps world (own_section s) (own_section s) (ReadWeak c) f name object (λ h. object-kept world (own_section s) f name h refl ∙ e) e
none_forgotten sh w s (ReadCat v) world name object e =
    let f : WorldSection → WorldSection = with_register (variable_of world 0 v) in keeps world (own_section s) (own_section s) (ReadCat v) f name object (λ h. object-kept world (own_section s) f name h refl ∙ e) e
none_forgotten sh w s (StoreNew c part word) world name object e =
    keeps world (own_section s) (own_section s) (StoreNew c part word) (with_part sh.fields part word) name object
    (part_keeps world (own_section s) sh.fields part word name object (nat_lt part sh.fields) (eqb part sh.fields) e) e
none_forgotten sh w s step world name object e = (object, e, inl refl)
