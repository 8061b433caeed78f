-- The value of an object by its name: a step through a variable that refers to it says what it is afterwards, and every other step leaves it.
use Rattle.std.proofs.Common.{ℕ, ◌≡◌, ◌==◌, refl, sym, ap, ◌∙◌, subst, Bool, true, false, Option, None, Some, ⊎_elim}
use Rattle.std.specs.Prelude.{if◌then◌else◌, slice_get}
use Rattle.std.proofs.lemmas.Bool.{cases_Bool, false≢true, true≢false}
use Rattle.std.proofs.lemmas.Option.{same_Some}
use Rattle.plain_heap.specs.Paths.{Name}
use Rattle.mark_core.specs.Layout.{Words, words_of}
use Rattle.mark_core.specs.Steps.{Core}
use Rattle.mark_core.specs.declared.kinds.Event.{Event}
use Rattle.mark_core.specs.declared.kinds.Shape.{Shape}
use Rattle.mark_core.specs.declared.kinds.Step.{Step}
use Rattle.mark_core.specs.declared.kinds.Step.TheVariants.{ExchangeField, ExchangeValue, StoreField, StoreValue}
use Rattle.mark_core.specs.declared.seat.SeatState.{SeatState}
use Rattle.mark_core.proofs.Blocks.BlocksStopped.{Taken}
use Rattle.gc_table.specs.Agreement.{AgreesWith}
use Rattle.gc_table.specs.AgreementLaws.{FindsValue, StoresIn, found_of, world_after, world_of}
use Rattle.gc_table.specs.RunWorlds.{World, WorldObject, is_same, object_of, own_section, reference_of, stored, variable_of, with_exchanged, with_exchanged_value, with_object, with_reference, with_value, world_by}
use Rattle.gc_table.proofs.Exchanges.{same-as}
use Rattle.gc_table.proofs.Forgetting.{none_forgotten, same-is}
use Rattle.gc_table.proofs.Reading.{object-changed}
use Rattle.gc_table.proofs.Winning.{finds-value}
use Rattle.heap_laws.specs.Named.{acts_on}

-- the value after a step, by whether it acts on the object
abbrev pub value_by : Bool → Step → ℕ → ℕ
value_by false step n = n
value_by true (StoreValue v x) n = x
value_by true (ExchangeValue v m x) n = if n == m then x else n
value_by true step n = n

-- who stores in the object acts on it
stores_act : (world : World) (s : SeatState) (step : Step) (name : Name) → StoresIn world (own_section s) step name → acts_on world (Some s) step name ≡ true
stores_act world s (StoreField v i x) name e = ap (λ (o : Option Name). is_same o (Some name)) e ∙ same-as (Some name)
stores_act world s (StoreValue v n) name e = ap (λ (o : Option Name). is_same o (Some name)) e ∙ same-as (Some name)
stores_act world s (ExchangeField v i x y) name e = ap (λ (o : Option Name). is_same o (Some name)) e.0 ∙ same-as (Some name)
stores_act world s (ExchangeValue v m n) name e = ap (λ (o : Option Name). is_same o (Some name)) e.0 ∙ same-as (Some name)
stores_act world s step name e = absurd e

-- an object on which a seat doesn't act stays as it is
seat_keeps : (sh : Shape) (w : Words) (s : SeatState) (step : Step) (world : World) (name : Name) (object : WorldObject) → object_of world name ≡ Some object → acts_on world (Some s) step name ≡ false → object_of (world_by sh w s step world) name ≡ Some object
seat_keeps sh w s step world name object e none =
    let r = none_forgotten sh w s step world name object e in
    ⊎_elim
    (λ (same : r.0 ≡ object). r.1 ∙ ap (λ (o : WorldObject). Some o) same)
    (λ (stores : StoresIn world (own_section s) step name). absurd (true≢false (sym (stores_act world s step name stores) ∙ none)))
    r.2

kept_of : (c : Core) (o : Option SeatState) (step : Step) (world : World) (name : Name) (object : WorldObject) → object_of world name ≡ Some object → acts_on world o step name ≡ false → object_of (world_of c o step world) name ≡ Some object
kept_of c None step world name object e none = e
kept_of c (Some s) step world name object e none = seat_keeps c.shape (words_of c.shape c.words) s step world name object e none

pub object-kept : (c : Core) (e : Event) (world : World) (name : Name) (object : WorldObject) → object_of world name ≡ Some object → acts_on world (slice_get c.seats e.seat) e.step name ≡ false → object_of (world_after c e world) name ≡ Some object
object-kept c e world name object there none = kept_of c (slice_get c.seats e.seat) e.step world name object there none

-- the object of the variable changes
changed : (world : World) (to : Option Name) (name : Name) (f : WorldObject → WorldObject) (object : WorldObject) → object_of world name ≡ Some object → is_same to (Some name) ≡ true → object_of (with_object world to f) name ≡ Some (f object)
changed world to name f object there e = subst (λ (o : Option Name). object_of (with_object world o f) name ≡ Some (f object)) (sym (same-is to (Some name) e)) (object-changed world name f object there)

same_value : (b : Bool) (p q : WorldObject) → p.value ≡ q.value → (if b then p else q).value ≡ q.value
same_value true p q e = e
same_value false p q e = refl

new_value : (b : Bool) (n : ℕ) (object : WorldObject) → (if b then with_value n object else object).value ≡ (if b then n else object.value)
new_value true n object = refl
new_value false n object = refl

-- an object and its value after a step of a seat that acts on it
acted_value : (sh : Shape) (w : Words) (s : SeatState) (step : Step) (world : World) (name : Name) (object : WorldObject) → object_of world name ≡ Some object → acts_on world (Some s) step name ≡ true
    → (after : WorldObject) × (object_of (world_by sh w s step world) name ≡ Some after) × (after.value ≡ value_by true step object.value)
acted_value sh w s (StoreField v i x) world name object there e =
    let f : WorldObject → WorldObject = with_reference i (stored world (own_section s) x) in
    (f object, changed world (variable_of world (own_section s) v) name f object there e, refl)
acted_value sh w s (StoreValue v n) world name object there e = (with_value n object, changed world (variable_of world (own_section s) v) name (with_value n) object there e, refl)
acted_value sh w s (ExchangeField v i x y) world name object there e =
    let from : Option Name = stored world (own_section s) x in
    let to : Option Name = stored world (own_section s) y in
    let f : WorldObject → WorldObject = with_exchanged i from to in
    (f object, changed world (variable_of world (own_section s) v) name f object there e, same_value (is_same (reference_of object i) from) (with_reference i to object) object refl)
acted_value sh w s (ExchangeValue v m n) world name object there e =
    let f : WorldObject → WorldObject = with_exchanged_value m n in
    (f object, changed world (variable_of world (own_section s) v) name f object there e, new_value (object.value == m) n object)
acted_value sh w s step world name object there e = absurd (false≢true e)

pub value-next : (c : Core) (e : Event) (s : SeatState) (world : World) (name : Name) (object : WorldObject) → slice_get c.seats e.seat ≡ Some s → object_of world name ≡ Some object
    → (after : WorldObject) × (object_of (world_after c e world) name ≡ Some after) × (after.value ≡ value_by (acts_on world (Some s) e.step name) e.step object.value)
value-next c e s world name object got there =
    let acts : Bool = acts_on world (Some s) e.step name in
    let w : Words = words_of c.shape c.words in
    let Is : Bool → Type 0 = λ b. (after : WorldObject) × (object_of (world_by c.shape w s e.step world) name ≡ Some after) × (after.value ≡ value_by b e.step object.value) in
    let r : Is acts =
    ⊎_elim
    (λ (t : acts ≡ true). subst Is (sym t) (acted_value c.shape w s e.step world name object there t))
    (λ (f : acts ≡ false). subst Is (sym f) (object, seat_keeps c.shape w s e.step world name object there f, refl))
    (cases_Bool acts) in
    (r.0, ap (λ (o : Option SeatState). object_of (world_of c o e.step world) name) got ∙ r.1, r.2)

-- an exchange of the value of the object finds it
pub value-found : (c : Core) (i : ℕ) (s : SeatState) (v m n : ℕ) (world : World) (name : Name) (object : WorldObject) → Taken c i s (ExchangeValue v m n) → AgreesWith c world → object_of world name ≡ Some object → acts_on world (Some s) (ExchangeValue v m n) name ≡ true
    → found_of c (Some s) (ExchangeValue v m n) ≡ object.value
value-found c i s v m n world name object t a there acts =
    let f : FindsValue c world s v m n (found_of c (Some s) (ExchangeValue v m n)) = finds-value c i s v m n world t a in
    let is : variable_of world (own_section s) v ≡ Some name = same-is (variable_of world (own_section s) v) (Some name) acts in
    let named : f.name ≡ name = same_Some f.name name (sym f.variable ∙ is) in
    f.found ∙ ap (λ (o : WorldObject). o.value) (same_Some f.object object (sym f.there ∙ (ap (object_of world) named ∙ there)))
