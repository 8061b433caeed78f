-- What a step makes of an object and its fields.
use Rattle.std.proofs.Common.{ℕ, ◌≡◌, ◌≢◌, ◌⊎◌, ◌<◌, ◌==◌, ◌&&◌, length, refl, sym, ap, ◌∙◌, subst, Bool, true, false, Option, None, Some, eq-eqb, ne_eqb, inl, inr, ⊎_elim}
use Rattle.std.specs.Prelude.{if◌then◌else◌, slice_get}
use Rattle.std.proofs.lemmas.Bool.{cases_Bool, cases_eq}
use Rattle.std.proofs.lemmas.List.{get_or-set_other, get_or-set_same}
use Rattle.std.proofs.lemmas.Option.{same_Some}
use Rattle.plain_heap.specs.Paths.{Name}
use Rattle.mark_core.specs.Layout.{words_of}
use Rattle.mark_core.specs.Steps.{Core}
use Rattle.mark_core.specs.declared.kinds.Event.{Event}
use Rattle.mark_core.specs.declared.kinds.Step.{Step}
use Rattle.mark_core.specs.declared.kinds.Step.TheVariants.{ExchangeField, StoreField}
use Rattle.mark_core.specs.declared.seat.SeatState.{SeatState}
use Rattle.mark_core.proofs.Blocks.BlocksStopped.{Taken}
use Rattle.gc_table.specs.Agreement.{AgreesWith}
use Rattle.gc_table.specs.AgreementLaws.{FindsReference, found_of, world_after, world_of}
use Rattle.gc_table.specs.RunWorlds.{World, WorldObject, followed, is_same, object_of, own_section, reference_of, stored, variable_of, with_exchanged, with_object, with_reference, world_by}
use Rattle.gc_table.proofs.Forgetting.{same-is}
use Rattle.gc_table.proofs.Reading.{object-changed}
use Rattle.gc_table.proofs.Winning.{finds-reference}
use Rattle.heap_laws.specs.Labels.{field_of}
use Rattle.heap_laws.specs.Named.{acts_on, through}
use Rattle.heap_laws.proofs.Fields.{none_replicate}
use Rattle.heap_laws.proofs.Made.{made-object}
use Rattle.heap_laws.proofs.Values.{object-kept}
use Rattle.queue_laws.specs.Queues.{wins}
use Rattle.queue_laws.proofs.Chains.{is_itself}

-- the object of the step's variable changes, and every other stays
abbrev Touched : Core → Event → SeatState → World → ℕ → (WorldObject → WorldObject) → Name → WorldObject → Type 0
Touched c e s world v f name object =
    ((variable_of world (own_section s) v ≡ Some name) × (object_of (world_after c e world) name ≡ Some (f object))) ⊎ ((is_same (variable_of world (own_section s) v) (Some name) ≡ false) × (object_of (world_after c e world) name ≡ Some object))

touched : (c : Core) (e : Event) (s : SeatState) (world : World) (v : ℕ) (f : WorldObject → WorldObject) (name : Name) (object : WorldObject) → slice_get c.seats e.seat ≡ Some s → through e.step ≡ Some v
    → world_by c.shape (words_of c.shape c.words) s e.step world ≡ with_object world (variable_of world (own_section s) v) f → object_of world name ≡ Some object → Touched c e s world v f name object
touched c e s world v f name object got at is there =
    ⊎_elim
    (λ (t : is_same to (Some name) ≡ true).
    let named : to ≡ Some name = same-is to (Some name) t in
    inl (named, moved ∙ (ap (λ (o : Option Name). object_of (with_object world o f) name) named ∙ object-changed world name f object there)))
    (λ (n : is_same to (Some name) ≡ false). inr (n, object-kept c e world name object there (ap (λ (o : Option SeatState). acts_on world o e.step name) got ∙ (acts ∙ n))))
    (cases_Bool (is_same to (Some name)))
  where
    to : Option Name
    to = variable_of world (own_section s) v

    moved : object_of (world_after c e world) name ≡ object_of (with_object world to f) name
    moved = ap (λ (w : World). object_of w name) (ap (λ (o : Option SeatState). world_of c o e.step world) got ∙ is)

    acts : acts_on world (Some s) e.step name ≡ is_same to (Some name)
    acts = ap (λ (o : Option ℕ). is_same (stored world (own_section s) o) (Some name)) at

-- a step that goes through no variable leaves all objects
pub idle_kept : (c : Core) (e : Event) (s : SeatState) (world : World) (name : Name) (object : WorldObject) → slice_get c.seats e.seat ≡ Some s → through e.step ≡ None → object_of world name ≡ Some object → object_of (world_after c e world) name ≡ Some object
idle_kept c e s world name object got none there =
    object-kept c e world name object there (ap (λ (o : Option SeatState). acts_on world o e.step name) got ∙ ap (λ (o : Option ℕ). is_same (stored world (own_section s) o) (Some name)) none)

-- a store in a field
pub stored_next : (c : Core) (e : Event) (s : SeatState) (v i : ℕ) (x : Option ℕ) (world : World) (name : Name) (object : WorldObject) → slice_get c.seats e.seat ≡ Some s → e.step ≡ StoreField v i x → object_of world name ≡ Some object
    → (a : WorldObject) × (object_of (world_after c e world) name ≡ Some a) × (a.value ≡ object.value) × ((f : ℕ) → (variable_of world (own_section s) v ≡ Some name → f ≢ i) → reference_of a f ≡ reference_of object f)
stored_next c e s v i x world name object got is there =
    let to : Option Name = stored world (own_section s) x in
    ⊎_elim
    (λ (t : (variable_of world (own_section s) v ≡ Some name) × (object_of (world_after c e world) name ≡ Some (with_reference i to object))).
    (with_reference i to object, t.1, refl, λ f d. get_or-set_other object.refs i f to None (d t.0)))
    (λ (n : (is_same (variable_of world (own_section s) v) (Some name) ≡ false) × (object_of (world_after c e world) name ≡ Some object)). (object, n.1, refl, λ f d. refl))
    (touched c e s world v (with_reference i to) name object got (ap through is) (ap (λ (a : Step). world_by c.shape (words_of c.shape c.words) s a world) is) there)

-- an exchange in a field: it changes field f of this object
abbrev pub hits : World → ℕ → ℕ → ℕ → Option ℕ → Name → ℕ → Bool
hits world w v i x name f = (f == i) && (is_same (variable_of world w v) (Some name) && wins world w v i x)

no_test : {X : Type 0} (p : Bool) (to r : X) → (if (p && false) then to else r) ≡ r
no_test true to r = refl
no_test false to r = refl

exchanged_field : (b : Bool) (i f : ℕ) (to : Option Name) (object : WorldObject) → i < length object.refs → reference_of (if b then with_reference i to object else object) f ≡ (if ((f == i) && b) then to else reference_of object f)
exchanged_field true i f to object room =
    ⊎_elim
    (λ (same : f ≡ i).
    ap (λ (n : ℕ). reference_of (with_reference i to object) n) same
    ∙ (get_or-set_same object.refs i to None room ∙ ap (λ (p : Bool). if (p && true) then to else reference_of object f) (sym (eq-eqb f i same))))
    (λ (d : f ≢ i). get_or-set_other object.refs i f to None d ∙ ap (λ (p : Bool). if (p && true) then to else reference_of object f) (sym (ne_eqb f i d)))
    (cases_eq f i)
exchanged_field false i f to object room = sym (no_test (f == i) to (reference_of object f))

exchanged_value : (b : Bool) (i : ℕ) (to : Option Name) (object : WorldObject) → (if b then with_reference i to object else object).value ≡ object.value
exchanged_value true i to object = refl
exchanged_value false i to object = refl

pub exchanged_next : (c : Core) (e : Event) (s : SeatState) (v i : ℕ) (x y : Option ℕ) (world : World) (name : Name) (object : WorldObject) → Taken c e.seat s (ExchangeField v i x y) → AgreesWith c world → e.step ≡ ExchangeField v i x y → object_of world name ≡ Some object
    → (a : WorldObject) × (object_of (world_after c e world) name ≡ Some a) × (a.value ≡ object.value) × ((f : ℕ) → reference_of a f ≡ (if hits world (own_section s) v i x name f then stored world (own_section s) y else reference_of object f))
exchanged_next c e s v i x y world name object t agrees is there =
    ⊎_elim hit missed (touched c e s world v (with_exchanged i from to) name object t.got (ap through is) (ap (λ (a : Step). world_by c.shape (words_of c.shape c.words) s a world) is) there)
  where
    w : ℕ
    w = own_section s

    from : Option Name
    from = stored world (own_section s) x

    to : Option Name
    to = stored world (own_section s) y

    Is : Type 0
    Is = (a : WorldObject) × (object_of (world_after c e world) name ≡ Some a) × (a.value ≡ object.value) × ((f : ℕ) → reference_of a f ≡ (if hits world (own_section s) v i x name f then stored world (own_section s) y else reference_of object f))

    hit : (variable_of world (own_section s) v ≡ Some name) × (object_of (world_after c e world) name ≡ Some (with_exchanged i (stored world (own_section s) x) (stored world (own_section s) y) object)) → Is
    hit p = (with_exchanged i from to object, p.1, exchanged_value won i to object, λ f. exchanged_field won i f to object room ∙ ap (λ (b : Bool). if ((f == i) && b) then to else reference_of object f) (sym both))
      where
        won : Bool
        won = is_same (reference_of object i) from

        found : FindsReference c world s v i x y (found_of c (Some s) (ExchangeField v i x y))
        found = finds-reference c e.seat s v i x y world t agrees

        named : found.name ≡ name
        named = same_Some found.name name (sym found.variable ∙ p.0)

        same : found.object ≡ object
        same = same_Some found.object object (sym found.there ∙ (ap (object_of world) named ∙ there))

        room : i < length object.refs
        room = subst (λ (o : WorldObject). i < length o.refs) same found.exists

        wins_is : wins world w v i x ≡ won
        wins_is = ap (λ (o : Option Name). is_same (field_of world o i) from) p.0 ∙ ap (λ (o : Option WorldObject). is_same (followed o i) from) there

        both : (is_same (variable_of world w v) (Some name) && wins world w v i x) ≡ won
        both =
            ap (λ (o : Option Name). is_same o (Some name) && wins world w v i x) p.0
            ∙ (ap (λ (b : Bool). b && wins world w v i x) (is_itself name name refl) ∙ wins_is)

    missed : (is_same (variable_of world (own_section s) v) (Some name) ≡ false) × (object_of (world_after c e world) name ≡ Some object) → Is
    missed p = (object, p.1, refl, λ f. sym (ap (λ (b : Bool). if ((f == i) && (b && wins world w v i x)) then to else reference_of object f) p.0 ∙ no_test (f == i) to (reference_of object f)))

-- a new object's fields refer to nothing
pub made_next : (c : Core) (e : Event) (s : SeatState) (world : World) (name : Name) (object : WorldObject) (f : ℕ) → slice_get c.seats e.seat ≡ Some s → object_of world name ≡ None → object_of (world_after c e world) name ≡ Some object → reference_of object f ≡ None
made_next c e s world name object f got none at =
    ap (λ (o : WorldObject). reference_of o f) (made-object c s e.step world name object none (ap (λ (o : Option SeatState). object_of (world_of c o e.step world) name) (sym got) ∙ at))
    ∙ none_replicate c.shape.fields f

-- three tests, by what each is
pub tested : (p q r p2 q2 r2 : Bool) → p ≡ p2 → q ≡ q2 → r ≡ r2 → (p && (q && r)) ≡ (p2 && (q2 && r2))
tested p q r p2 q2 r2 a b d = ap (λ (z : Bool). z && (q && r)) a ∙ (ap (λ (z : Bool). p2 && (z && r)) b ∙ ap (λ (z : Bool). p2 && (q2 && z)) d)

pub no_last : (p q : Bool) → (p && (q && false)) ≡ false
no_last true true = refl
no_last true false = refl
no_last false q = refl

pub no_second : (p r : Bool) → (p && (false && r)) ≡ false
no_second true r = refl
no_second false r = refl

pub only_second : (q : Bool) → (true && (q && true)) ≡ q
only_second true = refl
only_second false = refl
