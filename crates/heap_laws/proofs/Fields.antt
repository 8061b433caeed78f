-- What a step that stores in no field leaves of an object's fields.
use Rattle.std.proofs.Common.{ℕ, ◌≡◌, ◌==◌, zero, suc, refl, sym, ap, ◌∙◌, Bool, true, false, Option, None, Some, ⊎_elim}
use Rattle.std.specs.Prelude.{if◌then◌else◌, slice_get, slice_index_or, replicate}
use Rattle.std.proofs.lemmas.Bool.{cases_Bool, true≢false}
use Rattle.plain_heap.specs.Paths.{Name}
use Rattle.mark_core.specs.Layout.{words_of}
use Rattle.mark_core.specs.Steps.{Core}
use Rattle.mark_core.specs.declared.kinds.Event.{Event}
use Rattle.mark_core.specs.declared.kinds.Step.{Step}
use Rattle.mark_core.specs.declared.kinds.Step.TheVariants.{ExchangeField, ExchangeValue, StoreField, StoreValue}
use Rattle.mark_core.specs.declared.seat.SeatState.{SeatState}
use Rattle.gc_table.specs.AgreementLaws.{world_after, world_of}
use Rattle.gc_table.specs.RunWorlds.{World, WorldObject, own_section, variable_of, with_object, world_by, object_of, with_exchanged_value, with_value}
use Rattle.gc_table.proofs.Reading.{object-changed}
use Rattle.gc_table.proofs.Forgetting.{same-is}
use Rattle.heap_laws.specs.Named.{acts_on}
use Rattle.heap_laws.proofs.Values.{object-kept}

-- the step may store in a field
abbrev pub stores_field : Step → Bool
stores_field (StoreField v i x) = true
stores_field (ExchangeField v i x y) = true
stores_field step = false

-- an object after a step that stores in no field: its fields are as they were, or it is new
same_refs : (b : Bool) (n : ℕ) (object : WorldObject) → (if b then with_value n object else object).refs ≡ object.refs
same_refs true n object = refl
same_refs false n object = refl

pub kept_refs : (c : Core) (e : Event) (s : SeatState) (world : World) (name : Name) (object : WorldObject) → slice_get c.seats e.seat ≡ Some s → stores_field e.step ≡ false → object_of world name ≡ Some object → (after : WorldObject) × (object_of (world_after c e world) name ≡ Some after) × (after.refs ≡ object.refs)
kept_refs c e s world name object got none there = by_step e.step refl
  where
    moved : world_after c e world ≡ world_by c.shape (words_of c.shape c.words) s e.step world
    moved = ap (λ (o : Option SeatState). world_of c o e.step world) got

    After : World → Type 0
    After w = (after : WorldObject) × (object_of w name ≡ Some after) × (after.refs ≡ object.refs)

    kept : acts_on world (Some s) e.step name ≡ false → (after : WorldObject) × (object_of (world_after c e world) name ≡ Some after) × (after.refs ≡ object.refs)
    kept idle = (object, object-kept c e world name object there (ap (λ (o : Option SeatState). acts_on world o e.step name) got ∙ idle), refl)

    valued : (v : ℕ) (f : WorldObject → WorldObject) → (f object).refs ≡ object.refs → world_after c e world ≡ with_object world (variable_of world (own_section s) v) f → acts_on world (Some s) e.step name ≡ true → variable_of world (own_section s) v ≡ Some name
        → (after : WorldObject) × (object_of (world_after c e world) name ≡ Some after) × (after.refs ≡ object.refs)
    valued v f same is acting to =
        (f object, ap (λ (w : World). object_of w name) is ∙ (ap (λ (o : Option Name). object_of (with_object world o f) name) to ∙ object-changed world name f object there), same)

    by_step : (a : Step) → e.step ≡ a → (after : WorldObject) × (object_of (world_after c e world) name ≡ Some after) × (after.refs ≡ object.refs)
    by_step (StoreField v i x) is = absurd (true≢false (sym (ap stores_field is) ∙ none))
    by_step (ExchangeField v i x y) is = absurd (true≢false (sym (ap stores_field is) ∙ none))
    by_step (StoreValue v n) is =
        ⊎_elim
        (λ (t : acts_on world (Some s) e.step name ≡ true).
        valued v (with_value n) refl (moved ∙ ap (λ (a : Step). world_by c.shape (words_of c.shape c.words) s a world) is) t (same-is (variable_of world (own_section s) v) (Some name) (sym (ap (λ (a : Step). acts_on world (Some s) a name) is) ∙ t)))
        (λ (f : acts_on world (Some s) e.step name ≡ false). kept f)
        (cases_Bool (acts_on world (Some s) e.step name))
    by_step (ExchangeValue v m n) is =
        ⊎_elim
        (λ (t : acts_on world (Some s) e.step name ≡ true).
        valued v (with_exchanged_value m n) (same_refs (object.value == m) n object) (moved ∙ ap (λ (a : Step). world_by c.shape (words_of c.shape c.words) s a world) is) t
        (same-is (variable_of world (own_section s) v) (Some name) (sym (ap (λ (a : Step). acts_on world (Some s) a name) is) ∙ t)))
        (λ (f : acts_on world (Some s) e.step name ≡ false). kept f)
        (cases_Bool (acts_on world (Some s) e.step name))
    by_step a is = kept (ap (λ (z : Step). acts_on world (Some s) z name) is)

-- nil
abbrev nil : Option Name
nil = None

-- a field of a new object
pub none_replicate : (n i : ℕ) → slice_index_or (replicate n nil) i None ≡ None
none_replicate zero zero = refl
none_replicate zero (suc i) = refl
none_replicate (suc n) zero = refl
none_replicate (suc n) (suc i) = none_replicate n i
