-- Each event does to the plain heap what an act of its section does, so acts alone make the heap after each number of events.
use Rattle.std.proofs.Common.{ℕ, ◌≡◌, ◌+◌, ◌<◌, ◌/◌, ◌==◌, zero, suc, List, [], ◌∷◌, take, length, arith, refl, sym, ap, ◌∙◌, subst, Bool, true, false, ◌&&◌, Option, Some, None, inl, inr}
use Rattle.std.specs.Prelude.{if◌then◌else◌, nat_lt, slice_get, slice_index}
use Rattle.std.proofs.lemmas.Bool.{and_parts, ltb-true}
use Rattle.std.proofs.lemmas.List.{set-get_or}
use Rattle.std.proofs.lemmas.Option.{same_Some}
use Rattle.plain_heap.specs.Paths.{Name}
use Rattle.mark_core.specs.Layout.{words_of, region_sizes}
use Rattle.mark_core.specs.Seats.{may_mutate}
use Rattle.mark_core.specs.Steps.{Core, after_event, failing_part, start_core}
use Rattle.mark_core.specs.Steps.MutatorSteps.{in_variables, weak_reference}
use Rattle.mark_core.specs.declared.kinds.Event.{Event}
use Rattle.mark_core.specs.declared.kinds.Shape.{Shape}
use Rattle.mark_core.specs.declared.kinds.Step.{Step}
use Rattle.mark_core.specs.declared.kinds.Step.TheVariants.{ReadOwn, ReadCat, StoreField, StoreValue, StoreRoot, StoreNew, ExchangeField, ExchangeValue, StoreSlot, ReadSlot, ReadWeak, HoldRoot}
use Rattle.mark_core.specs.declared.seat.SeatState.{SeatState}
use Rattle.mark_core.proofs.Known.{Acted, acts, found}
use Rattle.mark_core.proofs.Blocks.BlocksStopped.{Taken, in-place}
use Rattle.mark_core.proofs.Pool.PoolsKept.{shape-kept}
use Rattle.mark_core.proofs.Writing.Places.{words-get}
use Rattle.gc_table.specs.Agreement.{AgreesWith, HoldsObject}
use Rattle.gc_table.specs.AgreementLaws.{FindsCell, KnowsName, MayHold, TellsIn, TellsOf, found_of, world_after, world_of, world_run}
use Rattle.gc_table.specs.RunWorlds.{World, WorldSection, in_section, name_at, new_section, object_of, own_section, referred, section_of, start_world, variable_of, with_new, with_register, with_variable, world_by}
use Rattle.gc_table.specs.Runs.{AreAllowed}
use Rattle.gc_table.proofs.Exchanges.{compares, compares_value}
use Rattle.gc_table.proofs.Forgetting.{name-is}
use Rattle.gc_table.proofs.Frame.{Mutates, mutates}
use Rattle.gc_table.proofs.Kept.{agrees-kept, agrees-starts}
use Rattle.gc_table.proofs.Lending.{Sound, later-sound, world-first}
use Rattle.gc_table.proofs.Losing.{finds-cell}
use Rattle.gc_table.proofs.Reading.{none-some}
use Rattle.gc_table.proofs.Stores.{Refers, refers}
use Rattle.gc_table.proofs.Telling.{tells-once}
use Rattle.heap_laws.specs.Labels.{Act, ActsOn, EventsAct, HeapsNeedNoWords, IsActOf, IsThere, MayAct, Reference, acted, heap_by, newest, taken, field_of}
use Rattle.heap_laws.specs.Labels.Act.{Rests, SetsField, SetsValue, ExchangesField, ExchangesValue, Assigns, LoadsField, LoadsVariable, Finds, Prepares, Makes}
use Rattle.heap_laws.specs.Labels.Reference.{Nil, Register, Variable, Newest}
use Rattle.heap_laws.specs.Moments.{IsMoment}
use Rattle.heap_laws.proofs.Moments.{each-allowed}

-- A reference that a seat may store is one that its section has at hand.
newest_is : (w n : ℕ) (name : Name) → name.section ≡ w → name.number + 1 ≡ n → newest w n ≡ Some name
newest_is w zero name a b = absurd (omega (arith, b))
newest_is w (suc n) name a b = ap (λ (x : Name). Some x) (name-is (record { section = w; number = n }) name a (omega (arith, b)))

known_from : (world : World) (w : ℕ) (name : Name) → KnowsName world w name → (from : Reference) × (taken world w from ≡ Some name)
known_from world w name (inl e) = (Register, e)
known_from world w name (inr e) = (Variable e.0, e.2)

held_from : (world : World) (w : ℕ) (o : Option Name) → MayHold world w o → (from : Reference) × (taken world w from ≡ o)
held_from world w None h = (Nil, refl)
held_from world w (Some name) (inl k) = known_from world w name k
held_from world w (Some name) (inr e) = (Newest, newest_is w (length (section_of world w).objects) name e.0 e.1)

-- an act for a step
record ActsFor (c : Core) (world : World) (s : SeatState) (step : Step) (act : Act) : Type 0 where
  of_step : IsActOf c.shape.fields (own_section s) step act
  may : MayAct world (own_section s) act
  after : world_by c.shape (words_of c.shape c.words) s step world ≡ acted c.shape.fields world (own_section s) act

-- the object of a variable
object_there : (c : Core) (i : ℕ) (s : SeatState) (v y : ℕ) (world : World) → own_section s ≡ i → Refers c i s v world y → IsThere world (variable_of world (own_section s) v)
object_there c i s v y world own r =
    (name_at (words_of c.shape c.words).identities y, r.holds.object, ap (λ (w : ℕ). variable_of world w v) own ∙ r.variable, r.holds.there)

-- a part of a new cell
new_by : (a b : Bool) (fields word w : ℕ) (world : World) → in_section world w (λ (x : WorldSection). if a then x else if b then record x { coming = word } else with_new fields x) ≡ acted fields world w (if a then Rests else if b then Prepares word else Makes)
new_by true b fields word w world = set-get_or world w new_section
new_by false true fields word w world = refl
new_by false false fields word w world = refl

new_may : (a b : Bool) (word w : ℕ) (world : World) → MayAct world w (if a then Rests else if b then Prepares word else Makes)
new_may true b word w world = tt
new_may false true word w world = tt
new_may false false word w world = tt

-- what a weak read finds
weak_may : (c : Core) (world : World) (s : SeatState) (w x r : ℕ) → FindsCell c world s x r → MayAct world w (Finds (referred (words_of c.shape c.words).identities r))
weak_may c world s w x zero f = tt
weak_may c world s w x (suc y) f =
    let a = f.some (omega arith) in
    let same : x ≡ y = omega (arith, a.0) in
    let h : HoldsObject c.shape (words_of c.shape c.words).identities (words_of c.shape c.words).values (words_of c.shape c.words).fields world x = a.2 in
    let ids : List ℕ = (words_of c.shape c.words).identities in
    (name_at ids y, h.object, refl, ap (λ (z : ℕ). object_of world (name_at ids z)) (sym same) ∙ h.there)

act_for : (c : Core) (world : World) (i : ℕ) (s : SeatState) (step : Step) → IsMoment c world → Taken c i s step → TellsIn c world s step (found_of c (Some s) step) → (act : Act) × ActsFor c world s step act
act_for c world i s (StoreField v j x) m t tells =
    let b = and_parts (nat_lt v 32 && nat_lt j c.shape.fields && in_variables x) (may_mutate s) t.ok.0 in
    let d = and_parts (nat_lt v 32 && nat_lt j c.shape.fields) (in_variables x) b.0 in
    let hv : v < 32 = ltb-true v 32 (and_parts (nat_lt v 32) (nat_lt j c.shape.fields) d.0).0 in
    let mu : Mutates c i s = mutates c i s (StoreField v j x) t b.1 in
    let r = refers c i s (StoreField v j x) v world t m.agrees mu hv t.ok.1.0 in
    (SetsField v j x, record { of_step = refl; may = object_there c i s v _ world mu.own r; after = refl })
act_for c world i s (StoreValue v n) m t tells =
    let b = and_parts (nat_lt v 32) (may_mutate s) t.ok.0 in
    let mu : Mutates c i s = mutates c i s (StoreValue v n) t b.1 in
    let r = refers c i s (StoreValue v n) v world t m.agrees mu (ltb-true v 32 b.0) t.ok.1.0 in
    (SetsValue v n, record { of_step = refl; may = object_there c i s v _ world mu.own r; after = refl })
act_for c world i s (ExchangeField v j x y) m t tells =
    let r = compares c i s v j x y world t m.agrees in
    (ExchangesField v j x y, record { of_step = refl; may = object_there c i s v _ world r.mutator.own r.there; after = refl })
act_for c world i s (ExchangeValue v p n) m t tells =
    let r = compares_value c i s v p n world t m.agrees in
    (ExchangesValue v p n, record { of_step = refl; may = object_there c i s v _ world r.mutator.own r.there; after = refl })
act_for c world i s (StoreRoot v r) m t tells =
    let from = held_from world (own_section s) (referred (words_of c.shape c.words).identities r) tells in
    (Assigns v from.0, record { of_step = (from.0, refl); may = tt; after = ap (λ (o : Option Name). in_section world (own_section s) (with_variable v o)) (sym from.1) })
act_for c world i s (HoldRoot v r) m t tells =
    let from = held_from world (own_section s) (referred (words_of c.shape c.words).identities r) tells in
    (Assigns v from.0, record { of_step = (from.0, refl); may = tt; after = ap (λ (o : Option Name). in_section world (own_section s) (with_variable v o)) (sym from.1) })
act_for c world i s (StoreSlot k r) m t tells =
    let from = held_from world (own_section s) (referred (words_of c.shape c.words).identities r) tells in
    (Assigns (32 + k) from.0, record { of_step = (from.0, refl); may = tt; after = ap (λ (o : Option Name). in_section world (own_section s) (with_variable (32 + k) o)) (sym from.1) })
act_for c world i s (ReadOwn x j) m t tells =
    let name : Name = name_at (words_of c.shape c.words).identities x in
    let from = known_from world (own_section s) name tells.1.0 in (
      LoadsField from.0 j,
      record {
        of_step = (from.0, refl);
        may = (name, tells.0, from.1, tells.1.1);
        after = ap (λ (o : Option Name). in_section world (own_section s) (with_register (field_of world o j))) (sym from.1);
      },
    )
act_for c world i s (ReadCat v) m t tells = (LoadsVariable 0 v, record { of_step = refl; may = tt; after = refl })
act_for c world i s (ReadSlot k) m t tells = (LoadsVariable (own_section s) (32 + k), record { of_step = refl; may = tt; after = refl })
act_for c world i s (ReadWeak x) m t tells =
    let ids : List ℕ = (words_of c.shape c.words).identities in
    let old : found c s (ReadWeak x) ≡ slice_index (words_of c.shape c.words).allocs (x / 64) = words-get (region_sizes c.shape) 4 c.words (x / 64) 0 (in-place c i s (ReadWeak x) t) in
    let word : ℕ = weak_reference s x (slice_index (words_of c.shape c.words).allocs (x / 64)) in
    let f : FindsCell c world s x word = subst (λ (z : ℕ). FindsCell c world s x (weak_reference s x z)) old (finds-cell c i s x world t m.agrees) in
    (Finds (referred ids word), record { of_step = (referred ids word, refl); may = weak_may c world s (own_section s) x word f; after = refl })
act_for c world i s (StoreNew x part word) m t tells =
    let a : Bool = nat_lt part c.shape.fields in
    let b : Bool = part == c.shape.fields in (
      if a then Rests else if b then Prepares word else Makes,
      record {
        of_step = refl;
        may = new_may a b word (own_section s) world;
        after = new_by a b c.shape.fields word (own_section s) world;
      },
    )
act_for c world i s step m t tells = (Rests, record { of_step = refl; may = tt; after = refl })

pub events_act : EventsAct
events_act c world m e s ok got =
    let r : (t : SeatState) × Acted c e t = acts c e m.core ok in
    let same : r.0 ≡ s = same_Some r.0 s (sym r.1.seat ∙ got) in
    let taken : Taken c e.seat s e.step = subst (λ (t : SeatState). Taken c e.seat t e.step) same (record { core = m.core; got = r.1.seat; live = r.1.live; ok = r.1.ok }) in
    let tells : TellsIn c world s e.step (found_of c (Some s) e.step) = subst (λ (o : Option SeatState). TellsOf c world o e.step) got (tells-once c world e m.core m.agrees ok) in
    let a : (act : Act) × ActsFor c world s e.step act = act_for c world e.seat s e.step m taken tells in
    (a.0, record { of_step = a.1.of_step; may = a.1.may; after = ap (λ (o : Option SeatState). world_of c o e.step world) got ∙ a.1.after })

-- The acts of a run.
nothing_at : {X : Type 0} (k : ℕ) (x : X) → slice_get [] k ≡ Some x → ⊥
nothing_at zero x e = none-some x e
nothing_at (suc k) x e = none-some x e

-- what holds of the act of one event, with this many fields
abbrev Fits : ℕ → Core → World → Event → ℕ → Act → Type 0
Fits fields c world e w act = IsActOf fields w e.step act × MayAct world w act × (world_after c e world ≡ acted fields world w act)

first_act : (c : Core) (world : World) (e : Event) (fields : ℕ) → c.shape.fields ≡ fields → IsMoment c world → failing_part c e ≡ None → (a : ℕ × Act) × Fits fields c world e a.0 a.1
first_act c world e fields same m ok =
    let r : (t : SeatState) × Acted c e t = acts c e m.core ok in
    let a : (act : Act) × ActsOn c world e r.0 act = events_act c world m e r.0 ok r.1.seat in
    ((own_section r.0, a.0), subst (λ (f : ℕ). Fits f c world e (own_section r.0) a.0) same (a.1.of_step, a.1.may, a.1.after))

record IsTold (fields : ℕ) (es : List Event) (c : Core) (world : World) (told : List (ℕ × Act)) : Type 0 where
  long : length told ≡ length es
  each : (k : ℕ) (e : Event) (a : ℕ × Act) → slice_get es k ≡ Some e → slice_get told k ≡ Some a → IsActOf fields a.0 e.step a.1 × MayAct (world_run (take k es) c world) a.0 a.1
  heap : (k : ℕ) → world_run (take k es) c world ≡ heap_by fields (take k told) world

none_told : (fields : ℕ) (c : Core) (world : World) (k : ℕ) → world_run (take k []) c world ≡ heap_by fields (take k []) world
none_told fields c world zero = refl
none_told fields c world (suc k) = refl

told_first : (fields : ℕ) (e : Event) (es : List Event) (c : Core) (world : World) (a : ℕ × Act) (rest : List (ℕ × Act)) → failing_part c e ≡ None → Fits fields c world e a.0 a.1 → IsTold fields es (after_event c e) (world_after c e world) rest → IsTold fields (e ∷ es) c world (a ∷ rest)
told_first fields e es c world a rest ok fits told = record { long = ap (λ (n : ℕ). suc n) told.long; each = each; heap = heap }
  where
    each : (k : ℕ) (f : Event) (b : ℕ × Act) → slice_get (e ∷ es) k ≡ Some f → slice_get (a ∷ rest) k ≡ Some b → IsActOf fields b.0 f.step b.1 × MayAct (world_run (take k (e ∷ es)) c world) b.0 b.1
    each zero f b there act =
        subst (λ (x : Event). IsActOf fields b.0 x.step b.1 × MayAct world b.0 b.1) (same_Some e f there)
        (subst (λ (x : ℕ × Act). IsActOf fields x.0 e.step x.1 × MayAct world x.0 x.1) (same_Some a b act) (fits.0, fits.1))
    each (suc k) f b there act =
        let r = told.each k f b there act in
        (r.0, subst (λ (w : World). MayAct w b.0 b.1) (sym (world-first c e (take k es) world ok)) r.1)

    heap : (k : ℕ) → world_run (take k (e ∷ es)) c world ≡ heap_by fields (take k (a ∷ rest)) world
    heap zero = refl
    heap (suc k) = world-first c e (take k es) world ok ∙ (told.heap k ∙ ap (λ (w : World). heap_by fields (take k rest) w) fits.2)

told_on : (es : List Event) (c : Core) (world : World) (fields : ℕ) → c.shape.fields ≡ fields → Sound c es → AreAllowed c es → AgreesWith c world → (told : List (ℕ × Act)) × IsTold fields es c world told
told_on [] c world fields same core ok a = ([], record { long = refl; each = λ k e b there act. absurd (nothing_at k e there); heap = none_told fields c world })
told_on (e ∷ es) c world fields same core ok a =
    let first = first_act c world e fields same (record { core = core 0; agrees = a }) ok.0 in
    let rest = told_on es (after_event c e) (world_after c e world) fields (ap (λ (sh : Shape). sh.fields) (shape-kept c e) ∙ same) (later-sound c e es ok.0 core) ok.1 (agrees-kept c e world (core 0) a ok.0) in
    (first.0 ∷ rest.0, told_first fields e es c world first.0 rest.0 ok.0 first.1 rest.1)

pub heaps_need_no_words : HeapsNeedNoWords
heaps_need_no_words sh es h =
    let start : Core = start_core sh 1 in
    let r = told_on es start (start_world sh) sh.fields refl h.sound (each-allowed sh es h) (agrees-starts sh 1 (h.sound 0).formed.shaped) in
    (r.0, r.1.long, r.1.each, r.1.heap)
