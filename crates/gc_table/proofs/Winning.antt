-- An object stays while nobody stores in it: so of exchanges that expect the same one is won.
use Rattle.std.proofs.Common.{ℕ, ◌≡◌, ◌<◌, List, length, [], ◌∷◌, refl, sym, ap, ◌∙◌, subst, Bool, true, false, cond, eqb, Option, Some, None, ⊎_elim, ◌-◌, arith}
use Rattle.std.specs.Prelude.{is_none, slice_get}
use Rattle.std.proofs.lemmas.Bool.{eq-eqb}
use Rattle.std.proofs.lemmas.Option.{same_Some}
use Rattle.std.proofs.lemmas.List.{get_or-set_same}
use Rattle.std.proofs.lemmas.List.Elements.{All-head, All-tail}
use Rattle.plain_heap.specs.Paths.{Name}
use Rattle.mark_core.specs.Layout.{words_of}
use Rattle.mark_core.specs.Steps.MutatorSteps.{variable_or_nil, seat_variable as word_in}
use Rattle.mark_core.specs.Steps.{Core, failing_part, after_event, run_of}
use Rattle.mark_core.specs.Laws.{IsCore, NumbersFit, AllNumbersFit}
use Rattle.mark_core.proofs.Known.{Acted, found, acts}
use Rattle.mark_core.proofs.CoreKept.{core_kept}
use Rattle.mark_core.proofs.Blocks.BlocksStopped.{Taken}
use Rattle.mark_core.specs.declared.kinds.Event.{Event}
use Rattle.mark_core.specs.declared.kinds.Step.{Step}
use Rattle.mark_core.specs.declared.kinds.Step.TheVariants.{ExchangeField, ExchangeValue}
use Rattle.mark_core.specs.declared.seat.SeatState.{SeatState}
use Rattle.gc_table.specs.RunWorlds.{World, WorldObject, object_of, reference_of, referred, is_same, stored, with_reference, with_value, own_section, world_by, variable_of, with_object, with_exchanged, with_exchanged_value, name_at}
use Rattle.gc_table.specs.Agreement.{AgreesWith}
use Rattle.gc_table.specs.AgreementLaws.{StoresIn, StoresOf, ObjectsStay, FindsReference, FindsValue, Exchanges, WonOnce, ExchangesField, FieldWonOnce, found_of, world_of, world_after, world_run}
use Rattle.gc_table.proofs.Exchanges.{same-as, Compares, compares, ComparesValue, compares_value}
use Rattle.gc_table.proofs.Forgetting.{none_forgotten}
use Rattle.gc_table.proofs.Kept.{agrees-kept}
use Rattle.gc_table.proofs.Reading.{object-changed}

-- 50 and 51: what an exchange finds is what the heap has there, and it is won by the word found.
pub finds-reference : (c : Core) (i : ℕ) (s : SeatState) (v j : ℕ) (x o : Option ℕ) (world : World) → Taken c i s (ExchangeField v j x o) → AgreesWith c world → FindsReference c world s v j x o (found c s (ExchangeField v j x o))
finds-reference c i s v j x o world k a = record {
  name = name;
  object = object;
  variable = variable;
  there = h.there.holds.there;
  exists = omega (arith, h.exists, h.there.holds.room);
  found = h.finds;
  won = won;
  after =
      subst (λ (p : Option Name). object_of (with_object world p f) name ≡ Some (cond t changed object)) (sym variable)
      (object-changed world name f object h.there.holds.there ∙ ap (λ (b : Bool). Some (cond b changed object)) (sym won));
}
  where
    h : Compares c i s v j x o world
    h = compares c i s v j x o world k a

    own : ℕ
    own = own_section s

    object : WorldObject
    object = h.there.holds.object

    name : Name
    name = name_at (words_of c.shape c.words).identities (word_in s v - 1)

    f : WorldObject → WorldObject
    f = with_exchanged j (stored world own x) (stored world own o)

    changed : WorldObject
    changed = with_reference j (stored world own o) object

    t : Bool
    t = eqb (found c s (ExchangeField v j x o)) (variable_or_nil s x)

    variable : variable_of world own v ≡ Some name
    variable = subst (λ (z : ℕ). variable_of world z v ≡ Some name) (sym h.mutator.own) h.there.variable

    won : t ≡ is_same (reference_of object j) (stored world own x)
    won = subst (λ (z : ℕ). t ≡ is_same (reference_of object j) (stored world z x)) (sym h.mutator.own) h.won

pub finds-value : (c : Core) (i : ℕ) (s : SeatState) (v m n : ℕ) (world : World) → Taken c i s (ExchangeValue v m n) → AgreesWith c world → FindsValue c world s v m n (found c s (ExchangeValue v m n))
finds-value c i s v m n world k a =
    let h : ComparesValue c i s v m n world = compares_value c i s v m n world k a in
    let name : Name = name_at (words_of c.shape c.words).identities (word_in s v - 1) in
    let object : WorldObject = h.there.holds.object in
    let f : WorldObject → WorldObject = with_exchanged_value m n in
    let variable : variable_of world (own_section s) v ≡ Some name = subst (λ (z : ℕ). variable_of world z v ≡ Some name) (sym h.mutator.own) h.there.variable in
    record {
      name = name;
      object = object;
      variable = variable;
      there = h.there.holds.there;
      found = h.finds;
      after =
          subst (λ (p : Option Name). object_of (with_object world p f) name ≡ Some (cond (eqb (found c s (ExchangeValue v m n)) m) (with_value n object) object)) (sym variable)
          (object-changed world name f object h.there.holds.there ∙ ap (λ (z : ℕ). Some (cond (eqb z m) (with_value n object) object)) (sym h.finds));
    }

-- one step that doesn't store in the object
pub step_stays : (c : Core) (o : Option SeatState) (step : Step) (world : World) (name : Name) (object : WorldObject) → object_of world name ≡ Some object → (StoresOf world o step name → ⊥) → object_of (world_of c o step world) name ≡ Some object
step_stays c None step world name object e none = e
step_stays c (Some s) step world name object e none =
    let r = none_forgotten c.shape (words_of c.shape c.words) s step world name object e in
    ⊎_elim
    (λ (same : r.0 ≡ object). r.1 ∙ ap (λ (x : WorldObject). Some x) same)
    (λ (stores : StoresIn world (own_section s) step name). absurd (none stores))
    r.2

stays_by : (es : List Event) (c d : Core) (world after : World) (name : Name) (object : WorldObject) (allowed : Bool) → object_of world name ≡ Some object → object_of (world_run es d after) name ≡ Some object → object_of (cond allowed (world_run es d after) world) name ≡ Some object
stays_by es c d world after name object true e f = f
stays_by es c d world after name object false e f = e

pub objects_stay : ObjectsStay
objects_stay c world [] name object e none = e
objects_stay c world (x ∷ es) name object e none =
    stays_by es c (after_event c x) world (world_after c x world) name object (is_none (failing_part c x)) e
    (objects_stay (after_event c x) (world_after c x world) es name object (step_stays c (slice_get c.seats x.seat) x.step world name object e none.0) none.1)

-- what is known of an exchange of a value
record Told (c : Core) (world : World) (e : Event) (name : Name) (m n word : ℕ) : Type 0 where
  pub object : WorldObject
  pub there : object_of world name ≡ Some object
  pub value : word ≡ object.value
  pub after : object_of (world_after c e world) name ≡ Some (cond (eqb word m) (with_value n object) object)

told : (c : Core) (world : World) (e : Event) (name : Name) (m n word : ℕ) → IsCore c → AgreesWith c world → Exchanges c world e name m n word → Told c world e name m n word
told c world e name m n word k a x =
    let step : Step = ExchangeValue x.variable m n in
    let r : (t : SeatState) × Acted c e t = acts c e k x.allowed in
    let same : r.0 ≡ x.seat = same_Some r.0 x.seat (sym r.1.seat ∙ x.there) in
    let acted : Taken c e.seat x.seat e.step = subst (λ (t : SeatState). Taken c e.seat t e.step) same (record { core = k; got = r.1.seat; live = r.1.live; ok = r.1.ok }) in
    let taken : Taken c e.seat x.seat step = subst (λ (z : Step). Taken c e.seat x.seat z) x.step acted in
    let g : FindsValue c world x.seat x.variable m n (found c x.seat step) = finds-value c e.seat x.seat x.variable m n world taken a in
    let named : g.name ≡ name = same_Some g.name name (sym g.variable ∙ x.names) in
    let is : found c x.seat step ≡ word = ap (λ (z : Step). found_of c (Some x.seat) z) (sym x.step) ∙ x.found in
    let moved : world_after c e world ≡ world_by c.shape (words_of c.shape c.words) x.seat step world =
    ap (λ (o : Option SeatState). world_of c o e.step world) x.there ∙ ap (λ (z : Step). world_by c.shape (words_of c.shape c.words) x.seat z world) x.step in
    record {
      object = g.object;
      there = subst (λ (z : Name). object_of world z ≡ Some g.object) named g.there;
      value = sym is ∙ g.found;
      after =
          ap (λ (w : World). object_of w name) moved
          ∙ (subst (λ (z : Name). object_of (world_by c.shape (words_of c.shape c.words) x.seat step world) z ≡ Some (cond (eqb (found c x.seat step) m) (with_value n g.object) g.object)) named g.after
          ∙ ap (λ (z : ℕ). Some (cond (eqb z m) (with_value n g.object) g.object)) is);
    }

-- a run keeps the rule and the agreement
run_by : (e : Event) (es : List Event) (c : Core) (world : World) → IsCore c → AgreesWith c world → (failing_part c e ≡ None → IsCore (run_of es (after_event c e)) × AgreesWith (run_of es (after_event c e)) (world_run es (after_event c e) (world_after c e world))) → (o : Option ℕ) → failing_part c e ≡ o
    → IsCore (cond (is_none o) (run_of es (after_event c e)) c) × AgreesWith (cond (is_none o) (run_of es (after_event c e)) c) (cond (is_none o) (world_run es (after_event c e) (world_after c e world)) world)
run_by e es c world k a later None f = later f
run_by e es c world k a later (Some part) f = (k, a)

pub run_whole : (es : List Event) (c : Core) (world : World) → IsCore c → AgreesWith c world → AllNumbersFit es → IsCore (run_of es c) × AgreesWith (run_of es c) (world_run es c world)
run_whole [] c world k a fit = (k, a)
run_whole (e ∷ es) c world k a fit =
    run_by e es c world k a
    (λ f.
    run_whole es (after_event c e) (world_after c e world) (core_kept c e k (All-head (λ (x : Event). NumbersFit x.step) e es fit) f) (agrees-kept c e world k a f)
    (All-tail (λ (x : Event). NumbersFit x.step) e es fit)) (failing_part c e) refl

pub won-once : WonOnce
won-once c world e name m n k a fit x es fits none f l word y =
    let d : Core = after_event c e in
    let after : World = world_after c e world in
    let first : Told c world e name m n m = told c world e name m n m k a x in
    let held : WorldObject = with_value n first.object in
    let won : object_of after name ≡ Some held = first.after ∙ ap (λ (b : Bool). Some (cond b held first.object)) (eq-eqb m m refl) in
    let stays : object_of (world_run es d after) name ≡ Some held = objects_stay d after es name held won none in
    let whole = run_whole es d after (core_kept c e k fit x.allowed) (agrees-kept c e world k a x.allowed) fits in
    let second : Told (run_of es d) (world_run es d after) f name m l word = told (run_of es d) (world_run es d after) f name m l word whole.0 whole.1 y in
    second.value ∙ ap (λ (o : WorldObject). o.value) (same_Some second.object held (sym second.there ∙ stays))

-- what is known of an exchange of a reference
record ToldField (c : Core) (world : World) (e : Event) (name : Name) (i : ℕ) (from to : Option Name) (word : ℕ) : Type 0 where
  pub object : WorldObject
  pub there : object_of world name ≡ Some object
  pub exists : i < length object.refs
  pub refers : referred (words_of c.shape c.words).identities word ≡ reference_of object i
  pub after : object_of (world_after c e world) name ≡ Some (cond (is_same (reference_of object i) from) (with_reference i to object) object)

told_field : (c : Core) (world : World) (e : Event) (name : Name) (i : ℕ) (from to : Option Name) (word : ℕ) → IsCore c → AgreesWith c world → ExchangesField c world e name i from to word → ToldField c world e name i from to word
told_field c world e name i from to word k a x =
    let step : Step = ExchangeField x.variable i x.expected x.new in
    let r : (t : SeatState) × Acted c e t = acts c e k x.allowed in
    let same : r.0 ≡ x.seat = same_Some r.0 x.seat (sym r.1.seat ∙ x.there) in
    let acted : Taken c e.seat x.seat e.step = subst (λ (t : SeatState). Taken c e.seat t e.step) same (record { core = k; got = r.1.seat; live = r.1.live; ok = r.1.ok }) in
    let taken : Taken c e.seat x.seat step = subst (λ (z : Step). Taken c e.seat x.seat z) x.step acted in
    let g : FindsReference c world x.seat x.variable i x.expected x.new (found c x.seat step) = finds-reference c e.seat x.seat x.variable i x.expected x.new world taken a in
    let named : g.name ≡ name = same_Some g.name name (sym g.variable ∙ x.names) in
    let is : found c x.seat step ≡ word = ap (λ (z : Step). found_of c (Some x.seat) z) (sym x.step) ∙ x.found in
    let moved : world_after c e world ≡ world_by c.shape (words_of c.shape c.words) x.seat step world =
    ap (λ (o : Option SeatState). world_of c o e.step world) x.there ∙ ap (λ (z : Step). world_by c.shape (words_of c.shape c.words) x.seat z world) x.step in
    let was : Option Name = reference_of g.object i in
    let own : ℕ = own_section x.seat in
    record {
      object = g.object;
      there = subst (λ (z : Name). object_of world z ≡ Some g.object) named g.there;
      exists = g.exists;
      refers = ap (λ (z : ℕ). referred (words_of c.shape c.words).identities z) (sym is) ∙ g.found;
      after =
          ap (λ (w : World). object_of w name) moved
          ∙ (subst (λ (z : Name). object_of (world_by c.shape (words_of c.shape c.words) x.seat step world) z ≡ Some (cond (eqb (found c x.seat step) (variable_or_nil x.seat x.expected)) (with_reference i (stored world own x.new) g.object) g.object)) named g.after
          ∙ (ap (λ (b : Bool). Some (cond b (with_reference i (stored world own x.new) g.object) g.object)) g.won
          ∙ (ap (λ (o : Option Name). Some (cond (is_same was o) (with_reference i (stored world own x.new) g.object) g.object)) x.expects
          ∙ ap (λ (o : Option Name). Some (cond (is_same was from) (with_reference i o g.object) g.object)) x.gives)));
    }

pub field-won-once : FieldWonOnce
field-won-once c world e name i from to word k a fit x won es fits none f asked given word2 y =
    let d : Core = after_event c e in
    let after : World = world_after c e world in
    let first : ToldField c world e name i from to word = told_field c world e name i from to word k a x in
    let held : WorldObject = with_reference i to first.object in
    let was : reference_of first.object i ≡ from = sym first.refers ∙ won in
    let yes : is_same (reference_of first.object i) from ≡ true = subst (λ (o : Option Name). is_same (reference_of first.object i) o ≡ true) was (same-as (reference_of first.object i)) in
    let there : object_of after name ≡ Some held = first.after ∙ ap (λ (b : Bool). Some (cond b held first.object)) yes in
    let stays : object_of (world_run es d after) name ≡ Some held = objects_stay d after es name held there none in
    let whole = run_whole es d after (core_kept c e k fit x.allowed) (agrees-kept c e world k a x.allowed) fits in
    let second : ToldField (run_of es d) (world_run es d after) f name i asked given word2 = told_field (run_of es d) (world_run es d after) f name i asked given word2 whole.0 whole.1 y in
    second.refers ∙ (ap (λ (o : WorldObject). reference_of o i) (same_Some second.object held (sym second.there ∙ stays)) ∙ get_or-set_same first.object.refs i to None first.exists)
