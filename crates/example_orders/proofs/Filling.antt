-- What threads that take nothing back leave of an object: its value is 1 once it is, and its field 0 refers to an object once it does.
use Rattle.std.proofs.Common.{ℕ, zero, suc, ◌≡◌, ◌≢◌, ◌≤◌, ◌==◌, ◌&&◌, ◌∙◌, List, [], ◌∷◌, ◌++◌, ap, arith, eqb-true, length, not, refl, subst, sym, ⊎_elim, Bool, true, false, Option, None, Some}
use Rattle.std.specs.Prelude.{if◌then◌else◌, nat_lt, slice_index, slice_index_or, slice_set}
use Rattle.std.proofs.lemmas.Bool.{and_from, and_parts, cases_Bool, cases_eq, eqb-false, false≢true, not-true}
use Rattle.plain_heap.specs.Paths.{Name}
use Rattle.mark_core.specs.Layout.{words_of}
use Rattle.mark_core.specs.Seats.{may_mutate}
use Rattle.mark_core.specs.Steps.{Core}
use Rattle.mark_core.specs.Steps.MutatorSteps.{in_variables}
use Rattle.mark_core.specs.declared.kinds.Event.{Event}
use Rattle.mark_core.specs.declared.kinds.Shape.{Shape}
use Rattle.mark_core.specs.declared.kinds.Step.{Step}
use Rattle.mark_core.specs.declared.kinds.Step.TheVariants.{ExchangeField, ExchangeValue, Join, Split, StoreField, StoreValue}
use Rattle.mark_core.specs.declared.seat.SeatState.{SeatState}
use Rattle.mark_core.proofs.Blocks.BlocksStopped.{Taken}
use Rattle.gc_table.specs.AgreementLaws.{world_after, world_of}
use Rattle.gc_table.specs.Past.{adds, entries_of, log_of}
use Rattle.gc_table.specs.RunWorlds.{World, WorldObject, is_same, name_at, object_of, own_section, reference_of, referred, stored, variable_of, with_exchanged, with_object, with_reference, world_by}
use Rattle.gc_table.specs.declared.view.Entry.{Entry}
use Rattle.gc_table.proofs.Exchanges.{compares}
use Rattle.gc_table.proofs.Forgetting.{same-is}
use Rattle.gc_table.proofs.Frame.{Mutates, mutates}
use Rattle.gc_table.proofs.Reading.{none-some, object-changed}
use Rattle.gc_table.proofs.Stores.{env-agrees}
use Rattle.heap_laws.specs.Moments.{IsHistory}
use Rattle.heap_laws.specs.Named.{acts_on}
use Rattle.heap_laws.proofs.Fields.{kept_refs, stores_field}
use Rattle.heap_laws.proofs.Values.{object-kept, value-next, value_by}
use Rattle.example_orders.specs.Orders.{OnlyFills, all_fill, fills, is_object}
use Rattle.example_orders.specs.Variables.{Variables, after_log, after_step, all_nil}
use Rattle.example_orders.proofs.Happening.{Happening, core, event_at, heap, known, log, own, split}

-- What is asked of a log is asked of each of its entries.
pub fill_split : (k : Variables) (xs ys : List Entry) → all_fill k (xs ++ ys) ≡ true → (all_fill k xs ≡ true) × (all_fill (after_log k xs) ys ≡ true)
fill_split k [] ys h = (refl, h)
fill_split k (x ∷ xs) ys h =
    let p = and_parts (fills k x.step) (all_fill (after_step k x.step x.found) (xs ++ ys)) h in
    let q = fill_split (after_step k x.step x.found) xs ys p.1 in
    (and_from (fills k x.step) (all_fill (after_step k x.step x.found) xs) p.0 q.0, q.1)

one_fills : (k : Variables) (c : Core) (s : SeatState) (step : Step) → all_fill k (entries_of c (Some s) step) ≡ true → fills k step ≡ true
one_fills k c s Split h = refl
one_fills k c s (Join other) h = refl
one_fills k c s step h = (and_parts (fills k step) true h).0

-- The value.
exchanged_one : (b : Bool) (n : ℕ) → (n == 1) ≡ true → (if b then n else 1) ≡ 1
exchanged_one true n e = eqb-true n 1 e
exchanged_one false n e = refl

one_stays : (k : Variables) (acting : Bool) (step : Step) → fills k step ≡ true → value_by acting step 1 ≡ 1
one_stays k false step e = refl
one_stays k true (StoreValue v n) e = eqb-true n 1 e
one_stays k true (ExchangeValue v m n) e = exchanged_one (1 == m) n e
one_stays k true step e = refl

-- The field.
abbrev pub FirstRefers : List (Option Name) → Type 0
FirstRefers refs = (to : Name) × (slice_index_or refs 0 None ≡ Some to)

first_set : (refs : List (Option Name)) (i : ℕ) (to : Name) → FirstRefers refs → FirstRefers (slice_set refs i (Some to))
first_set [] i to r = absurd (none-some r.0 r.1)
first_set (x ∷ refs) zero to r = (to, refl)
first_set (x ∷ refs) (suc i) to r = r

set_refers : (i : ℕ) (to : Option Name) (object : WorldObject) → (name : Name) × (to ≡ Some name) → FirstRefers object.refs → FirstRefers (with_reference i to object).refs
set_refers i to object some r = subst (λ (o : Option Name). FirstRefers (with_reference i o object).refs) (sym some.1) (first_set object.refs i some.0 r)

exchanged_refers : (b : Bool) (i : ℕ) (to : Option Name) (object : WorldObject) → (name : Name) × (to ≡ Some name) → FirstRefers object.refs → FirstRefers (if b then with_reference i to object else object).refs
exchanged_refers true i to object some r = set_refers i to object some r
exchanged_refers false i to object some r = r

-- a word that isn't nil refers to an object
some_referred : (ids : List ℕ) (n : ℕ) → n ≢ 0 → (name : Name) × (referred ids n ≡ Some name)
some_referred ids zero d = absurd (d refl)
some_referred ids (suc n) d = (name_at ids n, refl)

module _ (sh : Shape) (es : List Event) (h : IsHistory sh es) (fill : (i : ℕ) → OnlyFills (log_of sh es i)) (root : Name) where
  -- what the log of the seat tells before the event
  abbrev told : (k : ℕ) → Happening sh es h k → Variables
  told k x = after_log all_nil (log sh es h k x.event.seat)

  fills_now : (k : ℕ) (x : Happening sh es h k) → fills (told k x) x.event.step ≡ true
  fills_now k x =
      let j : ℕ = x.event.seat in
      let c : Core = core sh es h k in
      let it = split sh es h k x j in
      let front : List Entry = log sh es h k j ++ adds j c x.event in
      let all : all_fill all_nil (front ++ it.rest) ≡ true = subst (λ (l : List Entry). all_fill all_nil l ≡ true) it.whole (fill j) in
      let here = (fill_split all_nil (log sh es h k j) (adds j c x.event) (fill_split all_nil front it.rest all).0).1 in
      one_fills (told k x) c x.seat x.event.step (subst (λ (l : List Entry). all_fill (told k x) l ≡ true) (own sh es h k x) here)

  -- what is stored is an object
  stored_some : (k : ℕ) (x : Happening sh es h k) → k ≤ length es → Mutates (core sh es h k) x.event.seat x.seat → (o : Option ℕ) → is_object (told k x) o ≡ true → (to : Name) × (stored (heap sh es h k) (own_section x.seat) o ≡ Some to)
  stored_some k x l mu None e = absurd (false≢true e)
  stored_some k x l mu (Some v) e =
      let p = and_parts (v == 1) (not ((told k x).second == 0)) e in
      let ids : List ℕ = (words_of (core sh es h k).shape (core sh es h k).words).identities in
      let word : slice_index x.seat.env 1 ≡ (told k x).second = (known sh es h k l x.event.seat).second x.seat x.taken.got x.taken.live in
      let some : (name : Name) × (referred ids (slice_index x.seat.env 1) ≡ Some name) = some_referred ids (slice_index x.seat.env 1) (λ z. eqb-false (told k x).second 0 (not-true ((told k x).second == 0) p.1) (sym word ∙ z)) in (
        some.0,
        ap (λ (u : ℕ). variable_of (heap sh es h k) (own_section x.seat) u) (eqb-true v 1 p.0)
            ∙ (ap (λ (w : ℕ). variable_of (heap sh es h k) w 1) mu.own ∙ (sym (env-agrees (core sh es h k) x.event.seat x.seat x.event.step (heap sh es h k) 1 x.taken x.moment.agrees mu (omega arith)) ∙ some.1)),
      )

  -- after the first k events the value is 1, and the field refers to an object
  abbrev pub IsOne : ℕ → Type 0
  IsOne k = (object : WorldObject) × (object_of (heap sh es h k) root ≡ Some object) × (object.value ≡ 1)

  abbrev pub Refers : ℕ → Type 0
  Refers k = (object : WorldObject) × (object_of (heap sh es h k) root ≡ Some object) × FirstRefers object.refs

  one_next : (k : ℕ) (x : Happening sh es h k) → IsOne k → IsOne (suc k)
  one_next k x o =
      let world : World = heap sh es h k in
      let a = value-next (core sh es h k) x.event x.seat world root o.0 x.taken.got o.1 in
      let acting : Bool = acts_on world (Some x.seat) x.event.step root in
      (a.0, ap (λ (w : World). object_of w root) x.after ∙ a.1, a.2 ∙ (ap (value_by acting x.event.step) o.2 ∙ one_stays (told k x) acting x.event.step (fills_now k x)))

  refers_next : (k : ℕ) (x : Happening sh es h k) → k ≤ length es → Refers k → Refers (suc k)
  refers_next k x l r = by_step x.event.step refl
    where
      c : Core
      c = core sh es h k

      s : SeatState
      s = x.seat

      world : World
      world = heap sh es h k

      moved : (w : World) → world_after (core sh es h k) x.event (heap sh es h k) ≡ w → (object : WorldObject) × (object_of w root ≡ Some object) × FirstRefers object.refs → Refers (suc k)
      moved w is a = (a.0, ap (λ (z : World). object_of z root) (x.after ∙ is) ∙ a.1, a.2)

      kept : acts_on (heap sh es h k) (Some x.seat) x.event.step root ≡ false → Refers (suc k)
      kept idle = moved (world_after c x.event world) refl (r.0, object-kept c x.event world root r.0 r.1 (ap (λ (o : Option SeatState). acts_on world o x.event.step root) x.taken.got ∙ idle), r.2)

      -- the object of variable v is changed
      changed : (v : ℕ) (f : WorldObject → WorldObject) → (a : Step) → x.event.step ≡ a → world_by (core sh es h k).shape (words_of (core sh es h k).shape (core sh es h k).words) x.seat a (heap sh es h k) ≡ with_object (heap sh es h k) (variable_of (heap sh es h k) (own_section x.seat) v) f
          → acts_on (heap sh es h k) (Some x.seat) a root ≡ is_same (variable_of (heap sh es h k) (own_section x.seat) v) (Some root) → FirstRefers (f r.0).refs → Refers (suc k)
      changed v f a step by acts some =
          ⊎_elim
          (λ (t : is_same (variable_of world (own_section s) v) (Some root) ≡ true).
          let named : variable_of world (own_section s) v ≡ Some root = same-is (variable_of world (own_section s) v) (Some root) t in
          moved (with_object world (Some root) f)
          (ap (λ (o : Option SeatState). world_of c o x.event.step world) x.taken.got ∙ (ap (λ (z : Step). world_by c.shape (words_of c.shape c.words) s z world) step ∙ (by ∙ ap (λ (o : Option Name). with_object world o f) named)))
          (f r.0, object-changed world root f r.0 r.1, some))
          (λ (n : is_same (variable_of world (own_section s) v) (Some root) ≡ false). kept (ap (λ (z : Step). acts_on world (Some s) z root) step ∙ (acts ∙ n)))
          (cases_Bool (is_same (variable_of world (own_section s) v) (Some root)))

      fit : (a : Step) → x.event.step ≡ a → fills (told k x) a ≡ true
      fit a step = subst (λ (z : Step). fills (told k x) z ≡ true) step (fills_now k x)

      quiet : stores_field x.event.step ≡ false → Refers (suc k)
      quiet none =
          let a = kept_refs c x.event s world root r.0 x.taken.got none r.1 in
          (a.0, ap (λ (w : World). object_of w root) x.after ∙ a.1, subst FirstRefers (sym a.2) r.2)

      by_step : (a : Step) → x.event.step ≡ a → Refers (suc k)
      by_step (StoreField v i o) step =
          let t : Taken c x.event.seat s (StoreField v i o) = subst (λ (z : Step). Taken c x.event.seat s z) step x.taken in
          let mu : Mutates c x.event.seat s = mutates c x.event.seat s (StoreField v i o) t (and_parts (nat_lt v 32 && nat_lt i c.shape.fields && in_variables o) (may_mutate s) t.ok.0).1 in
          let to : Option Name = stored world (own_section s) o in
          changed v (with_reference i to) (StoreField v i o) step refl refl (set_refers i to r.0 (stored_some k x l mu o (fit (StoreField v i o) step)) r.2)
      by_step (ExchangeField v i o p) step =
          let t : Taken c x.event.seat s (ExchangeField v i o p) = subst (λ (z : Step). Taken c x.event.seat s z) step x.taken in
          let mu : Mutates c x.event.seat s = (compares c x.event.seat s v i o p world t x.moment.agrees).mutator in
          let from : Option Name = stored world (own_section s) o in
          let to : Option Name = stored world (own_section s) p in
          changed v (with_exchanged i from to) (ExchangeField v i o p) step refl refl (exchanged_refers (is_same (reference_of r.0 i) from) i to r.0 (stored_some k x l mu p (fit (ExchangeField v i o p) step)) r.2)
      by_step a step = quiet (ap stores_field step)

  pub one-on : (j k : ℕ) → j ≤ k → k ≤ length es → IsOne j → IsOne k
  one-on j zero l m o = let same : j ≡ 0 = omega (arith, l) in subst IsOne same o
  one-on j (suc k) l m o =
      ⊎_elim
      (λ (same : j ≡ suc k). subst IsOne same o)
      (λ (d : j ≢ suc k). one_next k (event_at sh es h k (omega (arith, m))) (one-on j k (omega (arith, l, d)) (omega (arith, m)) o))
      (cases_eq j (suc k))

  pub refers-on : (j k : ℕ) → j ≤ k → k ≤ length es → Refers j → Refers k
  refers-on j zero l m o = let same : j ≡ 0 = omega (arith, l) in subst Refers same o
  refers-on j (suc k) l m o =
      ⊎_elim
      (λ (same : j ≡ suc k). subst Refers same o)
      (λ (d : j ≢ suc k). refers_next k (event_at sh es h k (omega (arith, m))) (omega (arith, m)) (refers-on j k (omega (arith, l, d)) (omega (arith, m)) o))
      (cases_eq j (suc k))
