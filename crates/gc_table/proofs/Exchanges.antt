-- 50 and 51: a field or the value of an object is exchanged: the words found and expected are equal exactly if the heap has the expected there.
use Rattle.mark_core.specs.Variables.{roots_now}
use Rattle.std.proofs.Common.{ℕ, ◌≡◌, ◌+◌, ◌-◌, ◌*◌, ◌<◌, List, set, arith, refl, sym, ap, ◌∙◌, subst, Bool, true, false, cond, not, eqb, ◌&&◌, ◌||◌, Option, Some, None, zero, suc}
use Rattle.std.specs.Prelude.{IsTrue, slice_index, nat_lt}
use Rattle.std.proofs.lemmas.Bool.{and_parts, and_from, or_left, eqb-true, eq-eqb, ltb-true}
use Rattle.std.proofs.lemmas.List.{get_or-set_same, get_or-set_other, set-get_or}
use Rattle.plain_heap.specs.Paths.{Name}
use Rattle.mark_core.specs.Layout.{Words, words_of, region_sizes}
use Rattle.mark_core.specs.Bits.{cell_of, nil_or}
use Rattle.mark_core.specs.Numbers.{value_bound}
use Rattle.mark_core.specs.Seats.{may_mutate, is_the}
use Rattle.mark_core.specs.Views.{makers}
use Rattle.mark_core.specs.Cells.{field}
use Rattle.mark_core.specs.Rules.HeapRules.{NamesInUse, section_of_cell}
use Rattle.mark_core.specs.Steps.MutatorSteps.{in_variables, variable_or_nil, may_change, seat_variable as word_in}
use Rattle.mark_core.specs.Effects.{seat_after, written}
use Rattle.mark_core.specs.Steps.{Core, run_of, start_core}
use Rattle.mark_core.specs.Laws.{IsCore}
use Rattle.mark_core.proofs.Known.{found, words_left, seats_left}
use Rattle.mark_core.proofs.Blocks.BlocksStopped.{Taken, in-place, mine as own-fact}
use Rattle.mark_core.proofs.Writing.Places.{words-get}
use Rattle.mark_core.proofs.References.ReferencesRoots.{Used, UsedAfter, seat-formed, read-field}
use Rattle.mark_core.specs.declared.kinds.Shape.{Shape}
use Rattle.mark_core.specs.declared.kinds.Step.{Step}
use Rattle.mark_core.specs.declared.kinds.Step.TheVariants.{ExchangeField, ExchangeValue}
use Rattle.mark_core.specs.declared.seat.SeatState.{SeatState}
use Rattle.gc_table.specs.RunWorlds.{World, WorldObject, variable_of, reference_of, is_same, with_object, with_reference, with_value, with_exchanged, with_exchanged_value, stored, name_at, referred, own_section}
use Rattle.gc_table.specs.Agreement.{Agrees, AgreesIn, AgreesWith}
use Rattle.gc_table.proofs.Frame.{moved, Mutates, mutates, names, used-exists}
use Rattle.gc_table.proofs.Stores.{stored-agrees, Refers, refers, Rewrites, object-moves, field-rewrites, field-inside, value-rewrites, values-length}
use Rattle.gc_table.proofs.Forgetting.{same-is}
use Rattle.std.proofs.lemmas.Option.{same_Some}
use Rattle.mark_core.proofs.CoreKept.{runs_sound}
use Rattle.gc_table.specs.AgreementLaws.{SameWords}
use Rattle.gc_table.proofs.Reading.{none-some}

-- Two words that refer to the same object are the same.
-- if both are nil or name cells in use
pub words-same : (c : Core) (r q : ℕ) → IsCore c → nil_or (Used c) r ≡ true → nil_or (Used c) q ≡ true → referred (words_of c.shape c.words).identities r ≡ referred (words_of c.shape c.words).identities q → r ≡ q
words-same c zero zero k u v e = refl
words-same c zero (suc y) k u v e = absurd (none-some (name_at (words_of c.shape c.words).identities y) e)
words-same c (suc x) zero k u v e = absurd (none-some (name_at (words_of c.shape c.words).identities x) (sym e))
words-same c (suc x) (suc y) k u v e =
    let a : Used c x ≡ true = names (Used c) (suc x) x refl u in
    let b : Used c y ≡ true = names (Used c) (suc y) y refl v in
    let name : name_at (words_of c.shape c.words).identities x ≡ name_at (words_of c.shape c.words).identities y = same_Some _ _ e in
    ap (λ (n : ℕ). suc n) (k.sound.caches.distinct x (used-exists c k x a) y (used-exists c k y b) a b (omega (arith, ap (λ (n : Name). n.section) name, ap (λ (n : Name). n.number) name)))

pub same_words : SameWords
same_words sh n es z some few fit r q u v e = words-same (run_of es (start_core sh n)) r q (runs_sound sh n es z some few fit) u v e

-- what is equal is the same
pub same-as : (x : Option Name) → is_same x x ≡ true
same-as None = refl
same-as (Some x) = and_from (eqb x.section x.section) (eqb x.number x.number) (eq-eqb x.section x.section refl) (eq-eqb x.number x.number refl)

-- tests that hold together are one
one_test : (b d : Bool) → (b ≡ true → d ≡ true) → (d ≡ true → b ≡ true) → b ≡ d
one_test true true f g = refl
one_test true false f g = sym (f refl)
one_test false true f g = g refl
one_test false false f g = refl

-- if objects are shared, each object that a variable names may change
may_too : (sh : Shape) (ids : List ℕ) (s : SeatState) (v : ℕ) → (not (eqb (word_in s v) 0) && sh.sharing) ≡ true → may_change sh ids s v ≡ true
may_too sh ids s v e =
    let a = and_parts (not (eqb (word_in s v) 0)) sh.sharing e in
    and_from (not (eqb (word_in s v) 0)) (sh.sharing || is_the s.section (section_of_cell ids (word_in s v - 1))) a.0 (or_left sh.sharing (is_the s.section (section_of_cell ids (word_in s v - 1))) a.1)

-- what a variable holds, or nil
holds_used : (c : Core) (i : ℕ) (s : SeatState) (step : Step) (x : Option ℕ) → Taken c i s step → in_variables x ≡ true → nil_or (Used c) (variable_or_nil s x) ≡ true
holds_used c i s step None k h = refl
holds_used c i s step (Some u) k h =
    (own-fact c i s step (NamesInUse (words_of c.shape c.words).allocs (makers c.seats)) k k.core.sound.references.seats_in_use).0 u 0 (omega (arith, ltb-true u 32 h, (seat-formed c i s step k).env))

-- what is known of an exchange of a field
pub record Compares (c : Core) (i : ℕ) (s : SeatState) (v j : ℕ) (x o : Option ℕ) (world : World) : Type 0 where
  pub mutator : Mutates c i s
  pub there : Refers c i s v world (word_in s v - 1)
  pub exists : j < c.shape.fields
  pub new_exists : in_variables o ≡ true
  pub found_is : found c s (ExchangeField v j x o) ≡ field c.shape (words_of c.shape c.words).fields (word_in s v - 1) j
  pub finds : referred (words_of c.shape c.words).identities (found c s (ExchangeField v j x o)) ≡ reference_of there.holds.object j
  pub won : eqb (found c s (ExchangeField v j x o)) (variable_or_nil s x) ≡ is_same (reference_of there.holds.object j) (stored world i x)

pub compares : (c : Core) (i : ℕ) (s : SeatState) (v j : ℕ) (x o : Option ℕ) (world : World) → Taken c i s (ExchangeField v j x o) → AgreesWith c world → Compares c i s v j x o world
compares c i s v j x o world k a = record {
  mutator = mu;
  there = there;
  exists = hj;
  new_exists = q.1;
  found_is = old;
  finds = finds;
  won =
      one_test (eqb word expected) (is_same (reference_of there.holds.object j) (stored world i x))
      (λ t.
      let same : reference_of there.holds.object j ≡ stored world i x = sym finds ∙ ap (referred ids) (eqb-true word expected t) ∙ mine in
      subst (λ (p : Option Name). is_same (reference_of there.holds.object j) p ≡ true) same (same-as (reference_of there.holds.object j)))
      (λ t. eq-eqb word expected (words-same c word expected k.core goes (holds_used c i s step x k q.0) (finds ∙ same-is (reference_of there.holds.object j) (stored world i x) t ∙ sym mine)));
}
  where
    w : Words
    w = words_of c.shape c.words

    ids : List ℕ
    ids = w.identities

    step : Step
    step = ExchangeField v j x o

    b : ((nat_lt v 32 && nat_lt j c.shape.fields && (in_variables x && in_variables o)) ≡ true) × (may_mutate s ≡ true)
    b = and_parts (nat_lt v 32 && nat_lt j c.shape.fields && (in_variables x && in_variables o)) (may_mutate s) k.ok.0

    d : ((nat_lt v 32 && nat_lt j c.shape.fields) ≡ true) × ((in_variables x && in_variables o) ≡ true)
    d = and_parts (nat_lt v 32 && nat_lt j c.shape.fields) (in_variables x && in_variables o) b.0

    e : (nat_lt v 32 ≡ true) × (nat_lt j c.shape.fields ≡ true)
    e = and_parts (nat_lt v 32) (nat_lt j c.shape.fields) d.0

    q : (in_variables x ≡ true) × (in_variables o ≡ true)
    q = and_parts (in_variables x) (in_variables o) d.1

    mu : Mutates c i s
    mu = mutates c i s step k b.1

    y : ℕ
    y = word_in s v - 1

    word : ℕ
    word = found c s step

    expected : ℕ
    expected = variable_or_nil s x

    there : Refers c i s v world y
    there = refers c i s step v world k a mu (ltb-true v 32 e.0) (may_too c.shape ids s v k.ok.1.0)

    hj : j < c.shape.fields
    hj = ltb-true j c.shape.fields e.1

    at : word ≡ field c.shape w.fields (cell_of (word_in s v)) j
    at = words-get (region_sizes c.shape) 11 c.words (cell_of (word_in s v) * c.shape.fields + j) 0 (in-place c i s step k)

    old : word ≡ field c.shape w.fields y j
    old = at ∙ ap (λ (z : ℕ). field c.shape w.fields z j) there.cell

    finds : referred ids word ≡ reference_of there.holds.object j
    finds = ap (referred ids) old ∙ there.holds.each_field j hj

    goes : nil_or (Used c) word ≡ true
    goes = subst (λ (r : ℕ). nil_or (Used c) r ≡ true) (sym old) (read-field c i s step y j k mu.active there.exists there.used hj)

    mine : referred ids expected ≡ stored world i x
    mine = stored-agrees c i s step world x k a mu q.0

-- the words of the object, by whether the exchange was won
field_by : (c : Core) (i : ℕ) (s : SeatState) (v j : ℕ) (x o : Option ℕ) (world : World) (t : Bool) → Taken c i s (ExchangeField v j x o) → AgreesWith c world → (h : Compares c i s v j x o world)
    → Rewrites c (word_in s v - 1) (words_of c.shape c.words).values (set (words_of c.shape c.words).fields ((word_in s v - 1) * c.shape.fields + j) (cond t (variable_or_nil s o) (found c s (ExchangeField v j x o))))
    (cond t (with_reference j (stored world i o) h.there.holds.object) h.there.holds.object)
field_by c i s v j x o world true k a h =
    field-rewrites c i s v j (word_in s v - 1) (variable_or_nil s o) (stored world i o) world (field-inside c i s v j (word_in s v - 1) world k.core h.exists h.there) h.exists h.there
    (stored-agrees c i s (ExchangeField v j x o) world o k a h.mutator h.new_exists)
field_by c i s v j x o world false k a h =
    let fields : List ℕ = (words_of c.shape c.words).fields in
    let at : ℕ = (word_in s v - 1) * c.shape.fields + j in
    let same : set fields at (found c s (ExchangeField v j x o)) ≡ fields = ap (λ (z : ℕ). set fields at z) h.found_is ∙ set-get_or fields at 0 in
    subst (λ (fs : List ℕ). Rewrites c (word_in s v - 1) (words_of c.shape c.words).values fs h.there.holds.object) (sym same)
    (record { room = h.there.holds.room; value = h.there.holds.value; each_field = h.there.holds.each_field; other_values = λ z d. refl; other_fields = λ z l d hl. refl })

field_exchanged : (c : Core) (i : ℕ) (s : SeatState) (v j : ℕ) (x o : Option ℕ) (world : World) → Taken c i s (ExchangeField v j x o) → AgreesWith c world → (h : Compares c i s v j x o world)
    → Rewrites c (word_in s v - 1) (words_of c.shape c.words).values
    (set (words_of c.shape c.words).fields ((word_in s v - 1) * c.shape.fields + j) (written c.shape s (ExchangeField v j x o) (found c s (ExchangeField v j x o))))
    (with_exchanged j (stored world i x) (stored world i o) h.there.holds.object)
field_exchanged c i s v j x o world k a h =
    let word : ℕ = found c s (ExchangeField v j x o) in
    let t : Bool = eqb word (variable_or_nil s x) in
    let object : WorldObject = h.there.holds.object in
    subst
    (λ (b : Bool).
    Rewrites c (word_in s v - 1) (words_of c.shape c.words).values (set (words_of c.shape c.words).fields ((word_in s v - 1) * c.shape.fields + j) (cond t (variable_or_nil s o) word))
    (cond b (with_reference j (stored world i o) object) object))
    h.won
    (field_by c i s v j x o world t k a h)

-- a reference is exchanged
pub exchange-field : (c : Core) (i : ℕ) (s : SeatState) (v j : ℕ) (x o : Option ℕ) (world : World) → Taken c i s (ExchangeField v j x o) → AgreesWith c world
    → AgreesIn c.shape (words_left c s (ExchangeField v j x o)) (seats_left c i s (ExchangeField v j x o))
    (with_object world (variable_of world (own_section s) v) (with_exchanged j (stored world (own_section s) x) (stored world (own_section s) o)))
exchange-field c i s v j x o world k a =
    let w : Words = words_of c.shape c.words in
    let step : Step = ExchangeField v j x o in
    let h : Compares c i s v j x o world = compares c i s v j x o world k a in
    let y : ℕ = word_in s v - 1 in
    let word : ℕ = written c.shape s step (found c s step) in
    let f : WorldObject → WorldObject = with_exchanged j (stored world i x) (stored world i o) in
    let t : SeatState = seat_after c.shape s step (found c s step) in
    let P : ℕ → Option Name → Type 0 = λ cell name. Agrees c.shape (roots_now w.roots (set c.seats i t)) w.identities w.values (set w.fields (cell * c.shape.fields + j) word) (λ z. IsTrue (UsedAfter c i s step z)) (set c.seats i t) (with_object world name f) in
    let base : P y (Some (name_at w.identities y)) =
    moved c i s step (record w { values = w.values; fields = set w.fields (y * c.shape.fields + j) word }) t world (with_object world (Some (name_at w.identities y)) f) k a
    (object-moves c i s step v world y w.values (set w.fields (y * c.shape.fields + j) word) f t.owes k a (λ z e. e) h.there (field_exchanged c i s v j x o world k a h)) in
    subst (λ (z : ℕ). AgreesIn c.shape (words_left c s step) (seats_left c i s step) (with_object world (variable_of world z v) (with_exchanged j (stored world z x) (stored world z o)))) (sym h.mutator.own)
    (subst (λ (z : ℕ). P z (variable_of world i v)) (sym h.there.cell) (subst (P y) (sym h.there.variable) base))

-- what is known of an exchange of a value
pub record ComparesValue (c : Core) (i : ℕ) (s : SeatState) (v m n : ℕ) (world : World) : Type 0 where
  pub mutator : Mutates c i s
  pub there : Refers c i s v world (word_in s v - 1)
  pub finds : found c s (ExchangeValue v m n) ≡ there.holds.object.value

pub compares_value : (c : Core) (i : ℕ) (s : SeatState) (v m n : ℕ) (world : World) → Taken c i s (ExchangeValue v m n) → AgreesWith c world → ComparesValue c i s v m n world
compares_value c i s v m n world k a =
    let w : Words = words_of c.shape c.words in
    let step : Step = ExchangeValue v m n in
    let b = and_parts (nat_lt v 32 && nat_lt n value_bound) (may_mutate s) k.ok.0 in
    let mu : Mutates c i s = mutates c i s step k b.1 in
    let there : Refers c i s v world (word_in s v - 1) = refers c i s step v world k a mu (ltb-true v 32 (and_parts (nat_lt v 32) (nat_lt n value_bound) b.0).0) (may_too c.shape w.identities s v k.ok.1.0) in
    let at : found c s step ≡ slice_index w.values (cell_of (word_in s v)) = words-get (region_sizes c.shape) 10 c.words (cell_of (word_in s v)) 0 (in-place c i s step k) in
    record { mutator = mu; there = there; finds = at ∙ (ap (λ (z : ℕ). slice_index w.values z) there.cell ∙ there.holds.value) }

-- the words of the object, by whether the exchange was won
value_by : (c : Core) (i : ℕ) (s : SeatState) (v n y : ℕ) (world : World) (t : Bool) → IsCore c → (b : Refers c i s v world y)
    → Rewrites c y (set (words_of c.shape c.words).values y (cond t n b.holds.object.value)) (words_of c.shape c.words).fields (cond t (with_value n b.holds.object) b.holds.object)
value_by c i s v n y world true k b = value-rewrites c i s v n y world k b
value_by c i s v n y world false k b =
    let values : List ℕ = (words_of c.shape c.words).values in
    record {
      room = b.holds.room;
      value = get_or-set_same values y b.holds.object.value 0 (omega (arith, b.exists, values-length c k));
      each_field = b.holds.each_field;
      other_values = λ z d. get_or-set_other values y z b.holds.object.value 0 d;
      other_fields = λ z l d hl. refl;
    }

value_exchanged : (c : Core) (i : ℕ) (s : SeatState) (v m n : ℕ) (world : World) → IsCore c → (h : ComparesValue c i s v m n world)
    → Rewrites c (word_in s v - 1) (set (words_of c.shape c.words).values (word_in s v - 1) (written c.shape s (ExchangeValue v m n) (found c s (ExchangeValue v m n)))) (words_of c.shape c.words).fields
    (with_exchanged_value m n h.there.holds.object)
value_exchanged c i s v m n world k h =
    let object : WorldObject = h.there.holds.object in
    let y : ℕ = word_in s v - 1 in
    subst (λ (z : ℕ). Rewrites c y (set (words_of c.shape c.words).values y (cond (eqb z m) n z)) (words_of c.shape c.words).fields (cond (eqb object.value m) (with_value n object) object)) (sym h.finds)
    (value_by c i s v n y world (eqb object.value m) k h.there)

-- a value is exchanged
pub exchange-value : (c : Core) (i : ℕ) (s : SeatState) (v m n : ℕ) (world : World) → Taken c i s (ExchangeValue v m n) → AgreesWith c world
    → AgreesIn c.shape (words_left c s (ExchangeValue v m n)) (seats_left c i s (ExchangeValue v m n)) (with_object world (variable_of world (own_section s) v) (with_exchanged_value m n))
exchange-value c i s v m n world k a =
    let w : Words = words_of c.shape c.words in
    let step : Step = ExchangeValue v m n in
    let h : ComparesValue c i s v m n world = compares_value c i s v m n world k a in
    let y : ℕ = word_in s v - 1 in
    let word : ℕ = written c.shape s step (found c s step) in
    let f : WorldObject → WorldObject = with_exchanged_value m n in
    let P : ℕ → Option Name → Type 0 = λ cell name. Agrees c.shape (roots_now w.roots (set c.seats i s)) w.identities (set w.values cell word) w.fields (λ z. IsTrue (UsedAfter c i s step z)) (set c.seats i s) (with_object world name f) in
    let base : P y (Some (name_at w.identities y)) =
    moved c i s step (record w { values = set w.values y word; fields = w.fields }) s world (with_object world (Some (name_at w.identities y)) f) k a
    (object-moves c i s step v world y (set w.values y word) w.fields f s.owes k a (λ z e. e) h.there (value_exchanged c i s v m n world k.core h)) in
    subst (λ (z : ℕ). AgreesIn c.shape (words_left c s step) (seats_left c i s step) (with_object world (variable_of world z v) f)) (sym h.mutator.own)
    (subst (λ (z : ℕ). P z (variable_of world i v)) (sym h.there.cell) (subst (P y) (sym h.there.variable) base))
