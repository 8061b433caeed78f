-- The seat of section 0 keeps the root, and has made nothing else.
use Rattle.std.proofs.Common.{ℕ, zero, suc, append_assoc, ◌≡◌, ◌≤◌, ◌+◌, ◌<◌, ◌==◌, ◌&&◌, ◌||◌, ◌∙◌, List, [], ◌∷◌, ◌++◌, ap, arith, map, not, refl, subst, sym, Bool, true, false}
use Rattle.std.specs.Prelude.{if◌then◌else◌, nat_lt}
use Rattle.std.specs.List.{range_with_len}
use Rattle.std.proofs.lemmas.Bool.{and_from, and_parts, eq-eqb, false≢true, le-ltb, lt-ltb, ne_eqb}
use Rattle.mark_core.specs.declared.kinds.Shape.{Shape}
use Rattle.mark_core.specs.declared.kinds.Step.{Step}
use Rattle.mark_core.specs.declared.kinds.Step.TheVariants.{ExchangeValue, HoldRoot, NextSeason, StoreNew, StoreValue}
use Rattle.mark_core.specs.declared.seat.SeatState.{SeatState}
use Rattle.plain_heap.specs.declared.operation.Op.{Op}
use Rattle.alloc_cache.specs.Making.{making_steps, nil_fields}
use Rattle.gc_table.specs.Entries.{event}
use Rattle.gc_table.specs.Log.{all_steps, events, steps_of}
use Rattle.gc_table.specs.Seats.{view_of}
use Rattle.gc_table.specs.Sections.{section_after}
use Rattle.gc_table.specs.Taking.{after}
use Rattle.gc_table.specs.declared.seat.Heap.{Heap}
use Rattle.gc_table.specs.declared.seat.HeapSeat.{HeapSeat}
use Rattle.gc_table.specs.declared.view.Entry.{Entry}
use Rattle.gc_table.specs.declared.view.SectionState.{SectionState}
use Rattle.gc_table.specs.declared.view.View.{View}
use Rattle.gc_table.proofs.History.Log.{events-of}
use Rattle.gc_table.proofs.Running.{ran-grows, ran-keeps, ran-number, ran-section, ran-shape}
use Rattle.gc_table.specs.Lending.{leaves_variable, stores_once}
use Rattle.gc_table.specs.Rooted.{fills_first, fills_variable, moves_season, season_count}
use Rattle.gc_table.specs.Single.{MakesOne, made_count, makes_object, spares_values}
use Rattle.gc_table.proofs.Counted.{made_join}
use Rattle.gc_table.proofs.SeasonMoves.{count-join}
use Rattle.mutator_ops.specs.Sharing.{next_word}
use Rattle.seat_turns.specs.Sharing.{spares_heap}
use Rattle.shared_heap.specs.Opening.{IsNewSeat}
use Rattle.shared_heap.specs.Rooting.{IsRootSeat, MakesRoot, Spares, spares_fields, spares_season}
use Rattle.shared_heap.proofs.Once.{once-then, root-log, root-once, season-spared, spared}
use Rattle.shared_heap.proofs.RootFields.{field-spared, root-fields}
use Rattle.shared_heap.proofs.Rooted.{all-join, all-more, makes-ran}
use Rattle.shared_heap.proofs.Rooting.{first-start}

-- what no plain heap sees, and leaves the season, doesn't move it on
season_still : (step : Step) → spares_season step ≡ true → not (moves_season step) ≡ true
season_still NextSeason e = absurd (false≢true e)
season_still step e = refl

-- such steps before it change nothing of what is stored first
first_before : (xs ys : List Entry) → all_steps spares_season xs ≡ true → fills_first 0 ys ≡ true → fills_first 0 (xs ++ ys) ≡ true
first_before [] ys a h = h
first_before (x ∷ xs) ys a h =
    let p = and_parts (spares_season x.step) (all_steps spares_season xs) a in
    ap (λ (b : Bool). if b then not (moves_season x.step) && fills_first 0 (xs ++ ys) else fills_variable 0 x.step) (season-spared x.step p.0)
    ∙ and_from (not (moves_season x.step)) (fills_first 0 (xs ++ ys)) (season_still x.step p.0) (first_before xs ys p.1 h)

-- a list of steps that store in no variable and don't move the season on
abbrev AreQuiet : List Step → Type 0
AreQuiet [] = Unit {0}
AreQuiet (s ∷ ss) = (leaves_variable 0 s ≡ true) × (not (moves_season s) ≡ true) × AreQuiet ss

quiet_join : (xs ys : List Step) → AreQuiet xs → AreQuiet ys → AreQuiet (xs ++ ys)
quiet_join [] ys a b = b
quiet_join (x ∷ xs) ys a b = (a.0, a.1, quiet_join xs ys a.2 b)

fields_quiet : (c : ℕ) (ns : List ℕ) → AreQuiet (map (λ i. StoreNew c i 0) ns)
fields_quiet c [] = tt
fields_quiet c (n ∷ ns) = (refl, refl, fields_quiet c ns)

making_quiet : (fields c value identity : ℕ) → AreQuiet (making_steps fields c value identity)
making_quiet fields c value identity = quiet_join (nil_fields c fields) (StoreNew c fields value ∷ StoreNew c (fields + 1) identity ∷ []) (fields_quiet c (range_with_len 0 fields)) (refl, refl, (refl, refl, tt))

-- these steps, and then one that stores an object in the variable
first_made : (mids rest : List Entry) (a : List Step) (b : Step) → steps_of mids ≡ a ++ b ∷ [] → AreQuiet a → leaves_variable 0 b ≡ false → fills_variable 0 b ≡ true → fills_first 0 (mids ++ rest) ≡ true
first_made [] rest [] b e q l f = absurd (cc)
first_made [] rest (s ∷ a) b e q l f = absurd (cc)
first_made (m ∷ mids) rest [] b e q l f =
    let first : m.step ≡ b = head_is e in
    ap (λ (p : Bool). if p then not (moves_season m.step) && fills_first 0 (mids ++ rest) else fills_variable 0 m.step) (ap (leaves_variable 0) first ∙ l) ∙ (ap (fills_variable 0) first ∙ f)
  where
    head_is : m.step ∷ steps_of mids ≡ b ∷ [] → m.step ≡ b
    head_is h = cc
first_made (m ∷ mids) rest (s ∷ a) b e q l f =
    let first : m.step ≡ s = head_is e in
    ap (λ (p : Bool). if p then not (moves_season m.step) && fills_first 0 (mids ++ rest) else fills_variable 0 m.step) (ap (leaves_variable 0) first ∙ q.0)
    ∙ and_from (not (moves_season m.step)) (fills_first 0 (mids ++ rest)) (ap (λ (x : Step). not (moves_season x)) first ∙ q.1) (first_made mids rest a b (tail_is e) q.2 l f)
  where
    head_is : m.step ∷ steps_of mids ≡ s ∷ (a ++ b ∷ []) → m.step ≡ s
    head_is h = cc

    tail_is : m.step ∷ steps_of mids ≡ s ∷ (a ++ b ∷ []) → steps_of mids ≡ a ++ b ∷ []
    tail_is h = cc

some_cell : (c : ℕ) → not (c + 1 == 0) ≡ true
some_cell c = ap not (ne_eqb (c + 1) 0 (λ e. omega (arith, e)))

root_first : (start w : View) → start.log ≡ [] → MakesRoot start w → fills_first 0 w.log ≡ true
root_first start w empty m =
    ap (fills_first 0) (root-log start w empty m)
    ∙ first_before (events start m.before) (events m.before m.made ++ events m.made w) m.comes.only
    (first_made (events m.before m.made) (events m.made w) _ (HoldRoot 0 (m.cell + 1)) m.creates.steps_are (making_quiet _ _ _ _) refl (some_cell m.cell))

-- what is stored first stays so
first_by : (b m f g h : Bool) → (f ≡ true → g ≡ true) → (if b then m && f else h) ≡ true → (if b then m && g else h) ≡ true
first_by true m f g h more e = let p = and_parts m f e in and_from m g p.0 (more p.1)
first_by false m f g h more e = e

first_then : (xs ys : List Entry) → fills_first 0 xs ≡ true → fills_first 0 (xs ++ ys) ≡ true
first_then [] ys h = absurd (false≢true h)
first_then (x ∷ xs) ys h = first_by (leaves_variable 0 x.step) (not (moves_season x.step)) (fills_first 0 xs) (fills_first 0 (xs ++ ys)) (fills_variable 0 x.step) (first_then xs ys) h

-- the seat's own seasons are those that its log moved on
none_more : (n : ℕ) → n ≡ n + 0
none_more n = omega arith

seasons_of : (sh : Shape) (plan : List (List Op)) (s : SeatState) (step : Step) (y : SectionState) → (section_after sh plan s step y).seasons ≡ y.seasons + (if moves_season step then 1 else 0)
seasons_of sh plan s NextSeason y = refl
seasons_of sh plan s step y = none_more y.seasons

abbrev IsCounted : View → Type 0
IsCounted v = v.own.seasons ≡ season_count v.log

season_counted : (v : View) (step : Step) (n : ℕ) → IsCounted v → IsCounted (after step n v)
season_counted v step n q =
    let one = seasons_of v.shape v.plan v.state step v.own in
    let both = count-join v.log (event step n ∷ []) in
    omega (arith, q, one, both)

-- what no plain heap sees makes no object and changes no value
spared_one : (fields : ℕ) (step : Step) → spares_heap step ≡ true → (spares_values fields step ≡ true) × (makes_object fields step ≡ false)
spared_one fields (StoreValue v n) e = absurd (false≢true e)
spared_one fields (ExchangeValue v m n) e = absurd (false≢true e)
spared_one fields (StoreNew c part word) e = absurd (false≢true e)
spared_one fields step e = (refl, refl)

season_one : (fields : ℕ) (step : Step) → spares_season step ≡ true → (spares_values fields step ≡ true) × (makes_object fields step ≡ false)
season_one fields (StoreValue v n) e = absurd (false≢true e)
season_one fields (ExchangeValue v m n) e = absurd (false≢true e)
season_one fields (StoreNew c part word) e = absurd (false≢true e)
season_one fields NextSeason e = absurd (false≢true e)
season_one fields step e = (refl, refl)

-- these events change no value, and make this many objects
record Makes (fields n : ℕ) (es : List Entry) : Type 0 where
  values : all_steps (spares_values fields) es ≡ true
  made : made_count fields es ≡ n

makes_join : (fields m n : ℕ) (xs ys : List Entry) → Makes fields m xs → Makes fields n ys → Makes fields (m + n) (xs ++ ys)
makes_join fields m n [] ys a b = record { values = b.values; made = let x = a.made in let y = b.made in omega (arith, x, y) }
makes_join fields m n (x ∷ xs) ys a b =
    let p = and_parts (spares_values fields x.step) (all_steps (spares_values fields) xs) a.values in
    let rest = makes_join fields (made_count fields xs) n xs ys (record { values = p.1; made = refl }) b in
    record {
      values = and_from (spares_values fields x.step) (all_steps (spares_values fields) (xs ++ ys)) p.0 rest.values;
      made = let all = a.made in let more = rest.made in omega (arith, all, more);
    }

makes_none : (P : Step → Bool) (fields : ℕ) → ((step : Step) → P step ≡ true → (spares_values fields step ≡ true) × (makes_object fields step ≡ false)) → (es : List Entry) → all_steps P es ≡ true → Makes fields 0 es
makes_none P fields h [] a = record { values = refl; made = refl }
makes_none P fields h (e ∷ es) a =
    let p = and_parts (P e.step) (all_steps P es) a in
    let one = h e.step p.0 in
    let rest = makes_none P fields h es p.1 in
    record {
      values = and_from (spares_values fields e.step) (all_steps (spares_values fields) es) one.0 rest.values;
      made = let here = ap {B = ℕ} (λ (b : Bool). if b then 1 else 0) one.1 in let more = rest.made in omega (arith, here, more);
    }

-- so do these steps
abbrev AllSpare : ℕ → List Step → Type 0
AllSpare fields [] = Unit {0}
AllSpare fields (s ∷ ss) = (spares_values fields s ≡ true) × AllSpare fields ss

abbrev steps_made : ℕ → List Step → ℕ
steps_made fields [] = 0
steps_made fields (s ∷ ss) = (if makes_object fields s then 1 else 0) + steps_made fields ss

have_makes : (fields : ℕ) (es : List Entry) (ss : List Step) → steps_of es ≡ ss → AllSpare fields ss → Makes fields (steps_made fields ss) es
have_makes fields [] [] e h = record { values = refl; made = refl }
have_makes fields [] (s ∷ ss) e h = absurd (cc)
have_makes fields (x ∷ xs) [] e h = absurd (cc)
have_makes fields (x ∷ xs) (s ∷ ss) e h =
    let first : x.step ≡ s = head_is e in
    let rest = have_makes fields xs ss (tail_is e) h.1 in
    record {
      values = and_from (spares_values fields x.step) (all_steps (spares_values fields) xs) (ap (spares_values fields) first ∙ h.0) rest.values;
      made = ap (λ (z : Step). (if makes_object fields z then 1 else 0) + made_count fields xs) first ∙ ap (λ (k : ℕ). (if makes_object fields s then 1 else 0) + k) rest.made;
    }
  where
    head_is : x.step ∷ steps_of xs ≡ s ∷ ss → x.step ≡ s
    head_is q = cc

    tail_is : x.step ∷ steps_of xs ≡ s ∷ ss → steps_of xs ≡ ss
    tail_is q = cc

or_true : (b : Bool) → (b || true) ≡ true
or_true true = refl
or_true false = refl

and_none : (b : Bool) → (b && false) ≡ false
and_none true = refl
and_none false = refl

-- fields that become nil change no value and make no object
fields_spare : (fields c : ℕ) (ns : List ℕ) (ss : List Step) → AllSpare fields ss → AllSpare fields (map (λ i. StoreNew c i 0) ns ++ ss)
fields_spare fields c [] ss h = h
fields_spare fields c (n ∷ ns) ss h = (or_true (not (n == fields)), fields_spare fields c ns ss h)

fields_made : (fields c a n : ℕ) (ss : List Step) → a + n ≤ fields → steps_made fields (map (λ i. StoreNew c i 0) (range_with_len a n) ++ ss) ≡ steps_made fields ss
fields_made fields c a zero ss le = refl
fields_made fields c a (suc n) ss le =
    let none : ◌≡◌ {A = ℕ} (if makes_object fields (StoreNew c a 0) then 1 else 0) 0 = ap {B = ℕ} (λ (b : Bool). if not b && not (a == fields) then 1 else 0) (lt-ltb a fields (omega (arith, le))) in
    let rest = fields_made fields c (a + 1) n ss (omega (arith, le)) in
    omega (arith, none, rest)

abbrev last_steps : ℕ → ℕ → ℕ → ℕ → List Step
last_steps fields c identity r = StoreNew c fields 0 ∷ StoreNew c (fields + 1) identity ∷ HoldRoot 0 r ∷ []

last_spare : (fields c identity r : ℕ) → AllSpare fields (last_steps fields c identity r)
last_spare fields c identity r = (or_true (not (fields == fields)), (ap (λ (b : Bool). not b || (identity == 0)) (ne_eqb (fields + 1) fields (λ e. omega (arith, e))), (refl, tt)))

last_made : (fields c identity r : ℕ) → steps_made fields (last_steps fields c identity r) ≡ 1
last_made fields c identity r =
    let value : ◌≡◌ {A = ℕ} (if makes_object fields (StoreNew c fields 0) then 1 else 0) 0 =
    ap {B = ℕ} (λ (b : Bool). if not (nat_lt fields fields) && not b then 1 else 0) (eq-eqb fields fields refl) ∙ ap {B = ℕ} (λ (b : Bool). if b then 1 else 0) (and_none (not (nat_lt fields fields))) in
    let named : ◌≡◌ {A = ℕ} (if makes_object fields (StoreNew c (fields + 1) identity) then 1 else 0) 1 =
    ap {B = ℕ} (λ (b : Bool). if not b && not (fields + 1 == fields) then 1 else 0) (le-ltb (fields + 1) fields (omega arith)) ∙ ap {B = ℕ} (λ (b : Bool). if not b then 1 else 0) (ne_eqb (fields + 1) fields (λ e. omega (arith, e))) in
    omega (arith, value, named)

-- a new cell's words make one object
making_makes : (fields c identity r : ℕ) (es : List Entry) → steps_of es ≡ making_steps fields c 0 identity ++ HoldRoot 0 r ∷ [] → Makes fields 1 es
making_makes fields c identity r es e =
    let same : making_steps fields c 0 identity ++ HoldRoot 0 r ∷ [] ≡ nil_fields c fields ++ last_steps fields c identity r = append_assoc (nil_fields c fields) (StoreNew c fields 0 ∷ StoreNew c (fields + 1) identity ∷ []) (HoldRoot 0 r ∷ []) in
    let makes = have_makes fields es (nil_fields c fields ++ last_steps fields c identity r) (e ∙ same) (fields_spare fields c (range_with_len 0 fields) (last_steps fields c identity r) (last_spare fields c identity r)) in
    record { values = makes.values; made = makes.made ∙ (fields_made fields c 0 fields (last_steps fields c identity r) (omega arith) ∙ last_made fields c identity r) }

-- what the seat of section 0 did changes no value and makes one object
root_one : (start w : View) → start.log ≡ [] → MakesRoot start w → MakesOne start.shape.fields w.log
root_one start w empty m =
    let fields : ℕ = start.shape.fields in
    let same : m.before.shape.fields ≡ fields = ap (λ (sh : Shape). sh.fields) (ran-shape start m.before m.comes.ran) in
    let front = makes_none spares_season fields (season_one fields) (events start m.before) m.comes.only in
    let back = makes_none spares_heap fields (spared_one fields) (events m.made w) m.rest.only in
    let mids : Makes fields 1 (events m.before m.made) =
    making_makes fields m.cell (next_word m.before.state) (m.cell + 1) (events m.before m.made)
    (m.creates.steps_are ∙ ap (λ (n : ℕ). making_steps n m.cell 0 (next_word m.before.state) ++ HoldRoot 0 (m.cell + 1) ∷ []) same) in
    let all = makes_join fields 0 1 (events start m.before) (events m.before m.made ++ events m.made w) front (makes_join fields 1 0 (events m.before m.made) (events m.made w) mids back) in
    subst (MakesOne fields) (sym (root-log start w empty m)) (record { made = let n = all.made in omega (arith, n); values = all.values })

-- what no plain heap sees changes no value and makes no object
pub spared-values : (fields : ℕ) (es : List Entry) → all_steps spares_heap es ≡ true → all_steps (spares_values fields) es ≡ true
spared-values fields es a = (makes_none spares_heap fields (spared_one fields) es a).values

pub made-more : (fields : ℕ) (xs ys : List Entry) → all_steps spares_heap ys ≡ true → made_count fields (xs ++ ys) ≡ made_count fields xs
made-more fields xs ys a = let none = (makes_none spares_heap fields (spared_one fields) ys a).made in let both = made_join fields xs ys in omega (arith, none, both)

-- the seat that opened the heap keeps the root
pub root-seat : (h : Heap) (x y : HeapSeat) → IsNewSeat h 0 x → 0 < h.shape.sections → MakesRoot (view_of x) (view_of y) → IsRootSeat h y
root-seat h x y new some m =
    let v : View = view_of x in
    let w : View = view_of y in
    let ran = makes-ran v w m in
    let none : IsCounted v = ap (λ (o : SectionState). o.seasons) new.1.own ∙ ap season_count (sym new.1.log) in
    record {
      number = ran-number v w ran ∙ ap (λ (s : SeatState). s.number) new.1.state;
      keeps =
          record {
            section = ran-section v w ran ∙ (first-start h x new some).section;
            once = root-once v w new.1.log m;
            first = root_first v w new.1.log m;
            seasons = ran-keeps IsCounted season_counted v w ran none;
          };
      one = subst (λ (sh : Shape). MakesOne sh.fields w.log) new.0.1 (root_one v w new.1.log m);
      fields = root-fields v w new.1.log m;
    }

-- and does so after what no plain heap sees
pub root-kept : (h : Heap) (x y : HeapSeat) → IsRootSeat h x → Spares (view_of x) (view_of y) → IsRootSeat h y
root-kept h x y r s =
    let v : View = view_of x in
    let w : View = view_of y in
    let fields : ℕ = h.shape.fields in
    let g = ran-grows v w s.ran in
    let only : all_steps spares_heap g.0 ≡ true = subst (λ (es : List Entry). all_steps spares_heap es ≡ true) (events-of v w g.0 g.1) s.only in
    let more = makes_join fields (made_count fields v.log) 0 v.log g.0 (record { values = r.one.values; made = refl }) (makes_none spares_heap fields (spared_one fields) g.0 only) in
    record {
      number = ran-number v w s.ran ∙ r.number;
      keeps =
          record {
            section = ran-section v w s.ran ∙ r.keeps.section;
            once = ap (stores_once 0) g.1 ∙ once-then v.log g.0 (all-more spares_heap (leaves_variable 0) spared g.0 only) r.keeps.once;
            first = ap (fills_first 0) g.1 ∙ first_then v.log g.0 r.keeps.first;
            seasons = ran-keeps IsCounted season_counted v w s.ran r.keeps.seasons;
          };
      one = subst (MakesOne fields) (sym g.1) (record { made = let n = more.made in let was = r.one.made in omega (arith, n, was); values = more.values });
      fields = ap (all_steps spares_fields) g.1 ∙ all-join spares_fields v.log g.0 r.fields (all-more spares_heap spares_fields field-spared g.0 only);
    }
