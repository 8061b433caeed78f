-- What is known of the cells that a seat names and makes, and of a mutator's section.
use Rattle.mark_core.proofs.References.ReferencesNow.{the-roots, now-used, own-now}
use Rattle.std.proofs.Common.{ℕ, ◌≡◌, ◌+◌, ◌-◌, ◌%◌, ◌<◌, suc, List, [], ◌∷◌, get_or, length, arith, refl, sym, ap, ◌∙◌, subst, Bool, true, false, ◌||◌, eqb, Option, Some, None, ◌⊎◌, ⊎_elim, ◌&&◌}
use Rattle.std.specs.Prelude.{IsFalse, IfSome, slice_get, slice_index, nat_lt, unwrap_or, if◌then◌else◌}
use Rattle.std.specs.List.{list_any}
use Rattle.std.proofs.lemmas.Bool.{false≢true, or_cases, or_left, eqb-true, ltb-true, cases_Bool, and_parts}
use Rattle.std.proofs.lemmas.Option.{slice_get-get_or, same_Some}
use Rattle.mark_core.specs.Layout.{words_of}
use Rattle.mark_core.specs.Bits.{nil_or}
use Rattle.mark_core.specs.Seats.{free_in, used_in, makes, last_made, may_mutate}
use Rattle.mark_core.specs.Views.{makers, maker_of}
use Rattle.mark_core.specs.Rules.HeapRules.{NamesInUse}
use Rattle.mark_core.specs.Steps.MutatorSteps.{knows_cell, in_variables}
use Rattle.mark_core.specs.WellFormed.{IsCache}
use Rattle.mark_core.specs.Steps.{Core}
use Rattle.mark_core.specs.Laws.{IsCore}
use Rattle.mark_core.proofs.Blocks.BlocksStopped.{Taken, mine as own-fact}
use Rattle.mark_core.proofs.Caches.CachesAt.{caching, maker-at}
use Rattle.mark_core.proofs.Caches.CachesSeat.{all-facts, CacheFacts, making-free, free-block}
use Rattle.mark_core.proofs.Caches.CachesClaims.{free-unused, same-seat}
use Rattle.mark_core.proofs.References.ReferencesEnv.{section-is}
use Rattle.mark_core.proofs.References.ReferencesRoots.{Used, own-used, seat-formed, mutator-is}
use Rattle.mark_core.specs.declared.kinds.Shape.{Shape}
use Rattle.mark_core.specs.declared.kinds.Step.{Step}
use Rattle.mark_core.specs.declared.kinds.Step.TheVariants.{ReadCount, StoreField, StoreValue, StoreRoot, HoldRoot}
use Rattle.mark_core.specs.declared.seat.SeatState.{SeatState}
use Rattle.mark_core.specs.declared.seat.CacheState.{CacheState}
use Rattle.plain_heap.specs.PlainHeap.{variable, Heap}
use Rattle.gc_table.specs.StandsFor.{object_count, WordAgrees, SeatStands, StandsFor, IsSection}
use Rattle.gc_table.specs.declared.view.Meaning.{Meaning}
use Rattle.gc_table.specs.PlainSteps.{own_section, meaning_of, no_meaning, place_of, known_as, catalogue_seen, IsSet, IsAssignment, AsksIn, changes_heap}
use Rattle.mark_core.proofs.Known.{Acted, acts}
use Rattle.plain_heap.specs.declared.operation.Op.{Op}
use Rattle.plain_heap.specs.declared.operation.Op.TheVariants as ops
use Rattle.plain_heap.specs.PlainStep.{IsInRange}
use Rattle.gc_table.specs.Laws.{PlainStepsAreInRange}
use Rattle.gc_table.proofs.Frame.{last_in, inside_by}
use Rattle.mark_core.specs.Numbers.{value_bound}

-- any seat that isn't spent may look at a count
pub looks : (c : Core) (w : ℕ) (s : SeatState) → IsCore c → slice_get c.seats w ≡ Some s → IsFalse s.spent → Taken c w s ReadCount
looks c w s k g live = record { core = k; got = g; live = live; ok = tt }

-- a reference that isn't nil goes where it may
pub names-used : (p : ℕ → Bool) (r : ℕ) → 0 < r → nil_or p r ≡ true → p (r - 1) ≡ true
names-used p r some e = ⊎_elim (λ (z : eqb r 0 ≡ true). absurd (omega (arith, some, eqb-true r 0 z))) (λ (u : p (r - 1) ≡ true). u) (or_cases (eqb r 0) (p (r - 1)) e)

-- the cell in the register is in use
pub got-used : (c : Core) (i : ℕ) (s : SeatState) (step : Step) → Taken c i s step → 0 < s.got → Used c (s.got - 1) ≡ true
got-used c i s step k some = names-used (Used c) s.got some (own-fact c i s step (NamesInUse (words_of c.shape c.words).allocs (makers c.seats)) k k.core.sound.references.seats_in_use).1

-- the cell made last is in use
pub last-used : (c : Core) (i : ℕ) (s : SeatState) (step : Step) (x : ℕ) → Taken c i s step → last_made s.cache ≡ Some x → Used c x ≡ true
last-used c i s step x k e = own-used c i s step x k (last_in c.shape s.cache x (seat-formed c i s step k).cache e)

-- what the seat's cache says of itself
own_facts : (c : Core) (i : ℕ) (s : SeatState) (step : Step) → Taken c i s step → CacheFacts s.cache
own_facts c i s step k = own-fact c i s step (λ (t : SeatState). CacheFacts t.cache) k (all-facts c k.core)

-- the cell being made is free
pub making-is-free : (c : Core) (i : ℕ) (s : SeatState) (step : Step) (x part : ℕ) → Taken c i s step → makes s.cache x part ≡ true → free_in s.cache x ≡ true
making-is-free c i s step x part k e = making-free s.cache x part (own_facts c i s step k).made_from_free e

cached_below : (sh : Shape) (o : Option CacheState) (x : ℕ) → (sh.cells % 64 ≡ 0) → IfSome o (IsCache sh) → free_in o x ≡ true → x < sh.cells
cached_below sh None x z k e = absurd (false≢true e)
cached_below sh (Some y) x z k e = omega (arith, z, k.block, free-block y x e)

pub free-below : (c : Core) (i : ℕ) (s : SeatState) (step : Step) (x : ℕ) → Taken c i s step → free_in s.cache x ≡ true → x < c.shape.cells
free-below c i s step x k e = cached_below c.shape s.cache x k.core.formed.shaped.whole_blocks (seat-formed c i s step k).cache e

-- a free cell isn't in use
pub free-not-used : (c : Core) (i : ℕ) (s : SeatState) (step : Step) (x : ℕ) → Taken c i s step → free_in s.cache x ≡ true → Used c x ≡ false
free-not-used c i s step x k e =
    let r = caching c k.core in
    free-unused c.shape (words_of c.shape c.words).owners (words_of c.shape c.words).allocs (makers c.seats) i x (maker_of s) r.shaped r.caches.owned r.caches.unpublished (own_facts c i s step k) (maker-at c.seats i s k.got)
    (free-below c i s step x k e) e

-- two seats in whose caches one cell is free are one seat
pub free-apart : (c : Core) (i j : ℕ) (s t : SeatState) (a b : Step) (x : ℕ) → Taken c i s a → Taken c j t b → free_in s.cache x ≡ true → free_in t.cache x ≡ true → j ≡ i
free-apart c i j s t a b x k l e f =
    let r = caching c k.core in
    same-seat c.shape (words_of c.shape c.words).owners (makers c.seats) i j x (maker_of s) (maker_of t) r.shaped r.caches.owned (maker-at c.seats i s k.got) (maker-at c.seats j t l.got) (free-below c i s a x k e) (or_left (free_in s.cache x) (used_in s.cache x) e)
    (or_left (free_in t.cache x) (used_in t.cache x) f)

-- a root that isn't nil names a cell in use
pub root-used : (c : Core) (k : ℕ) → IsCore c → 0 < slice_index (the-roots c) k → Used c (slice_index (the-roots c) k - 1) ≡ true
root-used c k core some = names-used (Used c) (slice_index (the-roots c) k) some (now-used c k core)

-- a mutator and its section
pub record Mutates (c : Core) (i : ℕ) (s : SeatState) (ms : List Meaning) : Type 0 where
  pub active : s.active ≡ true
  pub section : s.section ≡ Some i
  pub own : own_section s ≡ i
  pub inside : i < c.shape.sections
  pub there : slice_get ms i ≡ Some (meaning_of ms i)

pub mutates-in : (c : Core) (i : ℕ) (s : SeatState) (step : Step) (ms : List Meaning) → Taken c i s step → length ms ≡ c.shape.sections → may_mutate s ≡ true → Mutates c i s ms
mutates-in c i s step ms k long e =
    let a = mutator-is s e in
    let formed = (seat-formed c i s step k).section in
    let at : a.1.0 ≡ i = section-is c.shape.sections i a.1.0 s.section formed a.1.1 in
    let inside : i < c.shape.sections = ltb-true i c.shape.sections (inside_by (nat_lt i c.shape.sections) i a.1.0 s.section formed a.1.1) in
    record {
      active = a.0;
      section = a.1.1 ∙ ap (λ j. Some j) at;
      own = ap (λ o. unwrap_or o 0) a.1.1 ∙ at;
      inside = inside;
      there = slice_get-get_or ms i no_meaning (omega (arith, inside, long));
    }

pub mutates : (c : Core) (i : ℕ) (s : SeatState) (step : Step) (ms : List Meaning) → Taken c i s step → StandsFor c ms → may_mutate s ≡ true → Mutates c i s ms
mutates c i s step ms k st e = mutates-in c i s step ms k st.sections e

-- each variable of a mutator agrees with that of its plain heap
pub env-agrees : (c : Core) (i : ℕ) (s : SeatState) (step : Step) (ms : List Meaning) (v : ℕ) → Taken c i s step → StandsFor c ms → Mutates c i s ms → v < 32
    → WordAgrees (words_of c.shape c.words).identities (object_count ms) i (slice_index s.env v) (variable (meaning_of ms i).heap v)
env-agrees c i s step ms v k st a h =
    subst (λ word. WordAgrees (words_of c.shape c.words).identities (object_count ms) i word (variable (meaning_of ms i).heap v)) (own-now c i s step v k a.section a.inside h) (st.roots_agree i (meaning_of ms i) a.there v h)

-- a word among others has a place
pub word-found : (xs : List ℕ) (word k : ℕ) → list_any (λ (x : ℕ). eqb x word) xs ≡ true → (p : ℕ) × (place_of xs word k ≡ k + p) × (p < length xs) × (get_or xs p 0 ≡ word)
word-found [] word k e = absurd (false≢true e)
word-found (x ∷ xs) word k e =
    ⊎_elim
    (λ (f : eqb x word ≡ true). (0, ap (λ (b : Bool). if b then k else place_of xs word (k + 1)) f ∙ omega arith, omega arith, eqb-true x word f))
    (λ (f : eqb x word ≡ false).
    let r = word-found xs word (k + 1) (sym (ap (λ (b : Bool). b || list_any (λ (y : ℕ). eqb y word) xs) f) ∙ e) in
    (suc r.0, ap (λ (b : Bool). if b then k else place_of xs word (k + 1)) f ∙ r.1 ∙ omega arith, omega (arith, r.2), r.3))
    (cases_Bool (eqb x word))

-- a cell that the seat knows is named by the reference by which it knows it
pub known-agrees : (c : Core) (i : ℕ) (s : SeatState) (step : Step) (ms : List Meaning) (x : ℕ) → Taken c i s step → StandsFor c ms → Mutates c i s ms → knows_cell s x ≡ true
    → WordAgrees (words_of c.shape c.words).identities (object_count ms) i (x + 1) (known_as s (meaning_of ms i) x)
known-agrees c i s step ms x k st a e = of (eqb s.got (x + 1)) refl
  where
    m : Meaning
    m = meaning_of ms i

    ids : List ℕ
    ids = (words_of c.shape c.words).identities

    mine : SeatStands c.shape ids (words_of c.shape c.words).values (object_count ms) i s m
    mine = st.seats_agree i s m k.got a.there k.live

    of : (b : Bool) → eqb s.got (x + 1) ≡ b → WordAgrees ids (object_count ms) i (x + 1) (known_as s m x)
    of true f =
        subst (λ r. WordAgrees ids (object_count ms) i (x + 1) r) (sym (ap (λ (b : Bool). if b then m.got else variable m.heap (place_of s.env (x + 1) 0)) f))
        (subst (λ word. WordAgrees ids (object_count ms) i word m.got) (eqb-true s.got (x + 1) f) mine.got)
    of false f =
        let there : list_any (λ (y : ℕ). eqb y (x + 1)) s.env ≡ true = sym (ap (λ (b : Bool). b || list_any (λ (y : ℕ). eqb y (x + 1)) s.env) f) ∙ e in
        let r = word-found s.env (x + 1) 0 there in
        let h : r.0 < 32 = omega (arith, r.2, (seat-formed c i s step k).env) in
        let place : place_of s.env (x + 1) 0 ≡ r.0 = r.1 ∙ omega arith in
        subst (λ q. WordAgrees ids (object_count ms) i (x + 1) q) (sym (ap (λ (b : Bool). if b then m.got else variable m.heap (place_of s.env (x + 1) 0)) f ∙ ap (λ p. variable m.heap p) place))
        (subst (λ word. WordAgrees ids (object_count ms) i word (variable m.heap r.0)) r.3 (env-agrees c i s step ms r.0 k st a h))

-- The plain step of a store is in range.
set_range : (fields v i : ℕ) (heap : Heap) (o : Option ℕ) (op : Op) → v < 32 → i < fields → in_variables o ≡ true → IsSet heap v i o op → IsInRange fields op
set_range fields v i heap None op hv hi h (u, below, nil, is) = subst (IsInRange fields) (sym is) (hv, hi, below)
set_range fields v i heap (Some w) op hv hi h is = subst (IsInRange fields) (sym is) (hv, hi, ltb-true w 32 h)

assignment_range : (fields v r : ℕ) (s : SeatState) (m : Meaning) (catalogue : Option Heap) (op : Op) → v < 32 → m.heap.fields ≡ fields → m.value < value_bound → IsAssignment s m catalogue v r op → IsInRange fields op
assignment_range fields v r s m catalogue (ops.New u n) hv f few (e, value, last, room) = (omega (arith, e, hv), omega (arith, value, few))
assignment_range fields v r s m catalogue (ops.Nil u) hv f few (e, nil) = omega (arith, e, hv)
assignment_range fields v r s m catalogue (ops.Let u x) hv f few (e, h, word) = (omega (arith, e, hv), h)
assignment_range fields v r s m catalogue (ops.Get u x j) hv f few (e, word, is, hx, hj) = (omega (arith, e, hv), hx, omega (arith, hj, f))
assignment_range fields v r s m catalogue (ops.Cat u x) hv f few (e, word, is, hx) = (omega (arith, e, hv), hx)
assignment_range fields v r s m catalogue (ops.Set u x y) hv f few z = absurd z
assignment_range fields v r s m catalogue (ops.Put u x) hv f few z = absurd z
assignment_range fields v r s m catalogue (ops.Say u) hv f few z = absurd z
assignment_range fields v r s m catalogue (ops.Sum u x y) hv f few z = absurd z
assignment_range fields v r s m catalogue ops.Collect hv f few z = absurd z

range_at : (c : Core) (i : ℕ) (s : SeatState) (step : Step) (op : Op) (ms : List Meaning) → Taken c i s step → StandsFor c ms → AsksIn s ms step op → changes_heap step ≡ true → IsInRange c.shape.fields op
range_at c i s (StoreField v j o) op ms k st asks e =
    let a = and_parts (nat_lt v 32 && nat_lt j c.shape.fields && in_variables o) (may_mutate s) k.ok.0 in
    let b = and_parts (nat_lt v 32 && nat_lt j c.shape.fields) (in_variables o) a.0 in
    let d = and_parts (nat_lt v 32) (nat_lt j c.shape.fields) b.0 in
    set_range c.shape.fields v j (meaning_of ms (own_section s)).heap o op (ltb-true v 32 d.0) (ltb-true j c.shape.fields d.1) b.1 asks.1
range_at c i s (StoreValue v n) op ms k st asks e = let a = and_parts (nat_lt v 32) (may_mutate s) k.ok.0 in subst (IsInRange c.shape.fields) (sym asks.1) (ltb-true v 32 a.0, omega (arith, asks.2))
range_at c i s (StoreRoot v r) op ms k st asks e =
    let a = and_parts (nat_lt v 32) (may_mutate s) k.ok.0 in
    let own : Mutates c i s ms = mutates c i s (StoreRoot v r) ms k st a.1 in
    let asked : IsAssignment s (meaning_of ms i) (catalogue_seen ms i) v r op = subst (λ (o : ℕ). IsAssignment s (meaning_of ms o) (catalogue_seen ms o) v r op) own.own asks.1 in
    let formed : IsSection c.shape i (meaning_of ms i) = st.numbered i (meaning_of ms i) own.there in
    assignment_range c.shape.fields v r s (meaning_of ms i) (catalogue_seen ms i) op (ltb-true v 32 a.0) formed.2 formed.3 asked
range_at c i s (HoldRoot v r) op ms k st asks e =
    let a = and_parts (nat_lt v 32) (may_mutate s) k.ok.0 in
    let own : Mutates c i s ms = mutates c i s (HoldRoot v r) ms k st a.1 in
    let asked : IsAssignment s (meaning_of ms i) (catalogue_seen ms i) v r op = subst (λ (o : ℕ). IsAssignment s (meaning_of ms o) (catalogue_seen ms o) v r op) own.own asks.1 in
    let formed : IsSection c.shape i (meaning_of ms i) = st.numbered i (meaning_of ms i) own.there in
    assignment_range c.shape.fields v r s (meaning_of ms i) (catalogue_seen ms i) op (ltb-true v 32 a.0) formed.2 formed.3 asked
range_at c i s step op ms k st asks e = absurd (false≢true e)

pub steps_in_range : PlainStepsAreInRange
steps_in_range c e s op ms k st g asks f h =
    let r : (x : SeatState) × Acted c e x = acts c e k f in
    let same : r.0 ≡ s = same_Some r.0 s (sym r.1.seat ∙ g) in
    range_at c e.seat s e.step op ms (subst (λ (x : SeatState). Taken c e.seat x e.step) same (record { core = k; got = r.1.seat; live = r.1.live; ok = r.1.ok })) st asks h
