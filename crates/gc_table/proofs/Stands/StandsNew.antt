-- 23: each part of a new cell, by its number.
use Rattle.mark_core.proofs.References.ReferencesNow.{the-roots}
use Rattle.mark_core.proofs.Lagging.{now-seat}
use Rattle.mark_core.specs.Variables.{roots_now}
use Rattle.std.proofs.Common.{ℕ, ◌≡◌, ◌≢◌, ◌+◌, ◌-◌, ◌*◌, ◌<◌, ◌≤◌, List, set, length, arith, refl, sym, ap, ◌∙◌, subst, true, false, Option, Some, None, ◌⊎◌, inl, inr, Bool, ◌&&◌, eqb, cond}
use Rattle.std.specs.Prelude.{IfSome, slice_get, slice_index, IsTrue, nat_lt, nat_le, is_some, unwrap_or}
use Rattle.std.proofs.lemmas.Bool.{true≢false, false≢true, and_parts, eqb-true, ltb-true, ltb-false, le-leb, lt-leb, ne_eqb, eq-eqb, false_from_ne_true, cases_eq, cases_Bool}
use Rattle.std.proofs.lemmas.List.{get_or-set_same, get_or-set_other}
use Rattle.mark_core.specs.Layout.{Words, words_of, region_sizes, put_word}
use Rattle.mark_core.specs.Bits.{flag}
use Rattle.mark_core.specs.Seats.{free_in, has_making, makes, may_mutate}
use Rattle.mark_core.specs.Cells.{field}
use Rattle.mark_core.specs.Rules.HeapRules.{section_of_cell, number_of_cell}
use Rattle.mark_core.specs.Steps.MutatorSteps.{with_made, with_making}
use Rattle.mark_core.specs.Steps.{Core}
use Rattle.mark_core.specs.Laws.{IsCore}
use Rattle.mark_core.proofs.Blocks.BlocksStopped.{Taken, mine as own-fact}
use Rattle.mark_core.proofs.Caches.CachesSteps.{made_makes}
use Rattle.mark_core.proofs.Writing.Places.{region-length}
use Rattle.mark_core.proofs.References.ReferencesFields.{new-fields}
use Rattle.mark_core.proofs.References.ReferencesRoots.{Used, read-field, seat-formed, UsedAfter}
use Rattle.mark_core.proofs.Used.UsedKept.{used-back}
use Rattle.mark_core.proofs.Used.UsedSeats.{IsMadeBy}
use Rattle.mark_core.specs.declared.kinds.Step.{Step}
use Rattle.mark_core.specs.declared.kinds.Step.TheVariants.{StoreNew}
use Rattle.mark_core.specs.declared.seat.SeatState.{SeatState}
use Rattle.mark_core.specs.declared.seat.CacheState.{CacheState}
use Rattle.gc_table.specs.StandsFor.{object_count, SeatStands, StandsFor, Stands, StandsIn}
use Rattle.gc_table.specs.declared.view.Meaning.{Meaning}
use Rattle.gc_table.specs.PlainSteps.{meaning_of, own_section, changed, with_part, AsksIn}
use Rattle.gc_table.proofs.Stands.StandsAgree.{Stays, agrees-on}
use Rattle.gc_table.proofs.Stands.StandsFrame.{HasMeaning, cell-on, Moves, moved, counts-grow, get-set_same}
use Rattle.gc_table.proofs.Stands.StandsMaking.{no-next, all-made, NewWords, part-moves}
use Rattle.gc_table.proofs.Stands.StandsSeat.{Mutates, names-used, got-used, root-used, free-not-used, mutates}
use Rattle.mark_core.proofs.Known.{words_left, seats_left}
use Rattle.mark_core.proofs.Caches.CachesSeat.{all-facts, CacheFacts, next-free, next-makes}
use Rattle.mark_core.proofs.Pool.PoolPlaces.{same_place}
use Rattle.plain_heap.specs.declared.operation.Op.{Op}
use Rattle.gc_table.proofs.Stands.StandsStores.{values-length}
use Rattle.gc_table.proofs.NewObjects.{made_last, last_fits, not_below}

-- 23: the identity of a new cell is stored, which is used from then on.
ids_length : (c : Core) → IsCore c → length (words_of c.shape c.words).identities ≡ c.shape.cells
ids_length c k = region-length (region_sizes c.shape) 9 c.words (omega (arith, k.formed.words))

made_none : (o : Option CacheState) (x : ℕ) → has_making (with_made o x) ≡ false
made_none None x = refl
made_none (Some z) x = refl

pub made-moves : (c : Core) (i : ℕ) (s : SeatState) (x part word : ℕ) (ms : List Meaning) → Taken c i s (StoreNew x part word) → StandsFor c ms → (a : Mutates c i s ms) → free_in s.cache x ≡ true → makes s.cache x part ≡ true → length (meaning_of ms i).heap.objects ≡ s.made
    → x < c.shape.cells → c.shape.fields < part → word ≡ i * flag + s.made
    → Moves c i s (StoreNew x part word) (record (words_of c.shape c.words) { identities = set (words_of c.shape c.words).identities x word }) (record s { cache = with_made s.cache x; made = s.made + 1 }) (meaning_of ms i) ms
made-moves c i s x part word ms k st a free next room here last identity = record {
  numbered = st.numbered i m a.there;
  more = omega arith;
  identities_kept = kept;
  now_roots = the-roots c;
  now = now-seat w.roots c.seats i s (record s { cache = with_made s.cache x; made = s.made + 1 }) k.got refl refl;
  other_roots = λ j u d h. refl;
  slots_nil = st.slots_nil;
  own_roots = λ u h. agrees-on w.identities ids (object_count ms) q i _ _ (λ some. kept (slice_index (the-roots c) (i * 32 + u) - 1) (root-used c (i * 32 + u) k.core some)) more (st.roots_agree i m a.there u h);
  cells = λ y h u. cell y h (used-back c i s step y k u);
  other_making = λ j o d g live y part' e. refl;
  own_seat =
      λ live.
      record {
        got = agrees-on w.identities ids (object_count ms) q i s.got m.got (λ some. kept (s.got - 1) (got-used c i s step k some)) more mine.got;
        made = inr (ap (λ j. j + 1) room, made_none s.cache x);
        making = λ y p e l. absurd (false≢true (sym (made_makes s.cache x y p) ∙ e));
        last = subst (λ (o : Option ℕ). IfSome o (λ y. (slice_index ids y + 1 ≡ i * flag + (s.made + 1)) × (0 < s.made + 1))) (sym (made_last s.cache x free)) (omega (arith, now, identity), omega arith);
      };
}
  where
    step : Step
    step = StoreNew x part word

    w : Words
    w = words_of c.shape c.words

    ids : List ℕ
    ids = set w.identities x word

    m : Meaning
    m = meaning_of ms i

    q : ℕ → ℕ
    q = object_count (set ms i m)

    more : (j : ℕ) → object_count ms j ≤ q j
    more = counts-grow ms i m m a.there (omega arith)

    mine : SeatStands c.shape w.identities w.values (object_count ms) i s m
    mine = st.seats_agree i s m k.got a.there k.live

    now : slice_index ids x ≡ word
    now = get_or-set_same w.identities x word 0 (omega (arith, here, ids_length c k.core))

    few : s.made < flag
    few = omega (arith, (seat-formed c i s step k).made, k.core.formed.shaped.objects)

    used_other : (y : ℕ) → Used c y ≡ true → y ≢ x
    used_other y u e = true≢false (sym u ∙ ap (Used c) e ∙ free-not-used c i s step x k free)

    kept : (y : ℕ) → Used c y ≡ true → slice_index ids y ≡ slice_index w.identities y
    kept y u = get_or-set_other w.identities x y word 0 (used_other y u)

    section : section_of_cell ids x ≡ i
    section = omega (arith, now, identity, few)

    number : number_of_cell ids x ≡ length m.heap.objects
    number = omega (arith, now, identity, few, room)

    cell : (y : ℕ) → y < c.shape.cells → (Used c y ≡ true) ⊎ IsMadeBy c.shape step y → HasMeaning c.shape ids w.values w.fields (set ms i m) y
    cell y h (inl u) =
        let stays : Stays c.shape w.identities ids w.values w.values w.fields w.fields (object_count ms) q y =
        record {
          identity = kept y u;
          value = refl;
          each_field = λ j l. refl;
          targets = λ j l some. kept (field c.shape w.fields y j - 1) (names-used (Used c) (field c.shape w.fields y j) some (read-field c i s step y j k a.active h u l));
          more = more;
        } in
        cell-on c.shape w.identities ids w.values w.values w.fields w.fields ms i m m y a.there stays (λ e o. refl) (λ e o. absurd (no-next c i s step ms y k a room h u e o)) (st.cells_agree y h u)
    cell y h (inr made) =
        subst (λ j. HasMeaning c.shape ids w.values w.fields (set ms i m) j) (sym made.0)
        (m, ap (λ j. slice_get (set ms i m) j) section ∙ get-set_same ms i m m a.there, inr (record { number = number; value = mine.making x part next last; nil = λ j l. new-fields c i s x part word k last j l }))

-- what stands after the part, if it is a field, at most the value, and the value
abbrev NewStands : Core → ℕ → SeatState → ℕ → ℕ → ℕ → List Meaning → Bool → Bool → Bool → Type 0
NewStands c i s x part word ms field_part early value_part =
    let w : Words = put_word (cond field_part (11, x * c.shape.fields + part) (cond value_part (10, x) (9, x))) word (words_of c.shape c.words) in
    let seats : List SeatState = set c.seats i (record s { cache = cond early (with_making s.cache x (part + 1)) (with_made s.cache x); made = cond early s.made (s.made + 1) }) in
    Stands c.shape (roots_now w.roots seats) w.identities w.values w.fields (λ y. IsTrue (UsedAfter c i s (StoreNew x part word) y))
    seats
    (set ms i (record (meaning_of ms i) { value = cond value_part word (meaning_of ms i).value }))

-- what is known if a part of a new cell may be stored
pub record MakesPart (c : Core) (i : ℕ) (s : SeatState) (x part word : ℕ) (ms : List Meaning) : Type 0 where
  pub taken : Taken c i s (StoreNew x part word)
  pub stands : StandsFor c ms
  pub mutates : Mutates c i s ms
  pub cell : x < c.shape.cells
  pub free : free_in s.cache x ≡ true
  pub next : 0 < part → makes s.cache x part ≡ true
  pub room : length (meaning_of ms i).heap.objects ≡ s.made
  pub fits : part ≡ c.shape.fields → word < flag

field_part : (c : Core) (i : ℕ) (s : SeatState) (x part word : ℕ) (ms : List Meaning) → MakesPart c i s x part word ms → part < c.shape.fields → NewStands c i s x part word ms true true false
field_part c i s x part word ms k h =
    let w : Words = words_of c.shape c.words in
    let fields : List ℕ = set w.fields (x * c.shape.fields + part) word in
    let m : Meaning = meaning_of ms i in
    let new : NewWords c x part w.values fields m.value =
    record {
      other_values = λ y d. refl;
      other_fields = λ y j d l. get_or-set_other w.fields (x * c.shape.fields + part) (y * c.shape.fields + j) word 0 (λ e. d (same_place c.shape.fields y x j part l h e).0);
      stored = λ e. absurd (omega (arith, e, h));
      fits = (k.stands.numbered i m k.mutates.there).3;
    } in
    moved c i s (StoreNew x part word) (record w { values = w.values; fields = fields }) (record s { cache = with_making s.cache x (part + 1) }) (record m { value = m.value }) ms k.taken k.stands k.mutates
    (part-moves c i s x part word ms w.values fields m.value k.taken k.stands k.mutates k.free k.room (omega (arith, h)) new)

value_part : (c : Core) (i : ℕ) (s : SeatState) (x part word : ℕ) (ms : List Meaning) → MakesPart c i s x part word ms → part ≡ c.shape.fields → NewStands c i s x part word ms false true true
value_part c i s x part word ms k h =
    let w : Words = words_of c.shape c.words in
    let values : List ℕ = set w.values x word in
    let m : Meaning = meaning_of ms i in
    let new : NewWords c x part values w.fields word =
    record {
      other_values = λ y d. get_or-set_other w.values x y word 0 d;
      other_fields = λ y j d l. refl;
      stored = λ e. get_or-set_same w.values x word 0 (omega (arith, k.cell, values-length c k.taken.core));
      fits = k.fits h;
    } in
    moved c i s (StoreNew x part word) (record w { values = values; fields = w.fields }) (record s { cache = with_making s.cache x (part + 1) }) (record m { value = word }) ms k.taken k.stands k.mutates
    (part-moves c i s x part word ms values w.fields word k.taken k.stands k.mutates k.free k.room (omega (arith, h)) new)

last_part : (c : Core) (i : ℕ) (s : SeatState) (x part word : ℕ) (ms : List Meaning) → MakesPart c i s x part word ms → c.shape.fields < part → word ≡ i * flag + s.made → NewStands c i s x part word ms false false false
last_part c i s x part word ms k h identity =
    let w : Words = words_of c.shape c.words in
    moved c i s (StoreNew x part word) (record w { identities = set w.identities x word }) (record s { cache = with_made s.cache x; made = s.made + 1 }) (meaning_of ms i) ms k.taken k.stands k.mutates
    (made-moves c i s x part word ms k.taken k.stands k.mutates k.free (k.next (omega (arith, h))) k.room k.cell h identity)

-- the three kinds of parts
part_kinds : (c : Core) (i : ℕ) (s : SeatState) (x part word : ℕ) (ms : List Meaning) → MakesPart c i s x part word ms → (c.shape.fields < part → word ≡ i * flag + s.made)
    → NewStands c i s x part word ms (nat_lt part c.shape.fields) (nat_le part c.shape.fields) (eqb part c.shape.fields)
part_kinds c i s x part word ms k identity = of (cases_Bool (nat_lt part c.shape.fields)) (cases_eq part c.shape.fields)
  where
    P : Bool → Bool → Bool → Type 0
    P = NewStands c i s x part word ms

    turn : (a b d : Bool) → nat_lt part c.shape.fields ≡ a → nat_le part c.shape.fields ≡ b → eqb part c.shape.fields ≡ d → P a b d → P (nat_lt part c.shape.fields) (nat_le part c.shape.fields) (eqb part c.shape.fields)
    turn a b d e f g h = subst (λ y. P y (nat_le part c.shape.fields) (eqb part c.shape.fields)) (sym e) (subst (λ y. P a y (eqb part c.shape.fields)) (sym f) (subst (λ y. P a b y) (sym g) h))

    of : (nat_lt part c.shape.fields ≡ true) ⊎ (nat_lt part c.shape.fields ≡ false) → (part ≡ c.shape.fields) ⊎ (part ≢ c.shape.fields) → P (nat_lt part c.shape.fields) (nat_le part c.shape.fields) (eqb part c.shape.fields)
    of (inl e) d =
        let h : part < c.shape.fields = ltb-true part c.shape.fields e in
        turn true true false e (le-leb part c.shape.fields (omega (arith, h))) (ne_eqb part c.shape.fields (λ z. omega (arith, z, h))) (field_part c i s x part word ms k h)
    of (inr e) (inl d) = turn false true true e (le-leb part c.shape.fields (omega (arith, d))) (eq-eqb part c.shape.fields d) (value_part c i s x part word ms k d)
    of (inr e) (inr d) =
        let h : c.shape.fields < part = omega (arith, ltb-false part c.shape.fields e, d) in
        turn false false false e (lt-leb part c.shape.fields h) (ne_eqb part c.shape.fields d) (last_part c i s x part word ms k h (identity h))

-- what fits the part of the value is a value
value_fits : (field_part value_part : Bool) (a b e : Bool) → field_part ≡ false → value_part ≡ true → cond field_part a (cond value_part b e) ≡ true → b ≡ true
value_fits field_part value_part a b e f g h = sym (ap (λ (z : Bool). cond z b e) g) ∙ (sym (ap (λ (z : Bool). cond z a (cond value_part b e)) f) ∙ h)

not_below_same : (m n : ℕ) → m ≡ n → nat_lt m n ≡ false
not_below_same m n h = false_from_ne_true (nat_lt m n) (λ e. omega (arith, h, ltb-true m n e))

pub store-new : (c : Core) (i : ℕ) (s : SeatState) (x part word : ℕ) (op : Op) (ms : List Meaning) → Taken c i s (StoreNew x part word) → StandsFor c ms → AsksIn s ms (StoreNew x part word) op
    → StandsIn c.shape (words_left c s (StoreNew x part word)) (seats_left c i s (StoreNew x part word)) (changed ms (own_section s) (with_part c.shape part word))
store-new c i s x part word op ms k st asks = subst (λ (o : ℕ). StandsIn c.shape (words_left c s step) (seats_left c i s step) (changed ms o (with_part c.shape part word))) (sym a.own) (part_kinds c i s x part word ms makes_part identity)
  where
    step : Step
    step = StoreNew x part word

    b : ((nat_lt x c.shape.cells && nat_le part (c.shape.fields + 1)) ≡ true) × (may_mutate s ≡ true)
    b = and_parts (nat_lt x c.shape.cells && nat_le part (c.shape.fields + 1)) (may_mutate s) k.ok.0

    a : Mutates c i s ms
    a = mutates c i s step ms k st b.1

    m : Meaning
    m = meaning_of ms i

    mine : SeatStands c.shape (words_of c.shape c.words).identities (words_of c.shape c.words).values (object_count ms) i s m
    mine = st.seats_agree i s m k.got a.there k.live

    facts : CacheFacts s.cache
    facts = own-fact c i s step (λ (t : SeatState). CacheFacts t.cache) k (all-facts c k.core)

    asked : part ≡ 0 → length m.heap.objects ≡ s.made
    asked = subst (λ (o : ℕ). part ≡ 0 → length (meaning_of ms o).heap.objects ≡ s.made) a.own asks

    room : (part ≡ 0) ⊎ (part ≢ 0) → length m.heap.objects ≡ s.made
    room (inl e) = asked e
    room (inr d) = all-made c.shape (words_of c.shape c.words).identities (words_of c.shape c.words).values (object_count ms) i s m x part mine (next-makes s.cache x part d k.ok.1.0)

    fits : part ≡ c.shape.fields → word < flag
    fits e =
        let low : nat_lt part c.shape.fields ≡ false = not_below_same part c.shape.fields e in
        ltb-true word flag (value_fits (nat_lt part c.shape.fields) (eqb part c.shape.fields) (eqb word 0) (nat_lt word flag) (is_some s.section && nat_lt s.made c.shape.objects && eqb word (unwrap_or s.section 0 * flag + s.made)) low (eq-eqb part c.shape.fields e) k.ok.1.1.0)

    makes_part : MakesPart c i s x part word ms
    makes_part = record {
      taken = k;
      stands = st;
      mutates = a;
      cell = ltb-true x c.shape.cells (and_parts (nat_lt x c.shape.cells) (nat_le part (c.shape.fields + 1)) b.0).0;
      free = next-free s.cache x part facts.made_from_free k.ok.1.0;
      next = λ h. next-makes s.cache x part (λ z. omega (arith, z, h)) k.ok.1.0;
      room = room (cases_eq part 0);
      fits = fits;
    }

    identity : c.shape.fields < part → word ≡ i * flag + s.made
    identity h =
        let low : nat_lt part c.shape.fields ≡ false = not_below part c.shape.fields h in
        let fits = last_fits (nat_lt part c.shape.fields) (eqb part c.shape.fields) (eqb word 0) (nat_lt word flag) (is_some s.section && nat_lt s.made c.shape.objects && eqb word (unwrap_or s.section 0 * flag + s.made)) low (ne_eqb part c.shape.fields (λ z. omega (arith, z, h))) k.ok.1.1.0 in
        eqb-true word (unwrap_or s.section 0 * flag + s.made) (and_parts (is_some s.section && nat_lt s.made c.shape.objects) (eqb word (unwrap_or s.section 0 * flag + s.made)) fits).1 ∙ ap (λ (o : ℕ). o * flag + s.made) a.own
