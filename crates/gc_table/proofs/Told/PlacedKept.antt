-- After each step that a seat may take, each cell in use is still the place of its object.
use Rattle.std.proofs.Common.{ℕ, ◌≡◌, ◌+◌, ◌/◌, ◌%◌, ◌*◌, ◌<◌, ◌≤◌, zero, suc, List, [], ◌∷◌, ◌++◌, set, length, arith, refl, sym, ap, ◌∙◌, subst, Some, ◌⊎◌, inl, inr, ⊎_elim, ◌≢◌, Bool, true, false, cond, eqb, ◌&&◌}
use Rattle.std.specs.Prelude.{IsFalse, slice_get, slice_index, IsTrue, nat_lt, nat_le, is_some, unwrap_or}
use Rattle.std.proofs.lemmas.List.{length-set, length-append, get_or-set_same, get_or-set_other}
use Rattle.std.proofs.lemmas.Option.{slice_get-get_or}
use Rattle.mark_core.specs.Bits.{flag}
use Rattle.mark_core.specs.Rules.HeapRules.{section_of_cell, number_of_cell}
use Rattle.mark_core.proofs.Known.{some_none, words_left, seats_left, found}
use Rattle.mark_core.proofs.Formed.FormedLearns.{set-here, set-there, push-cases}
use Rattle.mark_core.specs.declared.kinds.Shape.{Shape}
use Rattle.mark_core.specs.declared.seat.SeatState.{SeatState}
use Rattle.gc_table.specs.declared.view.Place.{Place}
use Rattle.gc_table.specs.declared.view.SectionState.{SectionState}
use Rattle.gc_table.specs.TableState.{no_section, section_at, with_section, TableState, meanings_of, state_after}
use Rattle.gc_table.specs.Told.{LiesAt, Placed}
use Rattle.gc_table.proofs.Told.PlacedLeft.{left-there, PlacedIn, counted-seat, placed-same, Counted, counted-split, counted-join}
use Rattle.gc_table.proofs.Stands.StandsFrame.{get-set_same}
use Rattle.gc_table.proofs.State.StateSteps.{each-left, Goes, taken, sections_left, event, kept-whole}
use Rattle.std.proofs.lemmas.Bool.{true≢false, and_parts, eqb-true, ne_eqb, eq-eqb, le-ltb, le-leb, lt-leb, leb-true, lt-ltb, cases_eq, cases_lt}
use Rattle.mark_core.specs.Layout.{Words, words_of, put_word, region_sizes}
use Rattle.mark_core.specs.Seats.{free_in, may_mutate}
use Rattle.mark_core.specs.Steps.MutatorSteps.{fits_part, with_making, with_made}
use Rattle.mark_core.proofs.Blocks.BlocksStopped.{Taken, within, mine as own-fact}
use Rattle.mark_core.proofs.Caches.CachesSeat.{all-facts, CacheFacts, next-free}
use Rattle.mark_core.proofs.Writing.Places.{region-length}
use Rattle.mark_core.proofs.References.ReferencesRoots.{Used, UsedAfter, seat-formed}
use Rattle.mark_core.proofs.Used.UsedKept.{used-back}
use Rattle.mark_core.proofs.Used.UsedSeats.{IsMadeBy}
use Rattle.mark_core.specs.declared.kinds.Step.{Step}
use Rattle.mark_core.specs.declared.kinds.Step.TheVariants.{StoreNew, StoreField, StoreValue, Split, Join, ExchangeField, ExchangeValue}
use Rattle.gc_table.specs.PlainSteps.{with_part}
use Rattle.gc_table.specs.Sections.{section_after}
use Rattle.gc_table.proofs.Stands.StandsSeat.{Mutates, mutates-in, free-below, free-not-used}
use Rattle.gc_table.proofs.State.StateStores.{meanings-length}
use Rattle.mark_core.specs.Effects.{seat_after}
use Rattle.gc_table.proofs.Stands.StandsKept.{identities-same}
use Rattle.gc_table.proofs.Told.ApartKept.{made_place as new_place}

-- 23: each word of a new cell, by its number: the last one adds a place, and the others add none.
-- Where objects lie once the last word of a new cell makes it the place of the next object of its section.
-- an element of a list to which one is added, and the one that is added
get_push : {X : Type 0} (xs : List X) (n : ℕ) (x y : X) → slice_get xs n ≡ Some x → slice_get (xs ++ y ∷ []) n ≡ Some x
get_push [] n x y e = absurd (some_none x (sym e))
get_push (z ∷ xs) zero x y e = e
get_push (z ∷ xs) (suc n) x y e = get_push xs n x y e

get_pushed : {X : Type 0} (xs : List X) (y : X) → slice_get (xs ++ y ∷ []) (length xs) ≡ Some y
get_pushed [] y = refl
get_pushed (x ∷ xs) y = get_pushed xs y

-- what the last word of a new cell of section i shows: f adds the place p to the section
pub record Adds (sh : Shape) (ids : List ℕ) (used used' : ℕ → Type 0) (seats : List SeatState) (xs : List SectionState) (i c word : ℕ) (s t : SeatState) (f : SectionState → SectionState) (p : SectionState → Place) : Type 0 where
  pub got : slice_get seats i ≡ Some s
  pub live : IsFalse s.spent
  pub within : i < length seats
  pub inside : i < length xs
  pub cell : (c < sh.cells) × (c < length ids)
  pub more : (d : ℕ) → used' d → used d ⊎ (d ≡ c)
  pub unused : used c → ⊥
  pub places : (y : SectionState) → (f y).places ≡ y.places ++ p y ∷ []
  pub at : (y : SectionState) → (p y).cell ≡ c
  pub made : t.made ≡ s.made + 1
  pub few : s.made < flag
  pub identity : word ≡ i * flag + s.made

pub placed-more : (sh : Shape) (ids : List ℕ) (used used' : ℕ → Type 0) (seats : List SeatState) (xs : List SectionState) (i c word : ℕ) (s t : SeatState) (f : SectionState → SectionState) (p : SectionState → Place)
    → Adds sh ids used used' seats xs i c word s t f p → Placed sh ids used seats xs → Placed sh (set ids c word) used' (set seats i t) (with_section (Some i) f xs)
placed-more sh ids used used' seats xs i c word s t f p a k = record {
  at_place = λ d h u. ⊎_elim (λ (b : used d). old d h b) (λ (b : d ≡ c). subst (λ j. Lies j) (sym b) new) (a.more d u);
  counted = each-left (λ w x. (u : SeatState) → slice_get (set seats i t) w ≡ Some u → IsFalse u.spent → length x.places ≡ u.made) f (Some i) xs (λ w y g d u b alive. k.counted w y g u (set-there seats i w t u (λ e. d (ap Some (sym e))) b) alive) own_count;
  unseated =
      each-left (λ w x. length (set seats i t) ≤ w → x.places ≡ []) f (Some i) xs (λ w y g d l. k.unseated w y g (omega (arith, l, length-set seats i t)))
      (λ w y g e l. absurd (omega (arith, l, length-set seats i t, a.within, is w e)));
  below = each-left (λ w x. (n : ℕ) (q : Place) → slice_get x.places n ≡ Some q → q.cell < sh.cells) f (Some i) xs (λ w y g d. k.below w y g) own_below;
}
  where
    ids' : List ℕ
    ids' = set ids c word

    xs' : List SectionState
    xs' = with_section (Some i) f xs

    Lies : ℕ → Type 0
    Lies d = (x : SectionState) × (slice_get xs' (section_of_cell ids' d) ≡ Some x) × LiesAt x (number_of_cell ids' d) d

    is : (w : ℕ) → Some i ≡ Some w → i ≡ w
    is w e = cc

    there : slice_get xs i ≡ Some (section_at xs i)
    there = slice_get-get_or xs i no_section a.inside

    full : (w : ℕ) (y : SectionState) → slice_get xs w ≡ Some y → i ≡ w → length y.places ≡ s.made
    full w y g e = k.counted w y g s (subst (λ j. slice_get seats j ≡ Some s) e a.got) a.live

    own_count : (w : ℕ) (y : SectionState) → slice_get xs w ≡ Some y → Some i ≡ Some w → (u : SeatState) → slice_get (set seats i t) w ≡ Some u → IsFalse u.spent → length (f y).places ≡ u.made
    own_count w y g e u b alive =
        let same : t ≡ u = set-here seats i t u (subst (λ j. slice_get (set seats i t) j ≡ Some u) (sym (is w e)) b) in
        let long : length (f y).places ≡ length y.places + 1 = ap (λ (ps : List Place). length ps) (a.places y) ∙ length-append y.places (p y ∷ []) in
        omega (arith, long, full w y g (is w e), a.made, ap (λ (z : SeatState). z.made) same)

    own_below : (w : ℕ) (y : SectionState) → slice_get xs w ≡ Some y → Some i ≡ Some w → (n : ℕ) (q : Place) → slice_get (f y).places n ≡ Some q → q.cell < sh.cells
    own_below w y g e n q h =
        ⊎_elim
        (λ (b : (n ≡ length y.places) × (p y ≡ q)). subst (λ j. j < sh.cells) (sym (a.at y) ∙ ap (λ (z : Place). z.cell) b.1) a.cell.0)
        (λ (b : slice_get y.places n ≡ Some q). k.below w y g n q b)
        (push-cases y.places n (p y) q (ap (λ (ps : List Place). slice_get ps n) (sym (a.places y)) ∙ h))

    lies : (d w n : ℕ) (y : SectionState) → LiesAt y n d → (slice_get xs' w ≡ Some y) ⊎ ((Some i ≡ Some w) × (slice_get xs' w ≡ Some (f y))) → (x : SectionState) × (slice_get xs' w ≡ Some x) × LiesAt x n d
    lies d w n y at (inl e) = (y, e, at)
    lies d w n y at (inr e) = (f y, e.1, (at.0, ap (λ (ps : List Place). slice_get ps n) (a.places y) ∙ get_push y.places n at.0 (p y) at.1, at.2))

    old : (d : ℕ) → d < sh.cells → used d → Lies d
    old d h u =
        let kept : slice_index ids' d ≡ slice_index ids d = get_or-set_other ids c d word 0 (λ e. a.unused (subst used e u)) in
        let b = k.at_place d h u in
        subst (λ (w : ℕ). (x : SectionState) × (slice_get xs' (w / flag) ≡ Some x) × LiesAt x (w % flag) d) (sym kept) (lies d (section_of_cell ids d) (number_of_cell ids d) b.0 b.2 (left-there (Some i) f xs (section_of_cell ids d) b.0 b.1))

    new : Lies c
    new =
        let now : slice_index ids' c ≡ word = get_or-set_same ids c word 0 a.cell.1 in
        let y : SectionState = section_at xs i in
        let section : section_of_cell ids' c ≡ i = omega (arith, now, a.identity, a.few) in
        let number : number_of_cell ids' c ≡ length y.places = omega (arith, now, a.identity, a.few, full i y there refl) in
        (f y, ap (λ j. slice_get xs' j) section ∙ get-set_same xs i y (f y) there, (p y, ap (λ j. slice_get (f y).places j) number ∙ (ap (λ (ps : List Place). slice_get ps (length y.places)) (a.places y) ∙ get_pushed y.places (p y)), a.at y))

-- the section after the word, if it is the last
abbrev new_section : Shape → SeatState → ℕ → ℕ → ℕ → Bool → SectionState → SectionState
new_section sh s c part word last y = record y { meaning = with_part sh part word y.meaning; places = cond last (y.places ++ new_place s c y ∷ []) y.places; settled = false }

-- where objects lie after the word, if it is a field, at most the value, the value, and the last
abbrev NewPlaced : TableState → ℕ → SeatState → ℕ → ℕ → ℕ → Bool → Bool → Bool → Bool → Type 0
NewPlaced x i s c part word field_part early value_part last =
    let w : Words = put_word (cond field_part (11, c * x.core.shape.fields + part) (cond value_part (10, c) (9, c))) word (words_of x.core.shape x.core.words) in
    Placed x.core.shape w.identities (λ y. IsTrue (UsedAfter x.core i s (StoreNew c part word) y))
    (set x.core.seats i (record s { cache = cond early (with_making s.cache c (part + 1)) (with_made s.cache c); made = cond early s.made (s.made + 1) })) (with_section s.section (new_section x.core.shape s c part word last) x.sections)

-- a word that isn't the last
early_part : (x : TableState) (i : ℕ) (s : SeatState) (c part word : ℕ) (t : SeatState) → Goes x i s (StoreNew c part word) → part ≤ x.core.shape.fields → t.made ≡ s.made
    → Placed x.core.shape (words_of x.core.shape x.core.words).identities (λ y. IsTrue (UsedAfter x.core i s (StoreNew c part word) y)) (set x.core.seats i t) (with_section s.section (new_section x.core.shape s c part word false) x.sections)
early_part x i s c part word t g h made =
    let step : Step = StoreNew c part word in
    let k : Taken x.core i s step = taken x i s step g in
    placed-same x.core.shape (words_of x.core.shape x.core.words).identities (λ y. IsTrue (Used x.core y)) (λ y. IsTrue (UsedAfter x.core i s step y)) x.core.seats (set x.core.seats i t) s.section (new_section x.core.shape s c part word false) x.sections (λ y. refl)
    (λ y l u. ⊎_elim (λ (a : Used x.core y ≡ true). a) (λ (a : IsMadeBy x.core.shape step y). absurd (omega (arith, a.1, h))) (used-back x.core i s step y k u))
    (counted-seat x.core.seats i s t x.sections g.got g.live made g.whole.told.placed.counted) (omega (arith, length-set x.core.seats i t)) g.whole.told.placed

-- the last word is the next identity of the section
new_identity : (sh : Shape) (s : SeatState) (part word : ℕ) → sh.fields < part → fits_part sh s part word ≡ true → word ≡ unwrap_or s.section 0 * flag + s.made
new_identity sh s part word h e =
    let a : nat_lt part sh.fields ≡ false = le-ltb part sh.fields (omega (arith, h)) in
    let b : eqb part sh.fields ≡ false = ne_eqb part sh.fields (λ i. omega (arith, h, i)) in
    let f = rw (a, b) at e in
    eqb-true word (unwrap_or s.section 0 * flag + s.made) (and_parts (is_some s.section && nat_lt s.made sh.objects) (eqb word (unwrap_or s.section 0 * flag + s.made)) f).1

last_part : (x : TableState) (i : ℕ) (s : SeatState) (c part word : ℕ) → Goes x i s (StoreNew c part word) → x.core.shape.fields < part → NewPlaced x i s c part word false false false true
last_part x i s c part word g h =
    subst (λ o. Placed x.core.shape (set ids c word) after (set x.core.seats i t) (with_section o (new_section x.core.shape s c part word true) x.sections)) (sym a.section)
    (placed-more x.core.shape ids (λ y. IsTrue (Used x.core y)) after x.core.seats x.sections i c word s t (new_section x.core.shape s c part word true) (new_place s c) adds g.whole.told.placed)
  where
    step : Step
    step = StoreNew c part word

    k : Taken x.core i s step
    k = taken x i s step g

    ids : List ℕ
    ids = (words_of x.core.shape x.core.words).identities

    after : ℕ → Type 0
    after y = IsTrue (UsedAfter x.core i s step y)

    t : SeatState
    t = record s { cache = with_made s.cache c; made = s.made + 1 }

    a : Mutates x.core i s (meanings_of x.sections)
    a = mutates-in x.core i s step (meanings_of x.sections) k (meanings-length x g.whole) (and_parts (nat_lt c x.core.shape.cells && nat_le part (x.core.shape.fields + 1)) (may_mutate s) k.ok.0).1

    facts : CacheFacts s.cache
    facts = own-fact x.core i s step (λ (u : SeatState). CacheFacts u.cache) k (all-facts x.core k.core)

    free : free_in s.cache c ≡ true
    free = next-free s.cache c part facts.made_from_free k.ok.1.0

    here : c < x.core.shape.cells
    here = free-below x.core i s step c k free

    adds : Adds x.core.shape ids (λ y. IsTrue (Used x.core y)) after x.core.seats x.sections i c word s t (new_section x.core.shape s c part word true) (new_place s c)
    adds = record {
      got = g.got;
      live = g.live;
      within = within x.core i s step k;
      inside = omega (arith, a.inside, g.whole.sections);
      cell = (here, omega (arith, here, region-length (region_sizes x.core.shape) 9 x.core.words (omega (arith, k.core.formed.words))));
      more = λ d u. ⊎_elim (λ (b : Used x.core d ≡ true). inl b) (λ (b : IsMadeBy x.core.shape step d). inr b.0) (used-back x.core i s step d k u);
      unused = λ u. true≢false (sym u ∙ free-not-used x.core i s step c k free);
      places = λ y. refl;
      at = λ y. refl;
      made = refl;
      few = omega (arith, (seat-formed x.core i s step k).made);
      identity = new_identity x.core.shape s part word h k.ok.1.1.0 ∙ ap (λ o. unwrap_or o 0 * flag + s.made) a.section;
    }

-- the three kinds of words
pub placed-new : (x : TableState) (i : ℕ) (s : SeatState) (c part word : ℕ) → Goes x i s (StoreNew c part word)
    → PlacedIn x.core.shape (words_left x.core s (StoreNew c part word)) (seats_left x.core i s (StoreNew c part word)) (sections_left x s (StoreNew c part word))
placed-new x i s c part word g = of (cases_lt part n) (cases_eq part n)
  where
    n : ℕ
    n = x.core.shape.fields

    P : Bool → Bool → Bool → Bool → Type 0
    P = NewPlaced x i s c part word

    turn : (a b d e : Bool) → nat_lt part n ≡ a → nat_le part n ≡ b → eqb part n ≡ d → eqb part (n + 1) ≡ e → P a b d e → P (nat_lt part n) (nat_le part n) (eqb part n) (eqb part (n + 1))
    turn a b d e ea eb ed ee p =
        subst (λ y. P y (nat_le part n) (eqb part n) (eqb part (n + 1))) (sym ea) (subst (λ y. P a y (eqb part n) (eqb part (n + 1))) (sym eb) (subst (λ y. P a b y (eqb part (n + 1))) (sym ed) (subst (λ y. P a b d y) (sym ee) p)))

    within_parts : part ≤ n + 1
    within_parts = leb-true part (n + 1) (and_parts (nat_lt c x.core.shape.cells) (nat_le part (n + 1)) (and_parts (nat_lt c x.core.shape.cells && nat_le part (n + 1)) (may_mutate s) g.ok.0).0).1

    of : (part < n) ⊎ (n ≤ part) → (part ≡ n) ⊎ (part ≢ n) → P (nat_lt part n) (nat_le part n) (eqb part n) (eqb part (n + 1))
    of (inl h) d =
        turn true true false false (lt-ltb part n h) (le-leb part n (omega (arith, h))) (ne_eqb part n (λ z. omega (arith, z, h))) (ne_eqb part (n + 1) (λ z. omega (arith, z, h)))
        (early_part x i s c part word (record s { cache = with_making s.cache c (part + 1) }) g (omega (arith, h)) refl)
    of (inr h) (inl d) =
        turn false true true false (le-ltb part n h) (le-leb part n (omega (arith, d))) (eq-eqb part n d) (ne_eqb part (n + 1) (λ z. omega (arith, z, d)))
        (early_part x i s c part word (record s { cache = with_making s.cache c (part + 1) }) g (omega (arith, d)) refl)
    of (inr h) (inr d) =
        let above : n < part = omega (arith, h, d) in
        turn false false false true (le-ltb part n h) (lt-leb part n above) (ne_eqb part n d) (eq-eqb part (n + 1) (omega (arith, above, within_parts))) (last_part x i s c part word g above)

-- a step that gives no cell its identity
placed_still : (x : TableState) (i : ℕ) (s : SeatState) (step : Step) → Goes x i s step → (words_left x.core s step).identities ≡ (words_of x.core.shape x.core.words).identities → ((y : ℕ) → IsMadeBy x.core.shape step y → ⊥)
    → ((y : SectionState) → (section_after x.core.shape x.plan s step y).places ≡ y.places) → Counted (seats_left x.core i s step) x.sections → length x.core.seats ≤ length (seats_left x.core i s step)
    → PlacedIn x.core.shape (words_left x.core s step) (seats_left x.core i s step) (sections_left x s step)
placed_still x i s step g ids none same counted longer =
    let used : ℕ → Type 0 = λ y. IsTrue (Used x.core y) in
    let after : ℕ → Type 0 = λ y. IsTrue (UsedAfter x.core i s step y) in
    subst (λ (ws : List ℕ). Placed x.core.shape ws after (seats_left x.core i s step) (sections_left x s step)) (sym ids)
    (placed-same x.core.shape (words_of x.core.shape x.core.words).identities used after x.core.seats (seats_left x.core i s step) s.section (section_after x.core.shape x.plan s step) x.sections same
    (λ y h u. ⊎_elim (λ (a : Used x.core y ≡ true). a) (λ (a : IsMadeBy x.core.shape step y). absurd (none y a)) (used-back x.core i s step y (taken x i s step g) u)) counted longer g.whole.told.placed)

-- one in which the seat makes no cell
placed_seat : (x : TableState) (i : ℕ) (s : SeatState) (step : Step) → Goes x i s step → (words_left x.core s step).identities ≡ (words_of x.core.shape x.core.words).identities → ((y : ℕ) → IsMadeBy x.core.shape step y → ⊥)
    → ((y : SectionState) → (section_after x.core.shape x.plan s step y).places ≡ y.places) → seats_left x.core i s step ≡ set x.core.seats i (seat_after x.core.shape s step (found x.core s step)) → (seat_after x.core.shape s step (found x.core s step)).made ≡ s.made
    → PlacedIn x.core.shape (words_left x.core s step) (seats_left x.core i s step) (sections_left x s step)
placed_seat x i s step g ids none same is made =
    let t : SeatState = seat_after x.core.shape s step (found x.core s step) in
    placed_still x i s step g ids none same (subst (λ ss. Counted ss x.sections) (sym is) (counted-seat x.core.seats i s t x.sections g.got g.live made g.whole.told.placed.counted))
    (subst (λ (ss : List SeatState). length x.core.seats ≤ length ss) (sym is) (omega (arith, length-set x.core.seats i t)))

-- 31: a further seat
placed_split : (x : TableState) (i : ℕ) (s : SeatState) → Goes x i s Split → PlacedIn x.core.shape (words_left x.core s Split) (seats_left x.core i s Split) (sections_left x s Split)
placed_split x i s g =
    let seats : List SeatState = set x.core.seats i s in
    let placed = g.whole.told.placed in
    placed_still x i s Split g (identities-same x.core i s Split (taken x i s Split g) refl) (λ y e. e) (λ y. refl)
    (counted-split x.core.shape seats x.sections (λ w y e l. placed.unseated w y e (omega (arith, l, length-set x.core.seats i s))) (counted-seat x.core.seats i s s x.sections g.got g.live refl placed.counted)) (rw (length-append, length-set) (omega arith))

-- 32: another seat ends
placed_join : (x : TableState) (i : ℕ) (s : SeatState) (other : ℕ) → Goes x i s (Join other) → PlacedIn x.core.shape (words_left x.core s (Join other)) (seats_left x.core i s (Join other)) (sections_left x s (Join other))
placed_join x i s other g =
    placed_still x i s (Join other) g (identities-same x.core i s (Join other) (taken x i s (Join other) g) refl) (λ y e. e) (λ y. refl)
    (counted-join x.core.shape (set x.core.seats i s) other x.sections (counted-seat x.core.seats i s s x.sections g.got g.live refl g.whole.told.placed.counted)) (rw (length-set, length-set) (omega arith))

placed_left : (x : TableState) (i : ℕ) (s : SeatState) (step : Step) → Goes x i s step → PlacedIn x.core.shape (words_left x.core s step) (seats_left x.core i s step) (sections_left x s step)
placed_left x i s (StoreNew c part word) g = placed-new x i s c part word g
placed_left x i s Split g = placed_split x i s g
placed_left x i s (Join other) g = placed_join x i s other g
placed_left x i s (StoreField v j w) g = placed_seat x i s (StoreField v j w) g refl (λ y e. e) (λ y. refl) refl refl
placed_left x i s (ExchangeField v j y w) g = placed_seat x i s (ExchangeField v j y w) g refl (λ y e. e) (λ y. refl) refl refl
placed_left x i s (StoreValue v n) g = placed_seat x i s (StoreValue v n) g refl (λ y e. e) (λ y. refl) refl refl
placed_left x i s (ExchangeValue v m n) g = placed_seat x i s (ExchangeValue v m n) g refl (λ y e. e) (λ y. refl) refl refl
placed_left x i s step g = placed_seat x i s step g (identities-same x.core i s step (taken x i s step g) refl) (λ y e. e) (λ y. refl) refl refl

pub placed-kept : (x : TableState) (i : ℕ) (s : SeatState) (step : Step) → Goes x i s step
    → PlacedIn (state_after x (event i step)).core.shape (words_of (state_after x (event i step)).core.shape (state_after x (event i step)).core.words) (state_after x (event i step)).core.seats (state_after x (event i step)).sections
placed-kept x i s step g = kept-whole PlacedIn x i s step g (placed_left x i s step g)
