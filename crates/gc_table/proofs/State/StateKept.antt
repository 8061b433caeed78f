-- Each step that a seat may take keeps the rule.
use Rattle.std.proofs.Common.{ℕ, ◌≡◌, zero, suc, List, [], ◌∷◌, set, refl, sym, ap, ◌∙◌, subst, true, Option, Some, None, ◌≤◌, length, arith, length-set, length-append, false, ◌<◌, Bool, ◌&&◌}
use Rattle.std.specs.Prelude.{IsFalse, slice_get, slice_index, unwrap_or, is_some, nat_lt, nat_le}
use Rattle.std.proofs.lemmas.Bool.{and_parts, true≢false, false≢true, ltb-false, leb-true}
use Rattle.std.proofs.lemmas.List.{set-get_or, get_or-set_same, get_or-set_other}
use Rattle.mark_core.specs.Seats.{may_mutate, takes_part}
use Rattle.mark_core.specs.declared.kinds.Step.{Step}
use Rattle.mark_core.specs.declared.kinds.Step.TheVariants.{ReadOwn, ReadCat, StoreField, StoreValue, StoreRoot, StoreNew, StoreSlot, ReadSlot, Split, Join, StorePosition, Reset, AddStat, ReadStat, ReadWeak, HoldRoot}
use Rattle.mark_core.specs.declared.seat.SeatState.{SeatState}
use Rattle.plain_heap.specs.declared.operation.Op.{Op}
use Rattle.plain_heap.specs.PlainHeap.{Heap}
use Rattle.gc_table.specs.StandsFor.{StandsFor}
use Rattle.gc_table.specs.declared.view.Meaning.{Meaning}
use Rattle.gc_table.specs.declared.view.SectionState.{SectionState}
use Rattle.gc_table.specs.PlainSteps.{catalogue_seen, own_section, meaning_of, no_meaning, meaning_after, changed_by, meanings_after, Asks, AsksIn}
use Rattle.gc_table.specs.Sections.{seen_by, meaning_by, section_after, start_section}
use Rattle.gc_table.specs.TableState.{TableState, meanings_of, section_at, with_section, state_after}
use Rattle.gc_table.proofs.Stands.StandsKept.{stands_kept}
use Rattle.gc_table.proofs.Stands.StandsSeat.{Mutates, mutates}
use Rattle.gc_table.proofs.State.StateStores.{meaning-at, seen-is, meaning-told}
use Rattle.gc_table.proofs.State.StateSteps.{Goes, event, taken, may-happen, sections_left, sections-left, kept-whole, each-left, some-same}
use Rattle.mark_core.specs.Start.{start_seat, spent_seat}
use Rattle.mark_core.specs.Effects.{seat_after, written}
use Rattle.mark_core.specs.Steps.{Core, AllTrue}
use Rattle.mark_core.proofs.Pool.PoolsKept.{shape-kept}
use Rattle.mark_core.specs.Layout.{words_of, Words, put_word, region_sizes}
use Rattle.mark_core.specs.Parts.{parts}
use Rattle.mark_core.proofs.Known.{Acted, found, seats_left, acts, words_left}
use Rattle.gc_table.specs.Laws.{EventsKeepRule}
use Rattle.mark_core.proofs.Blocks.BlocksStopped.{within, Taken, words-read}
use Rattle.mark_core.proofs.CoreKept.{core_kept}
use Rattle.mark_core.proofs.Swept.SweptKept.{swept_kept_by}
use Rattle.mark_core.specs.declared.kinds.Shape.{Shape}
use Rattle.gc_table.specs.Told.{EachSection, Positioned}
use Rattle.gc_table.specs.Rule.{IsState}
use Rattle.gc_table.proofs.Told.ApartKept.{apart-kept}
use Rattle.gc_table.proofs.Told.FullKept.{fullness-kept}
use Rattle.gc_table.proofs.Asking.{own-number}
use Rattle.gc_table.proofs.Told.PlacedKept.{placed-kept}
use Rattle.gc_table.proofs.Told.SeasonsKept.{seasons-kept}
use Rattle.gc_table.proofs.Told.SettledKept.{settled-kept}
use Rattle.gc_table.proofs.Told.TurnsKept.{turns-kept}
use Rattle.plain_heap.specs.declared.operation.Op.TheVariants as ops
use Rattle.std.proofs.lemmas.Option.{slice_get_within}
use Rattle.mark_core.specs.Places.{counter_at}
use Rattle.mark_core.specs.Laws.{IsCore}
use Rattle.mark_core.proofs.Writing.Places.{region-length}
use Rattle.mark_core.proofs.Writing.Ranges.{either}
use Rattle.mark_core.proofs.Writing.Writes.{at_part}
use Rattle.mark_core.specs.Numbers.{done_count, last_count, named_number, free_count}

-- Each section has done as many commands as its word of positions says.
-- the counters below the named section are single words
single : (P : ℕ × ℕ → Type 0) (which : ℕ) → which < named_number → ((i : ℕ) → P (0, i)) → P (counter_at which)
single P which h f =
    either P (nat_lt which last_count) _ _ (λ e. f _) (λ e. either P (nat_lt which named_number) _ _ (λ g. f _) (λ g. absurd (omega (arith, h, ltb-false which named_number g))))

abbrev stores_position : Step → Bool
stores_position (StorePosition done) = true
stores_position step = false

-- every step but the store of a position leaves the positions
positions_same : (c : Core) (i : ℕ) (s : SeatState) (step : Step) → Taken c i s step → stores_position step ≡ false → (words_left c s step).positions ≡ (words_of c.shape c.words).positions
positions_same c i s (StorePosition done) k e = absurd (true≢false e)
positions_same c i s (ReadStat which) k e = ap (λ (w : Words). w.positions) (words-read c i s (ReadStat which) k refl)
positions_same c i s (StoreNew x part word) k e =
    let w : Words = words_of c.shape c.words in at_part (λ at. (put_word at (written c.shape s (StoreNew x part word) (found c s (StoreNew x part word))) w).positions ≡ w.positions) c.shape x part (λ i. refl) (λ i. refl) (λ i. refl)
positions_same c i s (Reset which) k e =
    let w : Words = words_of c.shape c.words in
    let a = and_parts (nat_le which free_count && s.alone) _ k.ok.0 in
    let h : which ≤ 5 = leb-true which free_count (and_parts (nat_le which free_count) s.alone a.0).0 in
    single (λ at. (put_word at (written c.shape s (Reset which) (found c s (Reset which))) w).positions ≡ w.positions) which (omega (arith, h)) (λ i. refl)
positions_same c i s (AddStat which by down) k e =
    let w : Words = words_of c.shape c.words in
    let a = and_parts (nat_le last_count which && nat_le which done_count) (takes_part s) k.ok.0 in
    let h : which ≤ done_count = leb-true which done_count (and_parts (nat_le last_count which) (nat_le which done_count) a.0).1 in
    single (λ at. (put_word at (written c.shape s (AddStat which by down) (found c s (AddStat which by down))) w).positions ≡ w.positions) which (omega (arith, h)) (λ i. refl)
positions_same c i s step k e = refl

-- every step but the store of a position leaves its section's own position
position_same : (sh : Shape) (plan : List (List Op)) (s : SeatState) (step : Step) (y : SectionState) → stores_position step ≡ false → (section_after sh plan s step y).position ≡ y.position
position_same sh plan s (StorePosition done) y e = absurd (true≢false e)
position_same sh plan s step y e = refl

-- a step that stores no position
positions_stay : (x : TableState) (i : ℕ) (s : SeatState) (step : Step) → Goes x i s step → stores_position step ≡ false → Positioned (words_left x.core s step).positions (sections_left x s step)
positions_stay x i s step g f =
    let before : Positioned (words_of x.core.shape x.core.words).positions x.sections = g.whole.told.positioned in
    subst (λ (ps : List ℕ). Positioned ps (sections_left x s step)) (sym (positions_same x.core i s step (taken x i s step g) f))
    (each-left (λ w y. slice_index (words_of x.core.shape x.core.words).positions w ≡ y.position) (section_after x.core.shape x.plan s step) s.section x.sections (λ w y h d. before w y h)
    (λ w y h e. before w y h ∙ sym (position_same x.core.shape x.plan s step y f)))

positions_length : (c : Core) → IsCore c → length (words_of c.shape c.words).positions ≡ c.shape.sections
positions_length c k = region-length (region_sizes c.shape) 1 c.words (omega (arith, k.formed.words))

section_there : (o : Option ℕ) → is_some o ≡ true → (w : ℕ) × (o ≡ Some w)
section_there None e = absurd (false≢true e)
section_there (Some w) e = (w, refl)

-- the store of a position
position_stored : (x : TableState) (i : ℕ) (s : SeatState) (done : ℕ) → Goes x i s (StorePosition done) → Positioned (words_left x.core s (StorePosition done)).positions (sections_left x s (StorePosition done))
position_stored x i s done g =
    let ps : List ℕ = (words_of x.core.shape x.core.words).positions in
    let own = section_there s.section g.ok.0 in
    let at : own_section s ≡ own.0 = ap (λ (o : Option ℕ). unwrap_or o 0) own.1 in
    let before : Positioned ps x.sections = g.whole.told.positioned in
    let within : (w : ℕ) (y : SectionState) → slice_get x.sections w ≡ Some y → w < length ps
    = λ w y h. omega (arith, slice_get_within x.sections w y h, positions_length x.core g.whole.core, g.whole.sections) in
    each-left (λ w y. slice_index (set ps (own_section s) done) w ≡ y.position) (section_after x.core.shape x.plan s (StorePosition done)) s.section x.sections
    (λ w y h d. get_or-set_other ps (own_section s) w done 0 (λ e. d (own.1 ∙ ap Some (sym (e ∙ at)))) ∙ before w y h)
    (λ w y h e.
    let here : own_section s ≡ w = ap (λ (o : Option ℕ). unwrap_or o 0) e in
    subst (λ (k : ℕ). slice_index (set ps k done) w ≡ done) (sym here) (get_or-set_same ps w done 0 (within w y h)))

positioned_left : (x : TableState) (i : ℕ) (s : SeatState) (step : Step) → Goes x i s step → Positioned (words_left x.core s step).positions (sections_left x s step)
positioned_left x i s (StorePosition done) g = position_stored x i s done g
positioned_left x i s step g = positions_stay x i s step g refl

pub positioned-kept : (x : TableState) (i : ℕ) (s : SeatState) (step : Step) → Goes x i s step → Positioned (words_of (state_after x (event i step)).core.shape (state_after x (event i step)).core.words).positions (state_after x (event i step)).sections
positioned-kept x i s step g = kept-whole (λ sh w seats xs. Positioned w.positions xs) x i s step g (positioned_left x i s step g)

-- The words stand for what the sections say after each step that a seat may take.
pub meanings-set : (xs : List SectionState) (w : ℕ) (y : SectionState) → meanings_of (set xs w y) ≡ set (meanings_of xs) w y.meaning
meanings-set [] w y = refl
meanings-set (x ∷ xs) zero y = refl
meanings-set (x ∷ xs) (suc w) y = ap (λ ms. x.meaning ∷ ms) (meanings-set xs w y)

-- a step after which the seat's section means what it meant
still_means : (xs : List SectionState) (f : SectionState → SectionState) (o : Option ℕ) → ((y : SectionState) → (f y).meaning ≡ y.meaning) → meanings_of (with_section o f xs) ≡ meanings_of xs
still_means xs f None same = refl
still_means xs f (Some w) same =
    meanings-set xs w (f (section_at xs w)) ∙ ap (λ m. set (meanings_of xs) w m) (same (section_at xs w) ∙ sym (meaning-at xs w)) ∙ set-get_or (meanings_of xs) w no_meaning

-- the plain step of a step, and what the sections mean after it
abbrev pub Means : TableState → SeatState → Step → Type 0
Means x s step = (op : Op) × AsksIn s (meanings_of x.sections) step op × (meanings_of (sections_left x s step) ≡ meanings_after x.core.shape s step op (meanings_of x.sections))

-- a step of a mutator
mutating : (x : TableState) (i : ℕ) (s : SeatState) (step : Step) (op : Op) → IsFalse x.core.shape.sharing → Goes x i s step → may_mutate s ≡ true → Asks s (section_at x.sections (own_section s)).meaning (seen_by x.core.shape x.plan s) step op
    → ((y : SectionState) → (section_after x.core.shape x.plan s step y).meaning ≡ meaning_by x.core.shape s (seen_by x.core.shape x.plan s) step y.meaning)
    → (o : Op) × AsksIn s (meanings_of x.sections) step o × (meanings_of (sections_left x s step) ≡ changed_by x.core.shape s step o (meanings_of x.sections))
mutating x i s step op alone g may asked means = (op, asks, meanings)
  where
    ms : List Meaning
    ms = meanings_of x.sections

    w : ℕ
    w = own_section s

    a : Mutates x.core i s ms
    a = mutates x.core i s step ms (taken x i s step g) (g.whole.stands alone) may

    seen : seen_by x.core.shape x.plan s ≡ catalogue_seen ms w
    seen = seen-is x i s g.whole g.got g.live may

    asks : AsksIn s ms step op
    asks = subst (λ (c : Option Heap). Asks s (meaning_of ms w) c step op) seen (subst (λ (m : Meaning). Asks s m (seen_by x.core.shape x.plan s) step op) (sym (meaning-at x.sections w)) asked)

    told : meaning_after x.core.shape s (catalogue_seen ms w) step op (meaning_of ms w) ≡ meaning_by x.core.shape s (catalogue_seen ms w) step (meaning_of ms w)
    told =
        subst (λ (k : ℕ). meaning_after x.core.shape s (catalogue_seen ms w) step op (meaning_of ms k) ≡ meaning_by x.core.shape s (catalogue_seen ms w) step (meaning_of ms k)) (sym a.own)
        (meaning-told x.core i s step op ms (catalogue_seen ms w) (taken x i s step g) (g.whole.stands alone) (subst (λ (k : ℕ). Asks s (meaning_of ms k) (catalogue_seen ms w) step op) a.own asks))

    section : s.section ≡ Some w
    section = a.section ∙ ap (λ k. Some k) (sym a.own)

    after : SectionState
    after = section_after x.core.shape x.plan s step (section_at x.sections w)

    mine : after.meaning ≡ meaning_after x.core.shape s (catalogue_seen ms w) step op (meaning_of ms w)
    mine =
        means (section_at x.sections w) ∙ ap (λ c. meaning_by x.core.shape s c step (section_at x.sections w).meaning) seen
        ∙ ap (λ m. meaning_by x.core.shape s (catalogue_seen ms w) step m) (sym (meaning-at x.sections w)) ∙ sym told

    meanings : meanings_of (sections_left x s step) ≡ changed_by x.core.shape s step op ms
    meanings =
        ap (λ o. meanings_of (with_section o (section_after x.core.shape x.plan s step) x.sections)) section ∙ meanings-set x.sections w after ∙ ap (λ m. set ms w m) mine

means-left : (x : TableState) (i : ℕ) (s : SeatState) (step : Step) → IsFalse x.core.shape.sharing → Goes x i s step → Means x s step
means-left x i s (ReadOwn c j) alone g = mutating x i s (ReadOwn c j) ops.Collect alone g (and_parts _ (may_mutate s) g.ok.0).1 tt (λ y. refl)
means-left x i s (ReadCat v) alone g = mutating x i s (ReadCat v) ops.Collect alone g (and_parts _ (may_mutate s) g.ok.0).1 tt (λ y. refl)
means-left x i s (ReadSlot j) alone g = mutating x i s (ReadSlot j) ops.Collect alone g (and_parts _ (may_mutate s) g.ok.0).1 tt (λ y. refl)
means-left x i s (StoreSlot j r) alone g = absurd (true≢false (sym g.asks.1 ∙ alone))
means-left x i s (ReadWeak y) alone g = absurd (true≢false (sym g.asks ∙ alone))
means-left x i s (StoreField v j o) alone g = mutating x i s (StoreField v j o) (g.asks.1 alone).0 alone g (and_parts _ (may_mutate s) g.ok.0).1 (g.asks.1 alone).1 (λ y. refl)
means-left x i s (StoreValue v n) alone g = mutating x i s (StoreValue v n) (g.asks.1 alone).0 alone g (and_parts _ (may_mutate s) g.ok.0).1 (g.asks.1 alone).1 (λ y. refl)
means-left x i s (StoreRoot v r) alone g = mutating x i s (StoreRoot v r) (g.asks.1 alone).0 alone g (and_parts _ (may_mutate s) g.ok.0).1 (g.asks.1 alone).1 (λ y. refl)
means-left x i s (HoldRoot v r) alone g = mutating x i s (HoldRoot v r) (g.asks.1 alone).0 alone g (and_parts _ (may_mutate s) g.ok.0).1 (g.asks.1 alone).1 (λ y. refl)
means-left x i s (StoreNew c part word) alone g = mutating x i s (StoreNew c part word) ops.Collect alone g (and_parts _ (may_mutate s) g.ok.0).1 g.asks (λ y. refl)
means-left x i s step alone g = (ops.Collect, tt, still_means x.sections (section_after x.core.shape x.plan s step) s.section (λ y. refl))

-- each step keeps that the words stand for what the sections say
pub stands-whole : (x : TableState) (i : ℕ) (s : SeatState) (step : Step) → IsFalse x.core.shape.sharing → Goes x i s step → StandsFor (state_after x (event i step)).core (meanings_of (state_after x (event i step)).sections)
stands-whole x i s step alone g =
    let m : Means x s step = means-left x i s step alone g in
    let after : meanings_of (state_after x (event i step)).sections ≡ meanings_after x.core.shape s step m.0 (meanings_of x.sections) = ap meanings_of (sections-left x i s step g) ∙ m.2 in
    subst (λ (ms : List Meaning). StandsFor (state_after x (event i step)).core ms) (sym after)
    (stands_kept x.core (event i step) s m.0 (meanings_of x.sections) alone g.whole.core (g.whole.stands alone) g.got m.1 (may-happen x i s step g))

-- no record goes
seats_stay : (c : Core) (i : ℕ) (s : SeatState) (step : Step) → length c.seats ≤ length (seats_left c i s step)
seats_stay c i s Split =
    let l : List SeatState = set c.seats i (seat_after c.shape s Split (found c s Split)) in
    omega (arith, length-set c.seats i (seat_after c.shape s Split (found c s Split)), length-append l (start_seat c.shape (length l) ∷ []))
seats_stay c i s (Join other) =
    let l : List SeatState = set c.seats i (seat_after c.shape s (Join other) (found c s (Join other))) in
    omega (arith, length-set c.seats i (seat_after c.shape s (Join other) (found c s (Join other))), length-set l other (spent_seat c.shape other))
seats_stay c i s step = omega (arith, length-set c.seats i (seat_after c.shape s step (found c s step)))

-- a section that has had no seat has done nothing
abbrev pub HaveDoneNothing : Shape → List SeatState → List SectionState → Type 0
HaveDoneNothing sh seats xs = EachSection xs (λ k x. length seats ≤ k → x ≡ start_section sh k)

unseated-kept : (x : TableState) (i : ℕ) (s : SeatState) (step : Step) → Goes x i s step → HaveDoneNothing (state_after x (event i step)).core.shape (state_after x (event i step)).core.seats (state_after x (event i step)).sections
unseated-kept x i s step g =
    let more = seats_stay x.core i s step in
    kept-whole (λ sh w seats xs. HaveDoneNothing sh seats xs) x i s step g
    (each-left (λ k y. length (seats_left x.core i s step) ≤ k → y ≡ start_section x.core.shape k) (section_after x.core.shape x.plan s step) s.section x.sections
    (λ k y e n l. g.whole.told.unseated k y e (omega (arith, l, more)))
    (λ k y e mine l. absurd (omega (arith, l, more, own-number x.core i k s g.whole.core g.got mine, within x.core i s step (taken x i s step g)))))

-- a step leaves as many sections
sections_long : (o : Option ℕ) (f : SectionState → SectionState) (xs : List SectionState) → length (with_section o f xs) ≡ length xs
sections_long None f xs = refl
sections_long (Some w) f xs = length-set xs w (f (section_at xs w))

-- and the sizes
still_alone : (x : TableState) (i : ℕ) (step : Step) → IsFalse (state_after x (event i step)).core.shape.sharing → IsFalse x.core.shape.sharing
still_alone x i step alone = subst (λ (sh : Shape). IsFalse sh.sharing) (shape-kept x.core (event i step)) alone

pub whole-kept : (x : TableState) (i : ℕ) (s : SeatState) (step : Step) → Goes x i s step → IsState (state_after x (event i step))
whole-kept x i s step g =
    let f = may-happen x i s step g in
    record {
      core = core_kept x.core (event i step) g.whole.core g.fits f;
      swept = swept_kept_by x.core (event i step) g.whole.core g.whole.swept f;
      sections = kept-whole (λ sh w seats xs. length xs ≡ sh.sections) x i s step g (sections_long s.section (section_after x.core.shape x.plan s step) x.sections ∙ g.whole.sections);
      stands = λ alone. stands-whole x i s step (still_alone x i step alone) g;
      told = record {
        unseated = unseated-kept x i s step g;
        placed = placed-kept x i s step g;
        positioned = positioned-kept x i s step g;
        seasons = seasons-kept x i s step g;
        turns = turns-kept x i s step g;
        apart = λ alone. apart-kept x i s step (still_alone x i step alone) g;
        fullness = fullness-kept x i s step g;
        settled = settled-kept x i s step g;
      };
    }

-- an event that is allowed, and whose step meets what is asked besides, keeps the rule
pub rule_kept_by : EventsKeepRule
rule_kept_by x e s whole got f fits asks =
    let r : (t : SeatState) × Acted x.core e t = acts x.core e whole.core f in
    let same : r.0 ≡ s = some-same r.0 s (sym r.1.seat ∙ got) in
    let live : s.spent ≡ false = subst (λ (t : SeatState). t.spent ≡ false) same r.1.live in
    let ok : AllTrue (parts x.core.shape (words_of x.core.shape x.core.words) x.core.seats s e.step) = subst (λ (t : SeatState). AllTrue (parts x.core.shape (words_of x.core.shape x.core.words) x.core.seats t e.step)) same r.1.ok in
    whole-kept x e.seat s e.step (record { whole = whole; got = got; live = live; ok = ok; fits = fits; asks = asks })
