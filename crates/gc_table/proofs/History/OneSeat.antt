-- If a heap has one seat, its log says what every word is.
use Rattle.std.proofs.Common.{ℕ, ◌≡◌, ◌+◌, ◌<◌, ◌≤◌, List, [], ◌∷◌, ◌++◌, map, set, length, arith, refl, sym, ap, ◌∙◌, Bool, true, false, Option, Some, None, cond, eqb, eq-eqb, true≢false, length-append, length-set, ◌%◌, ◌^◌, subst}
use Rattle.std.specs.Prelude.{slice_get, slice_index, IsFalse, not, ◌&&◌}
use Rattle.std.specs.List.{All}
use Rattle.std.proofs.lemmas.Bool.{and_parts}
use Rattle.std.proofs.lemmas.List.Elements.{All-rest}
use Rattle.std.proofs.lemmas.Option.{slice_get_within}
use lib.ListN.{get_elem?}
use Rattle.atomic_table.specs.Table.{State, opening, Allows}
use Rattle.mark_core.specs.Effects.{place, seat_after}
use Rattle.mark_core.specs.Laws.{IsCore}
use Rattle.mark_core.specs.Layout.{address}
use Rattle.mark_core.specs.Start.{start_seat, start_words}
use Rattle.mark_core.specs.Steps.{Core, failing_of, after_event, after_of, first_refused, run_of, start_core}
use Rattle.mark_core.specs.Steps.WorldSteps.{may_be_joined}
use Rattle.mark_core.specs.declared.kinds.Event.{Event}
use Rattle.mark_core.specs.declared.kinds.Shape.{Shape}
use Rattle.mark_core.specs.declared.kinds.Step.{Step}
use Rattle.mark_core.specs.declared.kinds.Step.TheVariants.{Split, Join, AddStat, EnterStep, Observe, RaiseStep, ReadStat}
use Rattle.mark_core.specs.declared.seat.SeatState.{SeatState}
use Rattle.mark_core.proofs.CoreKept.{core_kept, core-starts}
use Rattle.plain_heap.specs.declared.operation.Op.{Op}
use Rattle.gc_table.specs.declared.view.Entry.{Entry}
use Rattle.gc_table.specs.declared.view.View.{View}
use Rattle.gc_table.specs.Entries.{event, is_logged}
use Rattle.gc_table.specs.Past.{adds, entries_of, log_from, log_of, word_told}
use Rattle.gc_table.specs.Rule.{Holds, newcomer}
use Rattle.gc_table.proofs.Joining.{some-at}
use Rattle.gc_table.proofs.Records.{records-length}
use Rattle.gc_table.proofs.History.Past.{Fits, after-long, first-allowed, run-first, run-long, some-there}
use Rattle.mark_core.specs.Places.{counter_at, the_world}
use Rattle.mark_core.specs.Shapes.{IsShape}
use Rattle.gc_table.specs.Taking.{after}
use Rattle.gc_table.proofs.Opening.{starts}
use Rattle.gc_table.proofs.Rows.{small}
use Rattle.mark_core.specs.Bits.{flag}

-- the steps of a log as events of the first seat
abbrev pub by_first : List Entry → List Event
by_first es = map (λ (e : Entry). record { seat = 0; step = e.step }) es

joined_there : (xs : List SeatState) (other : ℕ) (o : Option SeatState) → slice_get xs other ≡ o → may_be_joined o ≡ true → other < length xs
joined_there xs other None e h = absurd (true≢false (sym h))
joined_there xs other (Some s) e h = slice_get_within xs other s e

passes_first : (spent b : Bool) (rest : Option ℕ) → cond spent (Some 0) (cond b rest (Some 1)) ≡ None → b ≡ true
passes_first true b rest e = absurd (cc)
passes_first false true rest e = refl
passes_first false false rest e = absurd (cc)

another_there : (number other n : ℕ) (xs : List SeatState) (rest : Bool) → (not (eqb other number) && may_be_joined (slice_get xs other) && rest) ≡ true → number ≡ 0 → length xs ≡ 1 → ⊥
another_there number other n xs rest h zero_is one =
    let p = and_parts (not (eqb other number)) (may_be_joined (slice_get xs other)) (and_parts (not (eqb other number) && may_be_joined (slice_get xs other)) rest h).0 in
    let there : other < length xs = joined_there xs other (slice_get xs other) refl p.1 in
    let same : other ≡ number = omega (arith, there, one, zero_is) in
    absurd (true≢false (sym p.0 ∙ ap not (eq-eqb other number same)))

-- a seat that is and stays the only one makes and joins none
only_logged : (c : Core) (i : ℕ) (step : Step) (s : SeatState) → IsCore c → length c.seats ≡ 1 → slice_get c.seats i ≡ Some s → failing_of c (Some s) step ≡ None → length (after_of c i (Some s) step).seats ≡ 1 → is_logged step ≡ true
only_logged c i Split s core one got ok left =
    let l : List SeatState = set c.seats i (seat_after c.shape s Split (slice_index c.words (address c.shape (place c.shape s Split)))) in
    absurd (omega (arith, one, left, length-set c.seats i (seat_after c.shape s Split (slice_index c.words (address c.shape (place c.shape s Split)))), length-append l (start_seat c.shape (length l) ∷ [])))
only_logged c i (Join other) s core one got ok left =
    absurd (another_there s.number other 0 c.seats _ (passes_first s.spent _ _ ok) (let n = (core.formed.seats i s got).number in omega (arith, n, one, slice_get_within c.seats i s got)) one)
only_logged c i step s core one got ok left = refl

-- so these events are the steps of its log
pub only-one : (k : ℕ) (es : List Event) (c : Core) → IsCore c → length c.seats ≡ 1 → All Fits es → first_refused k es c ≡ None → length (run_of es c).seats ≡ 1 → es ≡ by_first (log_from 0 c es)
only-one k [] c core one fit ok left = refl
only-one k (e ∷ es) c core one fit ok left =
    let q = first-allowed k e es c ok in
    let d : Core = after_event c e in
    let end : length (run_of es d).seats ≡ 1 = sym (ap (λ (x : Core). length x.seats) (run-first c e es q.0)) ∙ left in
    let long : length c.seats ≤ length d.seats = after-long c e.seat e.step (slice_get c.seats e.seat) in
    let one' : length d.seats ≡ 1 = omega (arith, one, long, end, run-long (k + 1) es d q.1) in
    let there : e.seat < length c.seats = some-there c e.seat e.step (slice_get c.seats e.seat) refl q.0 in
    let first : e.seat ≡ 0 = omega (arith, there, one) in
    let seat = some-at c.seats e.seat there in
    let s : SeatState = seat.0 in
    let ok' : failing_of c (Some s) e.step ≡ None = sym (ap (λ (o : Option SeatState). failing_of c o e.step) seat.1) ∙ q.0 in
    let told : is_logged e.step ≡ true = only_logged c e.seat e.step s core one seat.1 ok' (sym (ap (λ (o : Option SeatState). length (after_of c e.seat o e.step).seats) seat.1) ∙ one') in
    let added : adds 0 c e ≡ event e.step (word_told c s e.step) ∷ [] =
    ap (λ (b : Bool). cond b (entries_of c (slice_get c.seats e.seat) e.step) []) (eq-eqb e.seat 0 first)
    ∙ (ap (λ (o : Option SeatState). entries_of c o e.step) seat.1 ∙ ap (λ (b : Bool). cond b (event e.step (word_told c s e.step) ∷ []) []) told) in
    let rest : es ≡ by_first (log_from 0 d es) = only-one (k + 1) es d (core_kept c e core (fit 0 e (omega arith)) q.0) one' (All-rest Fits e es (e ∷ es) refl fit) q.1 end in
    (λ y. record { seat = first y; step = e.step } ∷ rest y) ∙ ap (λ l. by_first (l ++ log_from 0 d es)) (sym added)

-- the words are those to which they lead, and each entry tells the word that its step found or stored
pub one-told : (sh : Shape) (plan : List (List Op)) (s : State (Unit {0}) View) (v : View) → Holds sh plan s → s.views ≡ v ∷ [] → IsFalse v.state.spent → (s.words ≡ (run_of (by_first v.log) (start_core sh 1)).words) × (v.log ≡ log_of sh (by_first v.log) 0)
one-told sh plan s v o alone live =
    let past : List Event = o.past in
    let log : v.log ≡ log_of sh past 0 = (o.logged 0 v (ap (λ vs. get_elem? vs 0) alone) live).log in
    let one : length (run_of past (start_core sh 1)).seats ≡ 1 = ap (λ (c : Core). length c.seats) o.led.leads ∙ (records-length sh 0 s.views ∙ ap length alone) in
    let same : past ≡ by_first v.log = only-one 0 past (start_core sh 1) (core-starts sh 1 o.whole.core.formed.shaped (omega arith) (omega arith)) refl o.led.fit o.led.allowed one ∙ ap by_first (sym log) in
    (sym (ap (λ (c : Core). c.words) o.led.leads) ∙ ap (λ es. (run_of es (start_core sh 1)).words) same, log ∙ ap (λ es. log_of sh es 0) same)

-- What breaks the rule: a word that moved by no step, a step that moved no word, and an answer that was not found.
-- a table with one seat
abbrev table : List ℕ → View → State (Unit {0}) View
table ws v = opening ws [] v

-- the address of a counter
abbrev at : ℕ → ℕ
at which = address small (counter_at which)

abbrev new : View
new = newcomer small [] 0

-- the seat runs, and then counts 7 objects traced
abbrev inside : View
inside = after EnterStep 0 new

abbrev counted : View
counted = after (AddStat 4 7 false) 0 inside

abbrev words_inside : List ℕ
words_inside = set (start_words small) (address small the_world) 1

-- TRACED rose by no step
rose_alone : Holds small [] (table (set (start_words small) (at 4) 1) new) → ⊥
rose_alone h = let e : 1 ≡ 0 = ap (λ ws. slice_index ws (at 4)) (one-told small [] _ new h refl refl).0 in absurd (omega (arith, e))

-- the seat says that it counted 7, and stored nothing
counts_nothing : Holds small [] (table words_inside counted) → ⊥
counts_nothing h = let e : 0 ≡ 7 = ap (λ ws. slice_index ws (at 4)) (one-told small [] _ counted h refl refl).0 in absurd (omega (arith, e))

-- it counted 7, and lowered LAST besides
lowers_last : Holds small [] (table (set (set words_inside (at 4) 7) (at 2) 18446744073709551615) counted) → ⊥
lowers_last h = let e : 18446744073709551615 ≡ 0 = ap (λ ws. slice_index ws (at 2)) (one-told small [] _ counted h refl refl).0 in absurd (omega (arith, e))

-- it read TRACED, and answered 1
answers_one : Holds small [] (table (start_words small) (after (ReadStat 4) 1 new)) → ⊥
answers_one h = let e : 1 ≡ 0 = ap (λ es. slice_index (map (λ (x : Entry). x.found) es) 0) (one-told small [] _ (after (ReadStat 4) 1 new) h refl refl).1 in absurd (omega (arith, e))

-- it raised the flag, looked at WORLD, and answered a word without the flag
sees_no_flag : Holds small [] (table (set (start_words small) (address small the_world) flag) (after Observe 0 (after RaiseStep 0 new))) → ⊥
sees_no_flag h = let e : 0 ≡ flag = ap (λ es. slice_index (map (λ (x : Entry). x.found) es) 1) (one-told small [] _ (after Observe 0 (after RaiseStep 0 new)) h refl refl).1 in absurd (omega (arith, e))

shaped : IsShape small
shaped = grind arith

begun : Holds small [] (table (start_words small) new)
begun = starts small [] (start_words small) shaped refl

-- so what the table asks of a read of TRACED that answers 1 is met by no view and no act
refuses_one : Allows (Holds small []) 0 0 (new, []) (at 4) (λ n. n) (λ n m. m.0 ≡ after (ReadStat 4) 1 new) → ⊥
refuses_one f =
    let r = f (table (start_words small) new) begun refl refl (omega arith) in
    let told : (after (ReadStat 4) 1 new).log ≡ log_of small (by_first (after (ReadStat 4) 1 new).log) 0 = subst (λ (v : View). v.log ≡ log_of small (by_first v.log) 0) r.4 (one-told small [] _ r.0 r.3 refl (ap (λ (v : View). v.state.spent) r.4)).1 in
    let e : 1 ≡ 0 = ap (λ es. slice_index (map (λ (x : Entry). x.found) es) 0) told in absurd (omega (arith, e))

-- no view and no act meets what the table asks of a step that adds 1 to TRACED and leaves the view
refuses_more : Allows (Holds small []) 0 0 (new, []) (at 4) (λ n. (n + 1) % 2 ^ 64) (λ n m. m.0 ≡ new) → ⊥
refuses_more f =
    let r = f (table (start_words small) new) begun refl refl (omega arith) in
    let told = one-told small [] _ r.0 r.3 refl (ap (λ (v : View). v.state.spent) r.4) in
    let e : 1 ≡ 0 = ap (λ ws. slice_index ws (at 4)) (told.0 ∙ ap (λ (v : View). (run_of (by_first v.log) (start_core small 1)).words) r.4) in absurd (omega (arith, e))
