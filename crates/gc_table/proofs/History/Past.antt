-- What has happened, when one more event does.
use Rattle.std.proofs.Common.{ℕ, zero, suc, ◌≡◌, ◌+◌, ◌<◌, ◌≤◌, List, [], ◌∷◌, ◌++◌, set, take, length, arith, refl, sym, ap, ◌∙◌, subst, Bool, true, false, Option, Some, None, cond, eqb, eq-eqb, length-set, length-append, append_assoc}
use Rattle.std.specs.Prelude.{is_none, slice_get, slice_index}
use Rattle.std.specs.List.{All}
use Rattle.std.proofs.lemmas.Bool.{ne_eqb}
use Rattle.std.proofs.lemmas.List.{append-nil}
use Rattle.std.proofs.lemmas.List.Elements.{All-append, All-cons, All-rest}
use Rattle.std.proofs.lemmas.Option.{slice_get_within}
use Rattle.mark_core.specs.Effects.{place, seat_after}
use Rattle.mark_core.specs.Kinds.{kind_of}
use Rattle.mark_core.specs.Laws.{IsCore, NumbersFit}
use Rattle.mark_core.specs.Layout.{address}
use Rattle.mark_core.specs.Start.{start_seat, spent_seat}
use Rattle.mark_core.specs.Steps.{Core, failing_of, failing_part, others_after, after_of, after_event, first_refused, refused_with, run_of, start_core}
use Rattle.mark_core.specs.declared.kinds.Event.{Event}
use Rattle.mark_core.specs.declared.kinds.Shape.{Shape}
use Rattle.mark_core.specs.declared.kinds.Step.{Step}
use Rattle.mark_core.specs.declared.kinds.Step.TheVariants.{Split, Join}
use Rattle.mark_core.specs.declared.seat.SeatState.{SeatState}
use Rattle.mark_core.proofs.CoreKept.{core_kept, core-starts}
use Rattle.gc_table.specs.declared.view.Entry.{Entry}
use Rattle.gc_table.specs.Entries.{event, is_logged}
use Rattle.gc_table.specs.Past.{word_told, entries_of, adds, log_from, log_of, LeadTo}
use Rattle.gc_table.specs.Taking.{IsOwn}
use Rattle.mark_core.specs.Shapes.{IsShape}
use Rattle.gc_table.specs.Ends.{AreWords, IsEnd, IsResting}
use Rattle.gc_table.specs.Laws.{ClosedHeapsRan, IsRunOf}
use Rattle.gc_table.specs.declared.seat.HeapSeat.{HeapSeat}
use Rattle.gc_table.specs.declared.words.Words.{Words}

pub own-logged : (step : Step) → IsOwn step → is_logged step ≡ true
own-logged Split h = absurd h
own-logged (Join other) h = absurd h
own-logged step h = refl

none_refused : (i kind : ℕ) (o : Option ℕ) (rest : Option (ℕ × ℕ × ℕ)) → refused_with i kind o rest ≡ None → (o ≡ None) × (rest ≡ None)
none_refused i kind None rest e = (refl, e)
none_refused i kind (Some part) rest e = absurd (cc)

-- the first of these events is allowed, and the others after it
pub first-allowed : (k : ℕ) (e : Event) (es : List Event) (c : Core) → first_refused k (e ∷ es) c ≡ None → (failing_part c e ≡ None) × (first_refused (k + 1) es (after_event c e) ≡ None)
first-allowed k e es c h = none_refused k (kind_of e.step) (failing_part c e) (first_refused (k + 1) es (after_event c e)) h

pub run-first : (c : Core) (e : Event) (es : List Event) → failing_part c e ≡ None → run_of (e ∷ es) c ≡ run_of es (after_event c e)
run-first c e es ok = ap (λ (o : Option ℕ). cond (is_none o) (run_of es (after_event c e)) c) ok

allowed_more : (k : ℕ) (es : List Event) (c : Core) (e : Event) → first_refused k es c ≡ None → failing_part (run_of es c) e ≡ None → first_refused k (es ++ e ∷ []) c ≡ None
allowed_more k [] c e h ok = ap (λ (o : Option ℕ). refused_with k (kind_of e.step) o None) ok
allowed_more k (x ∷ xs) c e h ok =
    let q = first-allowed k x xs c h in
    ap (λ (o : Option ℕ). refused_with k (kind_of x.step) o (first_refused (k + 1) (xs ++ e ∷ []) (after_event c x))) q.0
    ∙ allowed_more (k + 1) xs (after_event c x) e q.1 (subst (λ (d : Core). failing_part d e ≡ None) (run-first c x xs q.0) ok)

run_more : (k : ℕ) (es : List Event) (c : Core) (e : Event) → first_refused k es c ≡ None → failing_part (run_of es c) e ≡ None → run_of (es ++ e ∷ []) c ≡ after_event (run_of es c) e
run_more k [] c e h ok = run-first c e [] ok
run_more k (x ∷ xs) c e h ok =
    let q = first-allowed k x xs c h in
    let same : run_of (x ∷ xs) c ≡ run_of xs (after_event c x) = run-first c x xs q.0 in
    run-first c x (xs ++ e ∷ []) q.0
    ∙ (run_more (k + 1) xs (after_event c x) e q.1 (subst (λ (d : Core). failing_part d e ≡ None) same ok) ∙ ap (λ (d : Core). after_event d e) (sym same))

log_more : (k i : ℕ) (es : List Event) (c : Core) (e : Event) → first_refused k es c ≡ None → log_from i c (es ++ e ∷ []) ≡ log_from i c es ++ adds i (run_of es c) e
log_more k i [] c e h = append-nil (adds i c e)
log_more k i (x ∷ xs) c e h =
    let q = first-allowed k x xs c h in
    ap (λ l. adds i c x ++ l) (log_more (k + 1) i xs (after_event c x) e q.1 ∙ ap (λ (d : Core). log_from i (after_event c x) xs ++ adds i d e) (sym (run-first c x xs q.0)))
    ∙ sym (append_assoc (adds i c x) (log_from i (after_event c x) xs) (adds i (run_of (x ∷ xs) c) e))

abbrev pub Fits : Event → Type 0
Fits e = NumbersFit e.step

none_fits : All Fits []
none_fits i d h = absurd (omega (arith, h))

-- one event more leads on
pub led-on : (sh : Shape) (es : List Event) (c d : Core) (e : Event) → LeadTo sh es c → NumbersFit e.step → failing_part c e ≡ None → after_event c e ≡ d → LeadTo sh (es ++ e ∷ []) d
led-on sh es c d e l fits ok is =
    let now : failing_part (run_of es (start_core sh 1)) e ≡ None = subst (λ (x : Core). failing_part x e ≡ None) (sym l.leads) ok in
    record {
      allowed = allowed_more 0 es (start_core sh 1) e l.allowed now;
      fit = All-append Fits es (e ∷ []) l.fit (All-cons Fits e [] fits none_fits);
      leads = run_more 0 es (start_core sh 1) e l.allowed now ∙ (ap (λ (x : Core). after_event x e) l.leads ∙ is);
    }

-- what it adds to the log of its seat
pub log-own : (sh : Shape) (es : List Event) (c : Core) (e : Event) (s : SeatState) → LeadTo sh es c → slice_get c.seats e.seat ≡ Some s → is_logged e.step ≡ true → log_of sh (es ++ e ∷ []) e.seat ≡ log_of sh es e.seat ++ event e.step (word_told c s e.step) ∷ []
log-own sh es c e s l got told =
    log_more 0 e.seat es (start_core sh 1) e l.allowed
    ∙ ap (λ xs. log_of sh es e.seat ++ xs) (ap (λ (d : Core). adds e.seat d e) l.leads
    ∙ (ap (λ (b : Bool). cond b (entries_of c (slice_get c.seats e.seat) e.step) []) (eq-eqb e.seat e.seat refl)
    ∙ (ap (λ (o : Option SeatState). entries_of c o e.step) got ∙ ap (λ (b : Bool). cond b (event e.step (word_told c s e.step) ∷ []) []) told)))

-- an event adds nothing to the log of another seat
pub log-other : (sh : Shape) (es : List Event) (c : Core) (e : Event) (i : ℕ) → LeadTo sh es c → (e.seat ≡ i → ⊥) → log_of sh (es ++ e ∷ []) i ≡ log_of sh es i
log-other sh es c e i l far =
    log_more 0 i es (start_core sh 1) e l.allowed
    ∙ (ap (λ xs. log_of sh es i ++ xs) (ap (λ (d : Core). adds i d e) l.leads ∙ ap (λ (b : Bool). cond b (entries_of c (slice_get c.seats e.seat) e.step) []) (ne_eqb e.seat i far)) ∙ append-nil (log_of sh es i))

none_told : (c : Core) (o : Option SeatState) (step : Step) → is_logged step ≡ false → entries_of c o step ≡ []
none_told c None step e = refl
none_told c (Some s) step e = ap (λ (b : Bool). cond b (event step (word_told c s step) ∷ []) []) e

none_either : (b : Bool) (l : List Entry) → l ≡ [] → cond b l [] ≡ []
none_either true l e = e
none_either false l e = refl

-- an event that makes or joins a seat adds nothing to any log
pub log-still : (sh : Shape) (es : List Event) (c : Core) (e : Event) (i : ℕ) → LeadTo sh es c → is_logged e.step ≡ false → log_of sh (es ++ e ∷ []) i ≡ log_of sh es i
log-still sh es c e i l untold =
    log_more 0 i es (start_core sh 1) e l.allowed
    ∙ (ap (λ xs. log_of sh es i ++ xs) (ap (λ (d : Core). adds i d e) l.leads ∙ none_either (eqb e.seat i) (entries_of c (slice_get c.seats e.seat) e.step) (none_told c (slice_get c.seats e.seat) e.step untold)) ∙ append-nil (log_of sh es i))

-- who took a step is there
pub some-there : (c : Core) (i : ℕ) (step : Step) (o : Option SeatState) → slice_get c.seats i ≡ o → failing_of c o step ≡ None → i < length c.seats
some-there c i step None e f = absurd (cc)
some-there c i step (Some s) e f = slice_get_within c.seats i s e

-- no seat goes
others_long : (sh : Shape) (step : Step) (xs : List SeatState) → length xs ≤ length (others_after sh step xs)
others_long sh Split xs = omega (arith, length-append xs (start_seat sh (length xs) ∷ []))
others_long sh (Join other) xs = omega (arith, length-set xs other (spent_seat sh other))
others_long sh step xs = omega arith

pub after-long : (c : Core) (i : ℕ) (step : Step) (o : Option SeatState) → length c.seats ≤ length (after_of c i o step).seats
after-long c i step None = omega arith
after-long c i step (Some s) =
    let x : SeatState = seat_after c.shape s step (slice_index c.words (address c.shape (place c.shape s step))) in
    omega (arith, others_long c.shape step (set c.seats i x), length-set c.seats i x)

pub run-long : (k : ℕ) (es : List Event) (c : Core) → first_refused k es c ≡ None → length c.seats ≤ length (run_of es c).seats
run-long k [] c h = omega arith
run-long k (e ∷ es) c h =
    let q = first-allowed k e es c h in
    omega (arith, after-long c e.seat e.step (slice_get c.seats e.seat), run-long (k + 1) es (after_event c e) q.1, ap (λ (d : Core). length d.seats) (run-first c e es q.0))

log_none : (k i : ℕ) (es : List Event) (c : Core) → first_refused k es c ≡ None → length (run_of es c).seats ≤ i → log_from i c es ≡ []
log_none k i [] c h l = refl
log_none k i (e ∷ es) c h l =
    let q = first-allowed k e es c h in
    let there : e.seat < length c.seats = some-there c e.seat e.step (slice_get c.seats e.seat) refl q.0 in
    let long : length c.seats ≤ length (run_of (e ∷ es) c).seats = run-long k (e ∷ es) c h in
    ap (λ (b : Bool). cond b (entries_of c (slice_get c.seats e.seat) e.step) [] ++ log_from i (after_event c e) es) (ne_eqb e.seat i (λ y. omega (arith, there, long, l, y)))
    ∙ log_none (k + 1) i es (after_event c e) q.1 (subst (λ (d : Core). length d.seats ≤ i) (run-first c e es q.0) l)

-- a seat that isn't there has done nothing
pub log-none : (sh : Shape) (es : List Event) (c : Core) (i : ℕ) → LeadTo sh es c → length c.seats ≤ i → log_of sh es i ≡ []
log-none sh es c i l far = log_none 0 i es (start_core sh 1) l.allowed (subst (λ (d : Core). length d.seats ≤ i) (sym l.leads) far)

either_way : (c d : Core) (o : Option ℕ) → IsCore c → (o ≡ None → IsCore d) → IsCore (cond (is_none o) d c)
either_way c d None core then = then refl
either_way c d (Some part) core then = core

-- each state on the way meets the rule of the core
pub run-sound : (n : ℕ) (es : List Event) (c : Core) → IsCore c → All Fits es → IsCore (run_of (take n es) c)
run-sound zero es c core fit = core
run-sound (suc n) [] c core fit = core
run-sound (suc n) (e ∷ es) c core fit = either_way c (run_of (take n es) (after_event c e)) (failing_part c e) core (λ ok. run-sound n es (after_event c e) (core_kept c e core (fit 0 e (omega arith)) ok) (All-rest Fits e es (e ∷ es) refl fit))

-- What the seats of a closed heap did is a run of the core.
-- the events that led to the end are one
pub ended : (sh : Shape) (seats : List HeapSeat) (w : Words) (e : IsEnd sh seats w) → IsRunOf sh seats w e.past
ended sh seats w e =
    let shaped : IsShape sh = subst IsShape e.shape e.whole.core.formed.shaped in
    record {
      allowed = e.led.allowed;
      parts = e.logs;
      since = e.since;
      no_others = e.theirs;
      sound = λ n. run-sound n e.past (start_core sh 1) (core-starts sh 1 shaped (omega arith) (omega arith)) e.led.fit;
      ends = subst (λ (c : Core). AreWords sh c.words w) (sym e.led.leads) e.words;
      resting = subst (λ (c : Core). (j : ℕ) (r : SeatState) (k : ℕ) → j < length seats → slice_get c.seats j ≡ Some r → r.section ≡ Some k → IsResting seats r) (sym e.led.leads) e.resting;
    }

pub closed_ran : ClosedHeapsRan
closed_ran sh seats w e = (e.past, ended sh seats w e)
