-- What an admitted helper does of a drain and of a sweep.
use Rattle.std.proofs.Common.{ℕ, ◌≡◌, ◌+◌, zero-add, List, [], ◌∷◌, ◌++◌, refl, sym, ap, ◌∙◌, subst, Bool, true, false, not, ◌&&◌, Some, None, ⊎_elim}
use Rattle.std.specs.Prelude.{◌==◌, if◌then◌else◌}
use Rattle.std.specs.List.{list_all, list_any}
use Rattle.std.proofs.lemmas.Bool.{and_from, and_parts, false≢true, not-true, or_cases, or_from, or_left, or_parts, or_right, true≢false}
use Rattle.mark_core.specs.Held.{Slot, Slots}
use Rattle.mark_core.specs.Seats.{work_in_hand}
use Rattle.mark_core.specs.declared.kinds.Shape.{Shape}
use Rattle.mark_core.specs.declared.kinds.Step.{Step}
use Rattle.mark_core.specs.declared.kinds.Step.TheVariants.{ClearCard, Give, NextOfCards, NextSeason, Push, ReadCat, ReadOwn, StoreField, StoreNew, StorePhase, StorePosition, StoreRoot, StoreValue, ReadSlot, StoreSlot, ExchangeField, ExchangeValue, ReadWeak, HoldRoot}
use Rattle.mark_core.specs.declared.seat.SeatState.{SeatState}
use Rattle.gc_table.specs.Taking.{after}
use Rattle.gc_table.specs.declared.view.Entry.{Entry}
use Rattle.gc_table.specs.declared.view.View.{View}
use Rattle.gc_table.specs.Log.{events}
use Rattle.gc_table.specs.Running.{changes_section, Ran}
use Rattle.gc_table.proofs.Running.{ran-events, ran-shape}
use Rattle.packet_pools.specs.Counts.{count_of}
use Rattle.packet_pools.specs.Seeking.{some_event}
use Rattle.packet_pools.proofs.Counting.{count-join}
use Rattle.tracer.specs.Deferral.{waits_on}
use Rattle.tracer.specs.Moments.{deferring_after, is_spent_slot}
use Rattle.tracer.proofs.Moments.{moment_of, moment-waits}
use Rattle.gc_cycle.specs.Events.{never, Sort}
use Rattle.gc_cycle.specs.Lower.{traces_or_cleans}
use Rattle.gc_cycle.specs.Moments.{Moment, after_moment, at_some_moment, begins, finds_no_room, finds_no_work}
use Rattle.gc_cycle.specs.Draining.{is_idle_now}
use Rattle.gc_cycle.specs.Sorts.{clears, draws, draws_or_clears, passes_card, reads_counter}
use Rattle.gc_cycle.proofs.Sequences.{moments, moments-state, some-moment-later, this-moment}
use Rattle.gc_cycle.proofs.Searched.{work-longer}
use Rattle.gc_cycle.proofs.Ends.Finishes.{never-both as never-join}

-- what waits in the first list waits in the second
abbrev pub Sub : List ℕ → List ℕ → Type 0
Sub ps qs = (p : ℕ) → list_any (λ x. x == p) ps ≡ true → list_any (λ x. x == p) qs ≡ true

waits-more : (p : ℕ) (s : SeatState) (step : Step) (a b : Bool) → (a ≡ true → b ≡ true) → waits_on p s step a ≡ true → waits_on p s step b ≡ true
waits-more p s (Push q c) a b h e =
    ⊎_elim (λ (x : a ≡ true). or_left b _ (h x)) (λ x. or_right b _ x) (or_cases a _ e)
waits-more p s (Give q d) a b h e = let k = and_parts a _ e in and_from b _ (h k.0) k.1
waits-more p s step a b h e = h e

sub-step : (v : View) (e : Entry) (ps qs : List ℕ) → Sub ps qs → Sub (deferring_after v.state e.step ps) (deferring_after v.state e.step qs)
sub-step v e ps qs h p k =
    moment-waits p v qs (e ∷ []) ∙ waits-more p v.state e.step (list_any (λ x. x == p) ps) (list_any (λ x. x == p) qs) (h p) (sym (moment-waits p v ps (e ∷ [])) ∙ k)

-- a test that more packets that wait don't spoil
abbrev pub Grows : (Moment → List Entry → Bool) → Type 0
Grows test = (s : SeatState) (ps qs : List ℕ) (es : List Entry) → Sub ps qs → test (record { state = s; deferring = ps }) es ≡ true → test (record { state = s; deferring = qs }) es ≡ true

pub wider : (test : Moment → List Entry → Bool) → Grows test → (es : List Entry) (v : View) (ps qs : List ℕ) → Sub ps qs → at_some_moment v.shape test (moment_of v ps) es ≡ true → at_some_moment v.shape test (moment_of v qs) es ≡ true
wider test g [] v ps qs h k = g v.state ps qs [] h k
wider test g (e ∷ es) v ps qs h k =
    ⊎_elim
    (λ (a : test (moment_of v ps) (e ∷ es) ≡ true). or_left (test (moment_of v qs) (e ∷ es)) _ (g v.state ps qs (e ∷ es) h a))
    (λ (b : at_some_moment v.shape test (after_moment v.shape (moment_of v ps) e) es ≡ true).
    or_right (test (moment_of v qs) (e ∷ es)) _ (wider test g es (after e.step e.found v) (deferring_after v.state e.step ps) (deferring_after v.state e.step qs) (sub-step v e ps qs h) b))
    (or_cases (test (moment_of v ps) (e ∷ es)) _ k)

sub-none : (qs : List ℕ) → Sub [] qs
sub-none qs p h = absurd (false≢true h)

-- what is so at some moment of a later call is so at one of both
pub late : (test : Moment → List Entry → Bool) → Grows test → (u v w : View) → Ran u v → Ran v w → at_some_moment v.shape test (begins v) (events v w) ≡ true → at_some_moment u.shape test (begins u) (events u w) ≡ true
late test g u v w r q h =
    let shape : v.shape ≡ u.shape = ran-shape u v r in
    let m : Moment = moments u.shape (begins u) (events u v) in
    let state : m.state ≡ v.state = moments-state u (begins u) (events u v) refl ∙ ap (λ (x : View). x.state) (sym r.steps) in
    let wide : at_some_moment v.shape test (moment_of v m.deferring) (events v w) ≡ true = wider test g (events v w) v [] m.deferring (sub-none m.deferring) h in
    let there : at_some_moment u.shape test m (events v w) ≡ true =
    subst (λ (s : SeatState). at_some_moment u.shape test (record { state = s; deferring = m.deferring }) (events v w) ≡ true) (sym state)
    (subst (λ (sh : Shape). at_some_moment sh test (moment_of v m.deferring) (events v w) ≡ true) shape wide) in
    ap (at_some_moment u.shape test (begins u)) (ran-events u v w r q) ∙ some-moment-later u.shape test (events u v) (events v w) (begins u) there

-- a test that further events don't spoil
pub longer : (sh : Shape) (test : Moment → List Entry → Bool) (ys : List Entry) → ((m : Moment) (es : List Entry) → test m es ≡ true → test m (es ++ ys) ≡ true) → (es : List Entry) (m : Moment) → at_some_moment sh test m es ≡ true → at_some_moment sh test m (es ++ ys) ≡ true
longer sh test ys g [] m h = this-moment sh test ys m (g m [] h)
longer sh test ys g (e ∷ es) m h =
    ⊎_elim
    (λ (a : test m (e ∷ es) ≡ true). or_left (test m (e ∷ (es ++ ys))) _ (g m (e ∷ es) a))
    (λ (b : at_some_moment sh test (after_moment sh m e) es ≡ true). or_right (test m (e ∷ (es ++ ys))) _ (longer sh test ys g es (after_moment sh m e) b))
    (or_cases (test m (e ∷ es)) _ h)

-- the slots
spent-more : (ps qs : List ℕ) → Sub ps qs → (h : Slot) → is_spent_slot ps h ≡ true → is_spent_slot qs h ≡ true
spent-more ps qs s None e = refl
spent-more ps qs s (Some (p, None, stored)) e = s p e
spent-more ps qs s (Some (p, Some n, stored)) e = ⊎_elim (λ (a : (n == 0) ≡ true). or_left (n == 0) _ a) (λ b. or_right (n == 0) _ (s p b)) (or_cases (n == 0) _ e)

slots-more : (ps qs : List ℕ) → Sub ps qs → (hs : Slots) → list_all (is_spent_slot ps) hs ≡ true → list_all (is_spent_slot qs) hs ≡ true
slots-more ps qs s [] e = refl
slots-more ps qs s (h ∷ hs) e = let k = and_parts (is_spent_slot ps h) (list_all (is_spent_slot ps) hs) e in and_from _ _ (spent-more ps qs s h k.0) (slots-more ps qs s hs k.1)

pub work-grows : (sh : Shape) → Grows (finds_no_work sh)
work-grows sh s ps qs es h e =
    let a = and_parts (not (work_in_hand sh.fields s) && list_all (is_spent_slot ps) s.held) _ e in
    let b = and_parts (not (work_in_hand sh.fields s)) (list_all (is_spent_slot ps) s.held) a.0 in
    and_from _ _ (and_from _ _ b.0 (slots-more ps qs h s.held b.1)) a.1

pub idle-grows : (sh : Shape) → Grows (is_idle_now sh)
idle-grows sh s ps qs es h e = let a = and_parts (never clears es) _ e in and_from _ _ a.0 (work-grows sh s ps qs es h a.1)

pub room-grows : (sh : Shape) → Grows (finds_no_room sh)
room-grows sh s ps qs es h e = e

pub idle-longer : (sh : Shape) (ys : List Entry) → never clears ys ≡ true → (m : Moment) (es : List Entry) → is_idle_now sh m es ≡ true → is_idle_now sh m (es ++ ys) ≡ true
idle-longer sh ys n m es e = let a = and_parts (never clears es) _ e in and_from _ _ (never-join clears es ys a.0 n) (work-longer sh ys m es a.1)

-- a trace clears no card
pub uncleared : (es : List Entry) → never draws_or_clears es ≡ true → never clears es ≡ true
uncleared [] h = refl
uncleared (e ∷ es) h =
    let p = or_parts (draws_or_clears e.step e.found) (some_event draws_or_clears es) (not-true _ h) in
    ap not (or_from (clears e.step e.found) (some_event clears es) (one e.step e.found p.0) (not-true _ (uncleared es (ap not p.1))))
  where
    one : (step : Step) (n : ℕ) → draws_or_clears step n ≡ false → clears step n ≡ false
    one (ClearCard card) n k = absurd (true≢false k)
    one step n k = refl

-- no step of a pass over cards
pub unpassed : (es : List Entry) → never reads_counter es ≡ true → never draws_or_clears es ≡ true → never passes_card es ≡ true
unpassed [] a b = refl
unpassed (e ∷ es) a b =
    let p = or_parts (reads_counter e.step e.found) (some_event reads_counter es) (not-true _ a) in
    let q = or_parts (draws_or_clears e.step e.found) (some_event draws_or_clears es) (not-true _ b) in
    ap not (or_from (passes_card e.step e.found) (some_event passes_card es) (or_from _ _ p.0 q.0) (not-true _ (unpassed es (ap not p.1) (ap not q.1))))

pub unpassed-uncleared : (es : List Entry) → never passes_card es ≡ true → never clears es ≡ true
unpassed-uncleared es h = uncleared es (uncleaned es h)
  where
    uncleaned : (xs : List Entry) → never passes_card xs ≡ true → never draws_or_clears xs ≡ true
    uncleaned [] n = refl
    uncleaned (x ∷ xs) n =
        let p = or_parts (passes_card x.step x.found) (some_event passes_card xs) (not-true _ n) in
        let q = or_parts (reads_counter x.step x.found) (draws_or_clears x.step x.found) p.0 in
        ap not (or_from (draws_or_clears x.step x.found) (some_event draws_or_clears xs) q.1 (not-true _ (uncleaned xs (ap not p.1))))

pub undrawn : (es : List Entry) → never draws_or_clears es ≡ true → never draws es ≡ true
undrawn [] h = refl
undrawn (e ∷ es) h =
    let p = or_parts (draws_or_clears e.step e.found) (some_event draws_or_clears es) (not-true _ h) in
    ap not (or_from (draws e.step e.found) (some_event draws es) (one e.step e.found p.0) (not-true _ (undrawn es (ap not p.1))))
  where
    one : (step : Step) (n : ℕ) → draws_or_clears step n ≡ false → draws step n ≡ false
    one NextOfCards n k = absurd (true≢false k)
    one step n k = refl

pub idle-now : (sh : Shape) (es : List Entry) (m : Moment) → never clears es ≡ true → at_some_moment sh (finds_no_work sh) m es ≡ true → at_some_moment sh (is_idle_now sh) m es ≡ true
idle-now sh [] m n h = h
idle-now sh (e ∷ es) m n h =
    ⊎_elim
    (λ (a : finds_no_work sh m (e ∷ es) ≡ true). or_left (is_idle_now sh m (e ∷ es)) _ (and_from _ _ n a))
    (λ (b : at_some_moment sh (finds_no_work sh) (after_moment sh m e) es ≡ true).
    or_right (is_idle_now sh m (e ∷ es)) _ (idle-now sh es (after_moment sh m e) (ap not (or_parts (clears e.step e.found) (some_event clears es) (not-true _ n)).1) b))
    (or_cases (finds_no_work sh m (e ∷ es)) _ h)

pub traced-idle : (sh : Shape) (es : List Entry) (m : Moment) → never draws_or_clears es ≡ true → at_some_moment sh (finds_no_work sh) m es ≡ true → at_some_moment sh (is_idle_now sh) m es ≡ true
traced-idle sh es m n h = idle-now sh es m (uncleared es n) h

pub count-none : (f : Sort) (es : List Entry) → never f es ≡ true → count_of f es ≡ 0
count-none f [] h = refl
count-none f (e ∷ es) h =
    let p = or_parts (f e.step e.found) (some_event f es) (not-true _ h) in ap (λ (b : Bool). (if b then 1 else 0) + count_of f es) p.0 ∙ (zero-add (count_of f es) ∙ count-none f es (ap not p.1))

pub count-run : (f : Sort) (u v w : View) → Ran u v → Ran v w → count_of f (events u w) ≡ count_of f (events u v) + count_of f (events v w)
count-run f u v w r q = ap (count_of f) (ran-events u v w r q) ∙ count-join f (events u v) (events v w)

-- what both parts of a help leave
pub traces-kept : (step : Step) → traces_or_cleans step ≡ true → changes_section step ≡ false
traces-kept (ReadOwn c i) e = absurd (false≢true e)
traces-kept (ReadCat v) e = absurd (false≢true e)
traces-kept (ReadSlot k) e = absurd (false≢true e)
traces-kept (ReadWeak c) e = absurd (false≢true e)
traces-kept (StoreSlot k r) e = absurd (false≢true e)
traces-kept (ExchangeField v i x y) e = absurd (false≢true e)
traces-kept (ExchangeValue v m n) e = absurd (false≢true e)
traces-kept (StoreField v i w) e = absurd (false≢true e)
traces-kept (StoreValue v n) e = absurd (false≢true e)
traces-kept (StoreRoot v r) e = absurd (false≢true e)
traces-kept (HoldRoot v r) e = absurd (false≢true e)
traces-kept (StoreNew c part word) e = absurd (false≢true e)
traces-kept (StorePosition done) e = absurd (false≢true e)
traces-kept (StorePhase to) e = absurd (false≢true e)
traces-kept NextSeason e = absurd (false≢true e)
traces-kept step e = refl
