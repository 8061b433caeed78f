-- Over every run: for what cards are dirtied.
use Rattle.std.proofs.Common.{ℕ, ◌≡◌, ◌+◌, ◌≤◌, List, arith, refl, sym, ap, subst, Bool, true, false, ◌&&◌, cond, eqb}
use Rattle.std.specs.List.{count_by}
use Rattle.std.proofs.lemmas.Bool.{eqb-true}
use Rattle.mark_core.specs.Layout.{Words, words_of}
use Rattle.mark_core.specs.Steps.{Core, run_of}
use Rattle.mark_core.specs.Laws.{IsCore, AllNumbersFit}
use Rattle.mark_core.specs.declared.kinds.Event.{Event}
use Rattle.mark_core.specs.declared.kinds.Phase.{Phase}
use Rattle.mark_core.specs.declared.kinds.Phase.TheVariants.{Idle, Marking, Drain, Sweep, Clear, Full}
use Rattle.mark_core.specs.declared.kinds.Shape.{Shape}
use Rattle.mark_core.specs.declared.kinds.Step.{Step}
use Rattle.mark_core.specs.declared.kinds.Step.TheVariants.{ReadPhase, StorePhase}
use Rattle.mark_core.specs.declared.seat.SeatState.{SeatState}
use Rattle.mark_core.proofs.Known.{found, seats_left, words_left}
use Rattle.mark_core.proofs.Count.CountMoves.{bit, count-none}
use Rattle.mark_core.proofs.Writing.Writes.{phase-kept}
use Rattle.mark_core.proofs.Blocks.BlocksStopped.{Taken, kept-after, words-read}
use Rattle.mark_core.specs.Effects.{written}
use Rattle.work_laws.specs.Counting.{one_in, sum_events, count_events}
use Rattle.work_laws.specs.Marking.{marks_anew, pushes_fresh, has_fresh, fresh_in_hand}
use Rattle.work_laws.specs.Scanning.{cleans}
use Rattle.work_laws.specs.Cleaning.{dirties}
use Rattle.work_laws.specs.Dirtying.{DirtyingIsBounded, again_in_hand, cleans_in_marking, debts_in_hand, dirties_again, dirties_idly, finds_unpublished, has_again, has_debt, has_unseen, pays_debt, spills_deferred, spills_fresh, stores_reference, unseen_in, unseen_in_hand}
use Rattle.work_laws.proofs.Sums.{Pays, paid, plus, one-is}
use Rattle.work_laws.proofs.Seats.{IsOfHands, seats-move}
use Rattle.work_laws.proofs.Marks.{fresh_hands}
use Rattle.work_laws.proofs.DirtySteps.{again-paid, debt-paid, fresh-spilled, reasons-paid}
use Rattle.work_laws.proofs.UnseenSteps.{found-nowhere, idle-seen, unseen-paid}

-- the reasons
abbrev last : Core → Event → ℕ
last c e = one_in dirties_again c e + one_in dirties_idly c e

abbrev later : Core → Event → ℕ
later c e = one_in spills_deferred c e + last c e

abbrev most : Core → Event → ℕ
most c e = one_in spills_fresh c e + later c e

abbrev all : Core → Event → ℕ
all c e = one_in pays_debt c e + most c e

reasons_pay : (sh : Shape) → Pays (one_in dirties) all (λ c. 0) sh
reasons_pay sh c e k is f =
    kept-after (λ z w seats. one_in dirties c e + 0 ≤ 0 + all c e) c e k f
    (λ s acted t.
    omega (
      arith,
      one-is dirties c e s acted.seat,
      one-is pays_debt c e s acted.seat,
      one-is spills_fresh c e s acted.seat,
      one-is spills_deferred c e s acted.seat,
      one-is dirties_again c e s acted.seat,
      one-is dirties_idly c e s acted.seat,
      reasons-paid c s e.step,
    ))

reasons_bound : (c : Core) (es : List Event) → IsCore c → AllNumbersFit es
    → count_events dirties es c ≤ count_events pays_debt es c + (count_events spills_fresh es c + (count_events spills_deferred es c + (count_events dirties_again es c + count_events dirties_idly es c)))
reasons_bound c es k fit =
    let whole : count_events dirties es c + 0 ≤ 0 + sum_events all es c = paid (one_in dirties) all (λ d. 0) c.shape (reasons_pay c.shape) es c k refl fit in
    let one : sum_events all es c ≡ count_events pays_debt es c + sum_events most es c = plus (one_in pays_debt) most es c in
    let two : sum_events most es c ≡ count_events spills_fresh es c + sum_events later es c = plus (one_in spills_fresh) later es c in
    let three : sum_events later es c ≡ count_events spills_deferred es c + sum_events last es c = plus (one_in spills_deferred) last es c in
    let four : sum_events last es c ≡ count_events dirties_again es c + count_events dirties_idly es c = plus (one_in dirties_again) (one_in dirties_idly) es c in
    omega (arith, whole, one, two, three, four)

pub debt_hands : IsOfHands (λ s. bit (has_debt s))
debt_hands = record { start = λ sh k. refl; spent = λ sh k. refl }

debts_pay : (sh : Shape) → Pays (one_in pays_debt) (one_in stores_reference) debts_in_hand sh
debts_pay sh c e k is f =
    kept-after (λ z w seats. one_in pays_debt c e + count_by has_debt seats ≤ debts_in_hand c + one_in stores_reference c e) c e k f
    (λ s acted t.
    let moved = seats-move (λ x. bit (has_debt x)) c e.seat s e.step debt_hands t in
    omega (arith, one-is pays_debt c e s acted.seat, one-is stores_reference c e s acted.seat, moved, debt-paid c e.seat s e.step t))

-- a cell that was just marked
abbrev fresh_ends : Core → Event → ℕ
fresh_ends c e = one_in spills_fresh c e + one_in pushes_fresh c e

fresh_pay : (sh : Shape) → Pays fresh_ends (one_in marks_anew) fresh_in_hand sh
fresh_pay sh c e k is f =
    kept-after (λ z w seats. fresh_ends c e + count_by has_fresh seats ≤ fresh_in_hand c + one_in marks_anew c e) c e k f
    (λ s acted t.
    let moved = seats-move (λ x. bit (has_fresh x)) c e.seat s e.step fresh_hands t in
    omega (arith, one-is spills_fresh c e s acted.seat, one-is pushes_fresh c e s acted.seat, one-is marks_anew c e s acted.seat, moved, fresh-spilled c e.seat s e.step t))

fresh_bound : (c : Core) (es : List Event) → IsCore c → AllNumbersFit es → count_events spills_fresh es c + count_events pushes_fresh es c + fresh_in_hand (run_of es c) ≤ fresh_in_hand c + count_events marks_anew es c
fresh_bound c es k fit =
    let whole : sum_events fresh_ends es c + fresh_in_hand (run_of es c) ≤ fresh_in_hand c + count_events marks_anew es c = paid fresh_ends (one_in marks_anew) fresh_in_hand c.shape (fresh_pay c.shape) es c k refl fit in
    let two : sum_events fresh_ends es c ≡ count_events spills_fresh es c + count_events pushes_fresh es c = plus (one_in spills_fresh) (one_in pushes_fresh) es c in
    omega (arith, whole, two)

pub again_hands : IsOfHands (λ s. bit (has_again s))
again_hands = record { start = λ sh k. refl; spent = λ sh k. refl }

again_pay : (sh : Shape) → Pays (one_in dirties_again) (one_in finds_unpublished) again_in_hand sh
again_pay sh c e k is f =
    kept-after (λ z w seats. one_in dirties_again c e + count_by has_again seats ≤ again_in_hand c + one_in finds_unpublished c e) c e k f
    (λ s acted t.
    let moved = seats-move (λ x. bit (has_again x)) c e.seat s e.step again_hands t in
    omega (arith, one-is dirties_again c e s acted.seat, one-is finds_unpublished c e s acted.seat, moved, again-paid c e.seat s e.step t))

pub unseen_hands : IsOfHands (λ s. bit (has_unseen s))
unseen_hands = record { start = λ sh k. refl; spent = λ sh k. refl }

abbrev FoundPaid : Core → ℕ → SeatState → Step → Type 0
FoundPaid c i s step = bit (finds_unpublished c s step) + unseen_in (words_left c s step) (seats_left c i s step) ≤ unseen_in (words_of c.shape c.words) c.seats + bit (cleans_in_marking c s step)

-- what counts only in Marking
counted : (here : Bool) (finds after before : ℕ) (cleaned : Bool) → (here ≡ true → finds + after ≤ before + bit cleaned) → (here ≡ false → finds ≡ 0) → finds + cond here after 0 ≤ cond here before 0 + bit (here && cleaned)
counted true finds after before cleaned h none = h refl
counted false finds after before cleaned h none = omega (arith, none refl)

-- a step that leaves the phase
same_phase : (c : Core) (i : ℕ) (s : SeatState) (step : Step) → Taken c i s step → (words_left c s step).phase ≡ (words_of c.shape c.words).phase → FoundPaid c i s step
same_phase c i s step t e =
    let phase : ℕ = (words_of c.shape c.words).phase in
    let after : ℕ = count_by has_unseen (seats_left c i s step) in
    let moved = seats-move (λ x. bit (has_unseen x)) c i s step unseen_hands t in
    let own = unseen-paid c i s step t in
    subst (λ (q : ℕ). bit (finds_unpublished c s step) + cond (eqb q 1) after 0 ≤ unseen_in (words_of c.shape c.words) c.seats + bit (cleans_in_marking c s step)) (sym e)
    (counted (eqb phase 1) (bit (finds_unpublished c s step)) after (count_by has_unseen c.seats) (cleans c s step) (λ h. omega (arith, moved, own)) (found-nowhere c i s step t))

-- as marking begins, no seat cleans a card
begins_seen : (c : Core) (i : ℕ) (s : SeatState) → Taken c i s (StorePhase Marking) → eqb (words_of c.shape c.words).phase 0 ≡ true → count_by has_unseen (seats_left c i s (StorePhase Marking)) ≡ 0
begins_seen c i s t e =
    let none : count_by has_unseen c.seats ≡ 0 = count-none has_unseen c.seats (idle-seen c t.core (rw (eqb-true (words_of c.shape c.words).phase 0 e) refl)) in
    let moved = seats-move (λ x. bit (has_unseen x)) c i s (StorePhase Marking) unseen_hands t in
    omega (arith, none, moved)

try_marking : (phase after before : ℕ) (b : Bool) → eqb phase 0 ≡ b → (b ≡ true → after ≡ 0) → after ≤ before → cond (eqb (cond b 1 phase) 1) after 0 ≤ cond (eqb phase 1) before 0
try_marking phase after before true e none less = omega (arith, none refl)
try_marking phase after before false e none less = by_phase (eqb phase 1)
  where
    by_phase : (here : Bool) → cond here after 0 ≤ cond here before 0
    by_phase true = less
    by_phase false = omega arith

store_phase : (c : Core) (i : ℕ) (s : SeatState) (to : Phase) → Taken c i s (StorePhase to) → FoundPaid c i s (StorePhase to)
store_phase c i s Marking t =
    let phase : ℕ = (words_of c.shape c.words).phase in
    let moved = seats-move (λ x. bit (has_unseen x)) c i s (StorePhase Marking) unseen_hands t in
    omega (arith, try_marking phase (count_by has_unseen (seats_left c i s (StorePhase Marking))) (count_by has_unseen c.seats) (eqb phase 0) refl (begins_seen c i s t) (omega (arith, moved)))
store_phase c i s Drain t = omega arith
store_phase c i s Idle t = omega arith
store_phase c i s Sweep t = omega arith
store_phase c i s Clear t = omega arith
store_phase c i s Full t = omega arith

found_paid : (c : Core) (i : ℕ) (s : SeatState) (step : Step) → Taken c i s step → FoundPaid c i s step
found_paid c i s (StorePhase to) t = store_phase c i s to t
found_paid c i s ReadPhase t = same_phase c i s ReadPhase t (ap (λ (w : Words). w.phase) (words-read c i s ReadPhase t refl))
found_paid c i s step t = same_phase c i s step t (phase-kept c.shape s step (written c.shape s step (found c s step)) (words_of c.shape c.words) refl)

found_pay : (sh : Shape) → Pays (one_in finds_unpublished) (one_in cleans_in_marking) unseen_in_hand sh
found_pay sh c e k is f =
    kept-after (λ z w seats. one_in finds_unpublished c e + unseen_in w seats ≤ unseen_in_hand c + one_in cleans_in_marking c e) c e k f
    (λ s acted t. rw (one-is finds_unpublished c e s acted.seat, one-is cleans_in_marking c e s acted.seat) (found_paid c e.seat s e.step t))

pub dirtying_bounded : DirtyingIsBounded
dirtying_bounded =
    record {
      reasons = reasons_bound;
      debts = λ c es k fit. paid (one_in pays_debt) (one_in stores_reference) debts_in_hand c.shape (debts_pay c.shape) es c k refl fit;
      fresh = fresh_bound;
      again = λ c es k fit. paid (one_in dirties_again) (one_in finds_unpublished) again_in_hand c.shape (again_pay c.shape) es c k refl fit;
      found = λ c es k fit. paid (one_in finds_unpublished) (one_in cleans_in_marking) unseen_in_hand c.shape (found_pay c.shape) es c k refl fit;
    }
