-- Over every run: marks set anew, and what was marked goes into packets.
use Rattle.std.proofs.Common.{ℕ, ◌≡◌, ◌+◌, ◌*◌, ◌/◌, ◌≤◌, List, get_or, arith, refl, Bool, true, false, cond, eqb, Option, Some, None, not}
use Rattle.std.specs.Prelude.{is_some}
use Rattle.std.specs.List.{count_by}
use Rattle.mark_core.specs.Layout.{words_of, region_sizes}
use Rattle.mark_core.specs.Bits.{cell_bit}
use Rattle.mark_core.specs.Seats.{is_the}
use Rattle.mark_core.specs.Cards.{card_of}
use Rattle.mark_core.specs.Effects.{seat_after}
use Rattle.mark_core.specs.Steps.ColourSteps.{fresh_off}
use Rattle.mark_core.specs.Steps.{Core, run_of}
use Rattle.mark_core.specs.Laws.{IsCore, AllNumbersFit}
use Rattle.mark_core.specs.declared.kinds.Event.{Event}
use Rattle.mark_core.specs.declared.kinds.Shape.{Shape}
use Rattle.mark_core.specs.declared.kinds.Step.{Step}
use Rattle.mark_core.specs.declared.kinds.Step.TheVariants.{SetMark, Push, DirtyCard}
use Rattle.mark_core.specs.declared.seat.SeatState.{SeatState}
use Rattle.mark_core.proofs.Known.{found}
use Rattle.mark_core.proofs.Count.CountMoves.{bit}
use Rattle.mark_core.proofs.Blocks.BlocksStopped.{Taken, in-place, kept-after}
use Rattle.mark_core.proofs.Writing.Places.{words-get}
use Rattle.work_laws.specs.Counting.{one_in, count_events}
use Rattle.work_laws.specs.Marking.{marks_anew, begins_marking, pushes_fresh, white_in, cells_to_mark, has_fresh, fresh_in_hand, MarksAreBounded}
use Rattle.work_laws.proofs.Sums.{Pays, paid, times, one-is}
use Rattle.work_laws.proofs.Seats.{IsOfHands, seats-move}
use Rattle.work_laws.proofs.MarkSteps.{marks-paid}

marks_pay : (sh : Shape) → Pays (one_in marks_anew) (λ c e. sh.cells * one_in begins_marking c e) cells_to_mark sh
marks_pay sh c e k is f =
    kept-after (λ z w seats. one_in marks_anew c e + white_in z w ≤ cells_to_mark c + sh.cells * one_in begins_marking c e) c e k f
    (λ s acted t.
    rw (one-is marks_anew c e s acted.seat, one-is begins_marking c e s acted.seat, ← is) (marks-paid c e.seat s e.step t))

marks_bound : (c : Core) (es : List Event) → IsCore c → AllNumbersFit es → count_events marks_anew es c + cells_to_mark (run_of es c) ≤ cells_to_mark c + c.shape.cells * count_events begins_marking es c
marks_bound c es k fit =
    let all = paid (one_in marks_anew) (λ d e. c.shape.cells * one_in begins_marking d e) cells_to_mark c.shape (marks_pay c.shape) es c k refl fit in
    rw (← times c.shape.cells (one_in begins_marking) es c) all

-- the cell in hand that was just marked
pub fresh_hands : IsOfHands (λ s. bit (has_fresh s))
fresh_hands = record { start = λ sh k. refl; spent = λ sh k. refl }

set_fresh : (o : Option ℕ) (y : ℕ) (b : Bool) → bit (is_some (cond b o (Some y))) ≤ bit (is_some o) + bit (not b)
set_fresh o y true = omega arith
set_fresh o y false = omega arith

push_by : (y : ℕ) (b : Bool) → bit b + bit (is_some (cond b None (Some y))) ≤ 1
push_by y true = omega arith
push_by y false = omega arith

push_fresh : (o : Option ℕ) (x : ℕ) → bit (is_the o x) + bit (is_some (cond (is_the o x) None o)) ≤ bit (is_some o)
push_fresh None x = omega arith
push_fresh (Some y) x = push_by y (eqb y x)

answered : (y : ℕ) (b : Bool) → bit (is_some (cond b None (Some y))) ≤ 1
answered y true = omega arith
answered y false = omega arith

dirty_fresh : (o : Option ℕ) (card : ℕ) → bit (is_some (fresh_off o card)) ≤ bit (is_some o)
dirty_fresh None card = omega arith
dirty_fresh (Some y) card = answered y (eqb (card_of y) card)

abbrev FreshPaid : Core → SeatState → Step → Type 0
FreshPaid c s step = bit (pushes_fresh c s step) + bit (has_fresh (seat_after c.shape s step (found c s step))) ≤ bit (has_fresh s) + bit (marks_anew c s step)

-- what a step does to the cell that its seat has just marked
pub fresh-paid : (c : Core) (i : ℕ) (s : SeatState) (step : Step) → Taken c i s step → FreshPaid c s step
fresh-paid c i s (SetMark x) t =
    let at = in-place c i s (SetMark x) t in
    let here : found c s (SetMark x) ≡ get_or (words_of c.shape c.words).marks (x / 64) 0 = words-get (region_sizes c.shape) 5 c.words (x / 64) 0 at in
    rw here (omega (arith, set_fresh s.fresh x (cell_bit (words_of c.shape c.words).marks x)))
fresh-paid c i s (Push p x) t = omega (arith, push_fresh s.fresh x)
fresh-paid c i s (DirtyCard card) t = omega (arith, dirty_fresh s.fresh card)
fresh-paid c i s step t = omega arith

fresh_pay : (sh : Shape) → Pays (one_in pushes_fresh) (one_in marks_anew) fresh_in_hand sh
fresh_pay sh c e k is f =
    kept-after (λ z w seats. one_in pushes_fresh c e + count_by has_fresh seats ≤ fresh_in_hand c + one_in marks_anew c e) c e k f
    (λ s acted t.
    let moved = seats-move (λ x. bit (has_fresh x)) c e.seat s e.step fresh_hands t in
    let own = fresh-paid c e.seat s e.step t in
    omega (arith, one-is pushes_fresh c e s acted.seat, one-is marks_anew c e s acted.seat, moved, own))

pub marks_bounded : MarksAreBounded
marks_bounded = record { marks = marks_bound; pushes = λ c es k fit. paid (one_in pushes_fresh) (one_in marks_anew) fresh_in_hand c.shape (fresh_pay c.shape) es c k refl fit }
