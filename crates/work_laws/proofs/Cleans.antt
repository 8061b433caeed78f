-- Over every run: how often cards are cleaned, and drawn.
use Rattle.std.proofs.Common.{ℕ, ◌+◌, ◌-◌, ◌*◌, ◌≤◌, List, arith, refl}
use Rattle.std.specs.List.{count_by}
use Rattle.mark_core.specs.Layout.{card_count}
use Rattle.mark_core.specs.Numbers.{most_seats}
use Rattle.mark_core.specs.Steps.{Core, run_of}
use Rattle.mark_core.specs.Laws.{IsCore, AllNumbersFit}
use Rattle.mark_core.specs.declared.kinds.Event.{Event}
use Rattle.mark_core.specs.declared.kinds.Shape.{Shape}
use Rattle.mark_core.proofs.Blocks.BlocksStopped.{kept-after}
use Rattle.work_laws.specs.Counting.{one_in, count_events}
use Rattle.work_laws.specs.Scanning.{cleans}
use Rattle.work_laws.specs.Cleaning.{dirties, draws, begins_pass, is_dirty, dirty_cards, cards_of_pass, cards_to_draw, CleaningIsBounded}
use Rattle.work_laws.proofs.Sums.{Pays, paid, times, one-is}
use Rattle.work_laws.proofs.CleanSteps.{cards-paid, draws-paid}

cards_pay : (sh : Shape) → Pays (one_in cleans) (one_in dirties) dirty_cards sh
cards_pay sh c e k is f =
    kept-after (λ z w seats. one_in cleans c e + count_by is_dirty w.cards ≤ dirty_cards c + one_in dirties c e) c e k f
    (λ s acted t. omega (arith, one-is cleans c e s acted.seat, one-is dirties c e s acted.seat, cards-paid c e.seat s e.step t))

draws_pay : (sh : Shape) → Pays (one_in draws) (λ c e. (card_count sh + most_seats) * one_in begins_pass c e) cards_to_draw sh
draws_pay sh c e k is f =
    kept-after (λ z w seats. one_in draws c e + (card_count z + most_seats - w.next_card) ≤ cards_to_draw c + (card_count sh + most_seats) * one_in begins_pass c e) c e k f
    (λ s acted t. rw (one-is draws c e s acted.seat, one-is begins_pass c e s acted.seat, ← is) (draws-paid c e.seat s e.step t))

draws_bound : (c : Core) (es : List Event) → IsCore c → AllNumbersFit es → count_events draws es c + cards_to_draw (run_of es c) ≤ cards_to_draw c + cards_of_pass c * count_events begins_pass es c
draws_bound c es k fit =
    let n : ℕ = cards_of_pass c in
    let all = paid (one_in draws) (λ d e. n * one_in begins_pass d e) cards_to_draw c.shape (draws_pay c.shape) es c k refl fit in
    omega (arith, all, times n (one_in begins_pass) es c)

pub cleaning_bounded : CleaningIsBounded
cleaning_bounded = record { cleans = λ c es k fit. paid (one_in cleans) (one_in dirties) dirty_cards c.shape (cards_pay c.shape) es c k refl fit; draws = draws_bound }
