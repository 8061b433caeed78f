-- A sum over all seats changes by what the step changes of its own seat's record.
use Rattle.std.proofs.Common.{ℕ, ◌≡◌, ◌+◌, ◌≤◌, ◌<◌, List, [], ◌∷◌, set, get_or, length, arith, ap, ⊎_elim}
use Rattle.std.specs.List.{sum_by}
use Rattle.std.proofs.lemmas.Bool.{cases_lt}
use Rattle.std.proofs.lemmas.List.{set_past}
use Rattle.std.proofs.lemmas.List.Sums.{sum_by-set, sum_by-append, sum_by-cons}
use Rattle.mark_core.specs.Start.{start_seat, spent_seat}
use Rattle.mark_core.specs.Effects.{seat_after}
use Rattle.mark_core.specs.Steps.{Core, others_after}
use Rattle.mark_core.specs.declared.kinds.Shape.{Shape}
use Rattle.mark_core.specs.declared.kinds.Step.{Step}
use Rattle.mark_core.specs.declared.kinds.Step.TheVariants.{Split, Join}
use Rattle.mark_core.specs.declared.seat.SeatState.{SeatState}
use Rattle.mark_core.proofs.Known.{found, seats_left}
use Rattle.mark_core.proofs.Blocks.BlocksStopped.{Taken, within, own-record}

-- a seat with nothing in hand comes to nothing
pub record IsOfHands (f : SeatState → ℕ) : Type 0 where
  pub start : (sh : Shape) (k : ℕ) → f (start_seat sh k) ≡ 0
  pub spent : (sh : Shape) (k : ℕ) → f (spent_seat sh k) ≡ 0

-- a seat's record ends
ended : (f : SeatState → ℕ) (seats : List SeatState) (k : ℕ) (x : SeatState) → f x ≡ 0 → sum_by f (set seats k x) ≤ sum_by f seats
ended f seats k x z =
    ⊎_elim
    (λ (h : k < length seats). omega (arith, sum_by-set f seats k x x h, z))
    (λ (h : length seats ≤ k). rw (set_past seats k x h) (omega arith))
    (cases_lt k (length seats))

-- a split or a join adds nothing
others : (f : SeatState → ℕ) (sh : Shape) (step : Step) (seats : List SeatState) → IsOfHands f → sum_by f (others_after sh step seats) ≤ sum_by f seats
others f sh Split seats z =
    let new : SeatState = start_seat sh (length seats) in
    omega (arith, sum_by-append f seats (new ∷ []), sum_by-cons f new [], z.start sh (length seats))
others f sh (Join other) seats z = ended f seats other (spent_seat sh other) (z.spent sh other)
others f sh step seats z = omega arith

-- after a step
pub seats-move : (f : SeatState → ℕ) (c : Core) (i : ℕ) (s : SeatState) (step : Step) → IsOfHands f → Taken c i s step → sum_by f (seats_left c i s step) + f s ≤ sum_by f c.seats + f (seat_after c.shape s step (found c s step))
seats-move f c i s step z t =
    let new : SeatState = seat_after c.shape s step (found c s step) in
    let one = sum_by-set f c.seats i new s (within c i s step t) in
    let mine : f (get_or c.seats i s) ≡ f s = ap f (own-record c i s step s t) in
    omega (arith, others f c.shape step (set c.seats i new) z, one, mine)
