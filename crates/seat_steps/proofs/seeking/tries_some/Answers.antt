use Rattle.std.proofs.Common.{◌≤◌, ◌+◌, ◌*◌, ap, length, subst, sym}
use Rattle.mark_core.specs.declared.kinds.Shape.{Shape}
use Rattle.mark_core.specs.declared.seat.SeatState.{SeatState}
use Rattle.gc_table.specs.Seats.{did, view_of}
use Rattle.cache_refills.specs.Pace.Pacing.{card_looks}
use Rattle.cache_refills.specs.Pace.StepBounds.{payment_steps}
use Rattle.seat_turns.proofs.Leaving.{leaves-spared}
use Rattle.seat_steps.proofs.Searched.{stands-after, tries-piece}
use Rattle.seat_steps.proofs.seeking.tries_some.Goals as goal

pub returns-clause-stands : goal.returns-clause-stands
returns-clause-stands c =
    let e = c.try_refill_some.ensures in
    stands-after c.try_refill_some.result _ c.args.heap.now c.args.seat.now c.try_refill_some.new.seat c.requires.halts.works e.seat e.plays.ran e.keeps.0 e.keeps.1 e.refills e.none

pub returns-clause-ran : goal.returns-clause-ran
returns-clause-ran c = c.try_refill_some.ensures.plays.ran

pub returns-clause-leaves : goal.returns-clause-leaves
returns-clause-leaves c = let e = c.try_refill_some.ensures in leaves-spared (view_of c.args.seat.now) (view_of c.try_refill_some.new.seat) e.plays.ran e.plays.spares e.keeps.0

pub returns-clause-tries : goal.returns-clause-tries
returns-clause-tries c =
    let e = c.try_refill_some.ensures in
    tries-piece c.try_refill_some.result c.args.from c.args.most _ (view_of c.args.seat.now) (view_of c.try_refill_some.new.seat) (ap (λ (s : SeatState). s.made) c.state.ensures) e.sees e.few
    (subst (λ (sh : Shape). length (did c.args.seat.now c.try_refill_some.new.seat) ≤ 3 * c.args.most + 6 + payment_steps 1024 card_looks sh) (sym c.requires.halts.works.sits.1) e.longest)
    e.refills e.due e.numbers
