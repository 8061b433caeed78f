use Rattle.seat_turns.proofs.Leaving.{leaves-spared}
use Rattle.seat_steps.proofs.getting.try_fill.Goals as goal
use Rattle.seat_steps.proofs.Searched.{fills-none, fills-some, fills-tries}
use Rattle.std.proofs.Common.{ap}
use Rattle.gc_table.specs.Seats.{view_of}
use Rattle.mark_core.specs.declared.seat.SeatState.{SeatState}

pub returns-clause-refills : goal.returns-clause-refills
returns-clause-refills c =
    let e = c.try_refill.ensures in
    fills-some c.try_refill.result _ c.args.heap.now c.args.seat.now c.try_refill.new.seat c.requires.halts.works e.seat e.plays.ran e.keeps.0 e.keeps.1 e.refills

pub returns-clause-none : goal.returns-clause-none
returns-clause-none c =
    let e = c.try_refill.ensures in
    fills-none c.try_refill.result c.args.heap.now c.args.seat.now c.try_refill.new.seat c.requires.halts.works e.seat e.plays.ran e.keeps.0 e.keeps.1 e.calls

pub returns-clause-ran : goal.returns-clause-ran
returns-clause-ran c = c.try_refill.ensures.plays.ran

pub returns-clause-tries : goal.returns-clause-tries
returns-clause-tries c =
    let e = c.try_refill.ensures in
    fills-tries c.try_refill.result _ c.args.heap.now.shape (view_of c.args.seat.now) (view_of c.try_refill.new.seat) c.requires.halts.works.sits.1 (ap (λ (s : SeatState). s.made) c.state.ensures) e.refills e.calls e.pops e.unpopped e.few e.longest

pub returns-clause-leaves : goal.returns-clause-leaves
returns-clause-leaves c = let e = c.try_refill.ensures in leaves-spared (view_of c.args.seat.now) (view_of c.try_refill.new.seat) e.plays.ran e.plays.spares e.keeps.0
