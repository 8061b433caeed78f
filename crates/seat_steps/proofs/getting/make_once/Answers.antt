use Rattle.std.proofs.Common.{refl}
use Rattle.gc_table.specs.Seats.{view_of}
use Rattle.seat_steps.proofs.PaidCounts.{makes-counts, misses-counts}
use Rattle.seat_steps.proofs.Doing.{makes-after}
use Rattle.seat_steps.proofs.Filled.{made-free}
use Rattle.seat_steps.proofs.Paced.{paces-last}
use Rattle.seat_steps.proofs.getting.make_once.Goals as goal

pub returns-in-Ok-clause-makes : goal.returns-in-Ok-clause-makes
returns-in-Ok-clause-makes c = (c.makes.ensures.turn, makes-after _ c.args.v c.args.value c.args.heap.now c.args.seat.now c.come_once.new.seat c.makes.new.seat refl c.come_once.ensures.leaves c.come_once.ensures.same c.makes.ensures.ran c.makes.ensures.made)

pub returns-in-Ok-clause-leaves : goal.returns-in-Ok-clause-leaves
returns-in-Ok-clause-leaves c = λ other. absurd (other refl)

pub returns-in-Ok-clause-found : goal.returns-in-Ok-clause-found
returns-in-Ok-clause-found c =
    made-free c.args.heap.now c.args.seat.now (view_of c.come_once.new.seat) (view_of c.makes.new.seat) c.requires.turn.holds.sits c.come_once.ensures.ran c.makes.ensures.ran c.in-Ok.ensures.freely c.makes.ensures.few
    (paces-last (view_of c.args.seat.now) (view_of c.come_once.new.seat) (view_of c.makes.new.seat) c.come_once.ensures.paces c.makes.ensures.quiet c.makes.ensures.numbers)

pub returns-in-Ok-clause-pays : goal.returns-in-Ok-clause-pays
returns-in-Ok-clause-pays c =
    makes-counts c.args.heap.now c.args.seat.now (view_of c.come_once.new.seat) (view_of c.makes.new.seat) c.requires.turn.holds.sits c.come_once.ensures.ran c.makes.ensures.ran c.makes.ensures.few c.args.paid.now c.come_once.new.paid c.come_once.ensures.pays

pub returns-in-Err-clause-pays : goal.returns-in-Err-clause-pays
returns-in-Err-clause-pays c = misses-counts c.args.paid.now c.come_once.new.paid (view_of c.args.seat.now) (view_of c.come_once.new.seat) c.come_once.ensures.pays
