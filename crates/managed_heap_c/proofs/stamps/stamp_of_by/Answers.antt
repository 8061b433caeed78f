use Rattle.std.proofs.Common.{refl}
use Rattle.seat_steps.specs.declared.came.Came.TheVariants as cames
use Rattle.managed_heap_c.specs.Stamping.{StampsTo}
use Rattle.managed_heap_c.proofs.Answered.{answered}
use Rattle.managed_heap_c.proofs.stamps.stamp_of_by.Goals as goal

pub returns-in-Some-clause-answers : goal.returns-in-Some-clause-answers
returns-in-Some-clause-answers c =
    let x = c.in-Some.stepper in
    answered (StampsTo (record { world = c.name-out.result })) 0 c.args.hand.now.stepper x x cames.Done c.in-Some.is refl (c.name-out.ensures.name, refl)
