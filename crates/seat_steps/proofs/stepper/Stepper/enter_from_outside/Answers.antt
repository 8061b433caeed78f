use Rattle.std.proofs.Common.{refl}
use Rattle.seat_steps.proofs.Answered.{cycle-kept, enters-out, enters-outside}
use Rattle.seat_steps.proofs.stepper.Stepper.enter_from_outside.Goals as goal

pub returns-in-Done : goal.returns-in-Done
returns-in-Done c = record { entered = (enters-outside c.args.self.now _ c.requires.outside c.in-Done.ensures.found, refl, record { heap = c.enter_once.ensures.same; leaves = c.enter_once.ensures.leaves; world = refl; name_is = refl; stops = refl; search = record { paid_is = refl; block = refl; seen = refl }; cycle = cycle-kept c.args.self.now _ refl }) }

pub returns-in_default : goal.returns-in_default
returns-in_default c =
    record {
      entered =
          enters-out c.enter_once.result c.deref.result.now c.args.self.now _ c.in_default.not-Done c.enter_once.ensures.arrives c.enter_once.ensures.found c.requires.outside c.requires.outside (record { heap = c.enter_once.ensures.same; leaves = c.enter_once.ensures.leaves; world = refl; name_is = refl; stops = refl; search = record { paid_is = refl; block = refl; seen = refl }; cycle = cycle-kept c.args.self.now _ refl });
    }
