use Rattle.std.proofs.Common.{refl}
use Rattle.seat_steps.proofs.Answered.{cycle-kept, passes-out}
use Rattle.seat_steps.proofs.stepper.Stepper.pass_inside.Goals as goal

pub returns-in_default : goal.returns-in_default
returns-in_default c =
    record {
      passed =
          passes-out c.pass_once.result c.deref.result.now c.args.self.now _ c.in_default.not-Done c.pass_once.ensures.arrives c.pass_once.ensures.found c.requires.inside refl (record { heap = c.pass_once.ensures.same; leaves = c.pass_once.ensures.leaves; world = refl; name_is = refl; stops = refl; search = record { paid_is = refl; block = refl; seen = refl }; cycle = cycle-kept c.args.self.now _ refl });
    }
