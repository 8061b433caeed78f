use Rattle.std.proofs.Common.{refl}
use Rattle.seat_steps.proofs.Answered.{cycle-kept, makes-out}
use Rattle.seat_steps.proofs.stepper.Stepper.make_inside.Goals as goal

pub returns-in_default-clause-makes : goal.returns-in_default-clause-makes
returns-in_default-clause-makes c =
    let m = c.make_once.ensures in
    makes-out c.make_once.result _ _ c.args.self.now _ c.in_default.not-Done c.in_default.not-NoCell m.makes m.found c.requires.inside refl
    (λ same. record { heap = same; leaves = m.leaves c.in_default.not-Done; world = refl; name_is = refl; stops = refl; cycle = cycle-kept c.args.self.now _ refl })
    (record { block = refl; seen = refl })
