use Rattle.std.proofs.Common.{◌-◌, ◌∙◌, arith, refl, rules}
use Rattle.gc_table.specs.Seats.{view_of}
use Rattle.seat_steps.specs.contracts.stepper.Stepper.{the_type}
use Rattle.seat_steps.proofs.Answered.{collects-now, cycle-kept}
use Rattle.seat_steps.proofs.Few.{cleared-few}
use Rattle.seat_steps.proofs.stepper.Stepper.forget_slots.Goals.{then-from-to-via-then-from-to, then-from-to-via-else-from-to+then-to-shape}
use Rattle.seat_steps.proofs.stepper.Stepper.forget_slots.Goals as goal

pub returns-then-from-to : goal.returns-then-from-to
returns-then-from-to c =
    elim c.then-from-to.branch [
      | then-from-to-via-then-from-to k ↦ record { forgets = (λ r. omega (arith, r.0, k.if-from-to.true), k.self-is) }
      | then-from-to-via-else-from-to+then-to-shape k ↦ record { forgets = (search rules, k.self-is ∙ the_type.to_one _ c.args.self.now refl) }
    ]

pub returns-in-Inside : goal.returns-in-Inside
returns-in-Inside c =
    record {
      forgets = record {
        shared = search rules;
        in_range = (omega (arith, c.if-from-to.false), search rules);
        was = c.in-Inside.is;
        inside = c.in-Inside.is;
        acts = c.clear_slots_shared.ensures.takes;
        few = cleared-few c.args.from (c.args.to - c.args.from) (view_of c.args.self.now.seat) (view_of c.clear_slots_shared.new.seat) c.clear_slots_shared.ensures.takes;
        world = refl;
        name_is = refl;
        stops = refl;
        search = record { paid_is = refl; block = refl; seen = refl };
        cycle = cycle-kept c.args.self.now _ refl;
      };
    }

pub returns-in_default : goal.returns-in_default
returns-in_default c = record { forgets = (collects-now c.args.self.now.stage c.in_default.not-Outside c.in_default.not-Inside, the_type.to_one _ c.args.self.now refl) }
