use Rattle.std.proofs.lemmas.Bool.{OnTrue_at}
use Rattle.managed_heap_c.proofs.Made.{made-none, made-sets}
use Rattle.managed_heap_c.proofs.making.make_with_in.Goals as goal

pub returns-in-Done : goal.returns-in-Done
returns-in-Done c =
    record {
      makes = (
        OnTrue_at c.if-not-can_make_with.false c.can_make_with.ensures.can,
        made-sets c.args.v c.args.value c.args.fields.now c.args.stepper.now c.make.new.self c.set_all.new.stepper c.in-Done.ensures.makes c.set_all.ensures.sets,
      );
    }

pub returns-in_default : goal.returns-in_default
returns-in_default c =
    record {
      makes = made-none c.make.result c.args.v c.args.value c.args.fields.now c.args.stepper.now c.make.new.self c.in_default.not-Done c.ranges.value.fits (OnTrue_at c.if-not-can_make_with.false c.can_make_with.ensures.can) c.make.ensures.makes;
    }
