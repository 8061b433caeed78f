use Rattle.std.proofs.Common.{◌≡◌}
use Rattle.seat_steps.specs.Stepping.{fields_in}
use Rattle.seat_steps.specs.declared.stepper.Stage.TheVariants.{Inside}
use Rattle.managed_heap_c.specs.Making.{SetsFirst}
use Rattle.managed_heap_c.proofs.making.set_all.Given as goal

abbrev pub invariant-loop-i : goal.invariant-loop-i
invariant-loop-i l = record {
  inside : l.stepper.stage ≡ Inside;
  fields : fields_in l.stepper ≡ fields_in l.fn.stepper;
  sets : SetsFirst l.i l.fn.v l.fn.fields l.fn.stepper l.stepper;
}
