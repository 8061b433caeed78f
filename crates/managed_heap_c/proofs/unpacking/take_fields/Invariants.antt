use Rattle.std.proofs.Common.{◌≡◌}
use Rattle.seat_steps.specs.Stepping.{fields_in}
use Rattle.seat_steps.specs.declared.stepper.Stage.TheVariants.{Inside}
use Rattle.managed_heap_c.specs.Looking.{TakesFirst}
use Rattle.managed_heap_c.proofs.unpacking.take_fields.Given as goal

abbrev pub invariant-loop-i : goal.invariant-loop-i
invariant-loop-i l = record {
  inside : l.stepper.stage ≡ Inside;
  fields : fields_in l.stepper ≡ fields_in l.fn.stepper;
  takes : TakesFirst l.i l.fn.v l.fn.first l.fn.stepper l.stepper;
}
