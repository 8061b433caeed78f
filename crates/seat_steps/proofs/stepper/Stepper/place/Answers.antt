use Rattle.std.proofs.Common.{◌≡◌, ◌+◌, ◌-◌, arith}
use Rattle.std.specs.Arc.{arc_value}
use Rattle.mark_core.specs.Steps.MutatorSteps.{seat_variable as word_in}
use Rattle.gc_table.specs.Seats.{state_of}
use Rattle.seat_steps.proofs.Places.{seat-inside}
use Rattle.seat_steps.proofs.stepper.Stepper.place.Goals as goal

pub returns-else-word-eq0-clause-inside : goal.returns-else-word-eq0-clause-inside
returns-else-word-eq0-clause-inside c =
    let s = c.args.self.now in
    let at : word_in (state_of s.seat) c.args.v ≡ c.word_of-word.result - 1 + 1 = omega (arith, c.if-word-eq0.false, c.word_of-word.ensures) in
    seat-inside (arc_value s.heap) s.seat c.args.v (c.word_of-word.result - 1) (s.inside c.in-Inside.is).holds.sits (omega (arith, c.if-v-ge-VARIABLES.false)) at
