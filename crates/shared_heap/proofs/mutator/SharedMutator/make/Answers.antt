use Rattle.std.proofs.Common.{rules, ◌<◌, ◌∙◌, arith, subst, sym}
use Rattle.std.specs.Arc.{arc_value}
use Rattle.mark_core.specs.Steps.MutatorSteps.{seat_variable as word_in}
use Rattle.gc_table.specs.Seats.{state_of}
use Rattle.gc_table.specs.declared.seat.Heap.{Heap}
use Rattle.seat_steps.proofs.Places.{made-some}
use Rattle.seat_turns.specs.Standing.{HoldsTurn}
use Rattle.shared_heap.proofs.Passed.{inside_out, so-stands}
use Rattle.shared_heap.proofs.mutator.SharedMutator.make.Goals as goal

pub overflow_sub-result : goal.overflow_sub-result
overflow_sub-result g c =
    let m = c.args.self.now in
    let some : 0 < word_in (state_of c.make.new.seat) c.args.v = made-some (arc_value m.heap) m.seat c.make.new.seat c.args.v c.args.value (m.inside c.in-Inside.is).holds.sits (omega (arith, c.if-v-ge-VARIABLES.false)) c.in-Ok.ensures.ok.1 in
    omega (arith, some, c.word_of.ensures)

pub returns-in-Ok-clause-place : goal.returns-in-Ok-clause-place
returns-in-Ok-clause-place g c =
    let m = c.args.self.now in
    let some : 0 < word_in (state_of c.make.new.seat) c.args.v = made-some (arc_value m.heap) m.seat c.make.new.seat c.args.v c.args.value (m.inside c.in-Inside.is).holds.sits (omega (arith, c.if-v-ge-VARIABLES.false)) c.in-Ok.ensures.ok.1 in
    omega (arith, some, c.word_of.ensures)

pub invariant_of-self-in-OutOfRange-1 : goal.invariant_of-self-in-OutOfRange-1
invariant_of-self-in-OutOfRange-1 g c = record { shared = c.args.self.now.shared; outside = λ e. absurd (inside_out (sym c.in-Inside.is ∙ e)); inside = λ _. subst (λ (h : Heap). HoldsTurn h c.make.new.seat) c.deref.ensures (so-stands c.in-Err.other _ c.make.new.seat (search rules) c.in-Err.ensures.err) }
