use Rattle.std.proofs.Common.{ℕ, ◌+◌, arith, refl}
use Rattle.mark_core.specs.declared.kinds.Step.TheVariants.{LeaveStep, ReadPhase}
use Rattle.gc_table.specs.Seats.{view_of}
use Rattle.gc_table.specs.declared.view.View.{View}
use Rattle.gc_table.proofs.Running.{ran-answered, ran-join}
use Rattle.mutator_ops.proofs.Few.{at-most-after, at-most-join}
use Rattle.seat_turns.specs.Tracing.{marking_steps}
use Rattle.seat_turns.proofs.Tallying.{tallies-found, tallies-join}
use Rattle.seat_turns.proofs.tracer_turn.go_round.Goals as goal

pub returns-clause-rounds : goal.returns-clause-rounds
returns-clause-rounds c =
    record {
      read = view_of c.see_phase-phase.new.seat;
      sees = c.see_phase-phase.ensures.sees;
      marked = view_of c.mark_in.new.seat;
      marks = c.mark_in.ensures.marks;
      leaves = c.goes_out.ensures.leaves;
    }

pub returns-clause-tally : goal.returns-clause-tally
returns-clause-tally c =
    let a = c.args.tally.now in
    let b = c.mark_in.new.tally in
    let v = view_of c.args.seat.now in
    let u = view_of c.see_phase-phase.new.seat in
    let x = view_of c.mark_in.new.seat in
    let w = view_of c.goes_out.new.seat in
    let sees = c.see_phase-phase.ensures.sees in
    let leaves = c.goes_out.ensures.leaves in
    tallies-join a a b v u w (tallies-found a v u ReadPhase sees.0 refl (ran-answered v u ReadPhase _ refl sees) sees.1)
    (tallies-join a b b u x w c.mark_in.ensures.tally (tallies-found b x w LeaveStep leaves.0 refl c.goes_out.ensures.ran leaves.1.0))

pub returns-clause-few : goal.returns-clause-few
returns-clause-few c =
    let v : View = view_of c.args.seat.now in
    let u : View = view_of c.see_phase-phase.new.seat in
    let x : View = view_of c.mark_in.new.seat in
    let w : View = view_of c.goes_out.new.seat in
    let most : ℕ = marking_steps c.see_phase-phase.result c.args.heap.now.shape in
    let sees = c.see_phase-phase.ensures.sees in
    let m = c.mark_in.ensures in
    let out = c.goes_out.ensures in
    let later = at-most-join most 1 u x w m.tally.ran out.ran m.few (at-most-after x w LeaveStep out.leaves.0 out.leaves.1.0) in
    let all = at-most-join 1 (most + 1) v u w (ran-answered v u ReadPhase _ refl sees) (ran-join u x w m.tally.ran out.ran) (at-most-after v u ReadPhase sees.0 sees.1) later in
    omega (arith, all)
