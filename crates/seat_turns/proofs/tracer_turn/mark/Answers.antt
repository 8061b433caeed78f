use Rattle.std.proofs.Common.{ℕ, ◌+◌, ◌%◌, ◌^◌, false, refl, subst, sym}
use Rattle.mark_core.specs.Numbers.{traced_count}
use Rattle.mark_core.specs.declared.kinds.Step.{Step}
use Rattle.mark_core.specs.declared.kinds.Step.TheVariants.{AddStat}
use Rattle.gc_table.specs.declared.view.View.{View}
use Rattle.gc_table.proofs.Running.{ran-took}
use Rattle.mutator_ops.proofs.Few.{at-most-after, at-most-join}
use Rattle.seat_turns.specs.StepBounds.{turn_steps}
use Rattle.seat_turns.proofs.Tending.{marks-tend}
use Rattle.seat_turns.specs.Tallying.{Tallies}
use Rattle.gc_table.specs.Seats.{view_of}
use Rattle.seat_turns.proofs.Visiting.{marked-tends, marked-traces}
use Rattle.seat_turns.proofs.Tallying.{tallies-marked}
use Rattle.seat_turns.proofs.tracer_turn.mark.Goals as goal

pub returns-clause-marks : goal.returns-clause-marks
returns-clause-marks c =
    let m = c.mark_some-traced.ensures.marks in
    let n = c.mark_some-traced.result in
    record {
      count = n;
      traced = m.between;
      traces = marked-traces n (view_of c.args.seat.now) m.between m.traces;
      tended = view_of c.mark_some-traced.new.seat;
      tends = marked-tends m.between (view_of c.mark_some-traced.new.seat) m.cards;
      passes = m.passes;
      tells = c.add_stat.ensures.view;
    }

pub returns-clause-tally : goal.returns-clause-tally
returns-clause-tally c =
    let v : View = view_of c.args.seat.now in
    let w : View = view_of c.add_stat.new.seat in
    subst (λ (n : ℕ). Tallies c.args.tally.now ((c.args.tally.now + n) % 2 ^ 64) v w) (sym c.from.ensures)
    (tallies-marked c.args.tally.now c.mark_some-traced.result v (view_of c.mark_some-traced.new.seat) w c.mark_some-traced.ensures.marks c.add_stat.ensures.view)

pub returns-clause-few : goal.returns-clause-few
returns-clause-few c =
    let v : View = view_of c.args.seat.now in
    let u : View = view_of c.mark_some-traced.new.seat in
    let w : View = view_of c.add_stat.new.seat in
    let n : ℕ = c.mark_some-traced.result in
    let m = c.mark_some-traced.ensures in
    let tells : Step = AddStat traced_count n false in
    let t = c.add_stat.ensures.view in
    at-most-join (turn_steps c.args.heap.now.shape) 1 v u w (marks-tend n v u m.marks).ran (ran-took u w tells refl t) m.few (at-most-after u w tells t.0 t.1.0)
