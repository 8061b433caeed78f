use Rattle.std.proofs.Common.{ℕ, arith, ◌≡◌, ◌≤◌, length, subst}
use Rattle.mark_core.specs.declared.kinds.Shape.{Shape}
use Rattle.gc_table.specs.Log.{events}
use Rattle.gc_table.specs.Seats.{view_of}
use Rattle.gc_table.specs.declared.view.View.{View}
use Rattle.tracer.specs.StepBounds.{trace_steps}
use Rattle.tracer.proofs.Few.{traces-fewer}
use Rattle.gc_cycle.specs.HelpTurns.{TracesAtMost, work_steps}
use Rattle.gc_cycle.proofs.help_turns.help_some.Goals as goal

-- fewer objects take fewer steps
traced-most : (objects stretches done : ℕ) (v w : View) (sh : Shape) → v.shape ≡ sh → TracesAtMost objects done v w → length (events v w) ≤ work_steps objects stretches sh
traced-most objects stretches done v w sh e t =
    let few = subst (λ (x : Shape). length (events v w) ≤ trace_steps done x) e t.few in
    let more = traces-fewer done objects sh t.within in
    omega (arith, few, more)

pub returns-in-Some-Drain-clause-few : goal.returns-in-Some-Drain-clause-few
returns-in-Some-Drain-clause-few c =
    traced-most c.args.objects c.args.stretches c.trace_helping.result (view_of c.args.seat.now) (view_of c.trace_helping.new.seat) c.args.heap.now.shape c.requires.seat.0.1 c.trace_helping.ensures.traces
