use Rattle.std.proofs.Common.{◌∙◌}
use Rattle.gc_table.specs.Seats.{view_of}
use Rattle.gc_table.specs.declared.view.View.{View}
use Rattle.gc_table.proofs.Running.{ran-join}
use Rattle.mutator_ops.proofs.Few.{at-most-join}
use Rattle.seat_turns.specs.Standing.{flush_steps}
use Rattle.seat_turns.proofs.Leaving.{leaves-join}
use Rattle.seat_steps.proofs.Paced.{carries-flushed, carries-join}
use Rattle.seat_steps.proofs.tries.leave_hindered.Goals as goal

pub returns : goal.returns
returns c =
    let u : View = view_of c.args.seat.now in
    let v : View = view_of c.flush_turn.new.seat in
    let w : View = view_of c.leave_with.new.seat in
    let f = c.flush_turn.ensures in
    let l = c.leave_with.ensures in
    record {
      waits = l.waits;
      same = l.same ∙ f.same;
      leaves = leaves-join u v w f.leaves l.leaves;
      ran = ran-join u v w f.flushes.ran l.ran;
      full = λ k. l.full (f.full k);
      out = record { flushed = v; flushes = f.flushes; later = l.out };
      few = at-most-join (flush_steps u) 5 u v w f.flushes.ran l.ran f.few l.few;
      paces = carries-join u v w (carries-flushed u v f.flushes) l.paces;
    }
