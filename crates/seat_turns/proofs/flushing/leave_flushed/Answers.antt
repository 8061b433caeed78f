use Rattle.std.proofs.Common.{◌∙◌}
use Rattle.gc_table.specs.Seats.{view_of}
use Rattle.gc_table.specs.declared.view.View.{View}
use Rattle.mutator_ops.proofs.Few.{at-most-join}
use Rattle.seat_turns.specs.Standing.{flush_steps}
use Rattle.seat_turns.proofs.Leaving.{leaves-join}
use Rattle.seat_turns.proofs.flushing.leave_flushed.Goals as goal

pub flush_turn-requires : goal.flush_turn-requires
flush_turn-requires c = record { holds = c.requires.turn.holds }

pub leave_turn-requires : goal.leave_turn-requires
leave_turn-requires c = record { turn = c.flush_turn.ensures.turn c.requires.turn.phase }

pub returns : goal.returns
returns c =
    let u : View = view_of c.args.seat.now in
    let v : View = view_of c.flush_turn.new.seat in
    let w : View = view_of c.leave_turn.new.seat in
    let f = c.flush_turn.ensures in
    let l = c.leave_turn.ensures in
    record {
      waits = l.waits;
      same = l.same ∙ f.same;
      leaves = leaves-join u v w f.leaves l.leaves;
      out = record { flushed = v; flushes = f.flushes; later = l.out };
      few = at-most-join (flush_steps u) 5 u v w f.flushes.ran l.leaves.ran f.few l.few;
    }
