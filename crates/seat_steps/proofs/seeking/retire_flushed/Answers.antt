use Rattle.std.proofs.Common.{◌∙◌, ap}
use Rattle.mark_core.specs.declared.seat.SeatState.{SeatState}
use Rattle.gc_table.specs.Seats.{view_of}
use Rattle.gc_table.specs.declared.view.View.{View}
use Rattle.gc_table.proofs.Running.{ran-join}
use Rattle.gc_cycle.proofs.Refills.Answered.{cached-still}
use Rattle.mutator_ops.proofs.Few.{at-most-join}
use Rattle.seat_turns.specs.Standing.{flush_steps}
use Rattle.seat_turns.proofs.Leaving.{leaves-join}
use Rattle.seat_steps.proofs.Paced.{carries-flushed, carries-given, carries-join}
use Rattle.seat_steps.proofs.seeking.retire_flushed.Goals as goal

pub flush_turn-requires : goal.flush_turn-requires
flush_turn-requires c = record { holds = c.requires.turn.holds }

pub retire_some-requires : goal.retire_some-requires
retire_some-requires c =
    let f = c.flush_turn.ensures in
    record { works = f.works; cache = cached-still c.args.cache (view_of c.args.seat.now) (view_of c.flush_turn.new.seat) (ap (λ (s : SeatState). s.cache) f.flushes.state) c.requires.cache }

pub returns : goal.returns
returns c =
    let u : View = view_of c.args.seat.now in
    let v : View = view_of c.flush_turn.new.seat in
    let w : View = view_of c.retire_some.new.seat in
    let f = c.flush_turn.ensures in
    let r = c.retire_some.ensures in
    record {
      halts = r.halts;
      same = r.same ∙ f.same;
      leaves = leaves-join u v w f.leaves r.leaves;
      ran = ran-join u v w f.flushes.ran r.ran;
      few = at-most-join (flush_steps u) 3 u v w f.flushes.ran r.ran f.few r.few;
      paces = carries-join u v w (carries-flushed u v f.flushes) (carries-given c.args.cache v w (cached-still c.args.cache u v (ap (λ (s : SeatState). s.cache) f.flushes.state) c.requires.cache) r.halts.cache r.gives);
    }
