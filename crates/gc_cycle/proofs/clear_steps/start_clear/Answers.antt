use Rattle.mark_core.specs.declared.kinds.Phase.TheVariants.{Clear, Drain}
use Rattle.gc_table.specs.Seats.{view_of}
use Rattle.gc_table.specs.declared.view.View.{View}
use Rattle.gc_cycle.proofs.Ends.Spared.{finish-keeps}
use Rattle.gc_cycle.proofs.Parts.{move-finishes}
use Rattle.gc_cycle.proofs.Stepped.{owner-kept}
use Rattle.gc_cycle.proofs.clear_steps.start_clear.Goals as goal

pub returns : goal.returns
returns c =
    let v : View = view_of c.args.seat.now in
    let w : View = view_of c.begin_clear.new.seat in
    let m = c.begin_clear.ensures.moved in
    let f = move-finishes Drain Clear v w m in
    record {
      seat = c.begin_clear.ensures.seat;
      moved = m;
      clears = record { owner = owner-kept v w m.ran f c.requires.drained.owner; alone = m.alone };
      keeps = finish-keeps v w m.ran f;
    }
