use Rattle.mark_core.specs.declared.kinds.Phase.TheVariants.{Drain, Sweep}
use Rattle.gc_table.specs.Seats.{view_of}
use Rattle.gc_table.specs.declared.view.View.{View}
use Rattle.gc_cycle.proofs.Exactly.{exact-move}
use Rattle.gc_cycle.proofs.Parts.{move-finishes}
use Rattle.gc_cycle.proofs.Ends.Spared.{finish-keeps}
use Rattle.gc_cycle.proofs.Stepped.{owner-kept}
use Rattle.gc_cycle.proofs.sweep_steps.start_sweep.Goals as goal

pub returns : goal.returns
returns c =
    let v : View = view_of c.args.seat.now in
    let w : View = view_of c.begin_sweep.new.seat in
    let m = c.begin_sweep.ensures.moved in
    let f = move-finishes Drain Sweep v w m in
    record {
      seat = c.begin_sweep.ensures.seat;
      moved = m;
      sweeps = record { owner = owner-kept v w m.ran f c.requires.drained.owner; alone = m.alone };
      exact = λ u k. exact-move Drain Sweep u v w m k;
      keeps = finish-keeps v w m.ran f;
    }
