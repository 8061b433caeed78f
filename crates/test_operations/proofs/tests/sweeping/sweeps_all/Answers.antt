use Rattle.std.proofs.Common.{sym, subst}
use Rattle.mark_core.specs.Layout.{block_count}
use Rattle.mark_core.specs.Places.{the_next_block}
use Rattle.mark_core.specs.declared.kinds.Phase.TheVariants.{Sweep}
use Rattle.mark_core.specs.declared.kinds.Shape.{Shape}
use Rattle.gc_table.specs.Running.{AtLeast}
use Rattle.gc_table.specs.Seats.{view_of}
use Rattle.gc_table.specs.declared.view.View.{View}
use Rattle.gc_table.proofs.Noticing.{alone-kept}
use Rattle.sweeper.specs.Sweepers.{is_sweeping}
use Rattle.sweeper.proofs.Sweepers.{sweeping-stays}
use Rattle.test_operations.proofs.tests.sweeping.sweeps_all.Goals as goal

pub end_sweep-requires-clause-over : goal.end_sweep-requires-clause-over
end_sweep-requires-clause-over c =
    let v : View = view_of c.sweeps-second.new.seat in
    let w : View = view_of c.sweep_rest-rest.new.seat in
    let e = c.sweep_rest-rest.ensures in
    record {
      alone = alone-kept Sweep is_sweeping sweeping-stays v w e.ran e.only c.sweeps-second.ensures.2;
      free = e.seat.1.free;
      end = subst (λ (sh : Shape). AtLeast w the_next_block (block_count sh)) (sym e.seat.0.1) e.end;
    }
