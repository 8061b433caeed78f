use Rattle.std.proofs.Common.{refl}
use Rattle.mark_core.specs.Numbers.{block_counter}
use Rattle.mark_core.specs.declared.kinds.Step.TheVariants.{ReadStat}
use Rattle.gc_table.specs.Seats.{view_of}
use Rattle.gc_table.specs.declared.view.View.{View}
use Rattle.gc_table.proofs.History.Log.{only-after}
use Rattle.gc_table.proofs.Running.{ran-found}
use Rattle.gc_cycle.specs.Mutating.{stays_calm}
use Rattle.gc_cycle.proofs.SectionKept.{goes-out}
use Rattle.gc_cycle.proofs.stopping.has_blocks_left.Goals as goal

pub returns-clause-out : goal.returns-clause-out
returns-clause-out c =
    let v : View = view_of c.args.seat.now in
    let w : View = view_of c.read_stat-next.new.seat in
    let e = c.read_stat-next.ensures.view in
    goes-out v w (ran-found v w (ReadStat block_counter) c.read_stat-next.result refl e) (only-after stays_calm v w (ReadStat block_counter) c.read_stat-next.result refl e.0)
