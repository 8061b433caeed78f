use Rattle.std.proofs.Common.{refl}
use Rattle.mark_core.specs.declared.kinds.Step.TheVariants.{PublishCells}
use Rattle.gc_table.specs.Seats.{view_of}
use Rattle.gc_table.proofs.Running.{ran-found}
use Rattle.alloc_cache.proofs.retiring.publish.Goals as goal

pub returns-clause-ran : goal.returns-clause-ran
returns-clause-ran c = ran-found (view_of c.args.seat.now) (view_of c.publish_cells.new.seat) PublishCells c.publish_cells.result refl c.publish_cells.ensures.view
