use Rattle.std.proofs.Common.{refl}
use Rattle.gc_table.specs.Seats.{view_of}
use Rattle.gc_table.proofs.Running.{ran-found}
use Rattle.managed_heap.proofs.lending.read_named.Goals as goal

pub returns-clause-ran : goal.returns-clause-ran
returns-clause-ran c = ran-found (view_of c.args.seat.now) (view_of c.read_stat.new.seat) _ c.read_stat.result refl c.read_stat.ensures.view
