use Rattle.std.proofs.Common.{refl, get_or}
use Rattle.heap_dump.specs.Reading.{heap_of_dump}
use Rattle.heap_dump.specs.Final.{object}
use Rattle.dump_census.proofs.Rounding.{from_more, long_stays_all}
use Rattle.dump_census.proofs.search.Search.reach_from.Goals as goal

pub loop-k-preserved : goal.loop-k-preserved
loop-k-preserved c = (
  from_more (heap_of_dump c.args.dump.now) c.args.level c.args.self.now c.loop-k.self c.reach_record.new.self c.args.records.now c.loop-k.k-index _ c.loop-k-test.true refl c.loop-k.invariant.0 c.in-Ok.ensures,
  long_stays_all c.args.level c.loop-k.self c.reach_record.new.self (object (heap_of_dump c.args.dump.now) (get_or c.args.records.now c.loop-k.k-index 0)).refs _ c.in-Ok.ensures c.loop-k.invariant.1,
)
