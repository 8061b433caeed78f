use Rattle.std.proofs.Common.{take}
use Rattle.dump_census.specs.Values.{AreValueCounts}
use Rattle.dump_census.proofs.values.count_sorted.Given as goal

abbrev pub invariant-loop-value : goal.invariant-loop-value
invariant-loop-value l = AreValueCounts (take l.value-index l.values) l.counts.items
