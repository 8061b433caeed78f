use Rattle.std.proofs.Common.{◌+◌, length}
use Rattle.std.specs.Prelude.{count_by}
use Rattle.heap_dump.specs.Reading.{heap_of_dump}
use Rattle.dump_census.specs.Rounds.{is_unknown, IsLeveling}
use Rattle.dump_census.proofs.levels.find_levels.Given as goal

abbrev pub invariant-rounds : goal.invariant-rounds
invariant-rounds l = IsLeveling (heap_of_dump l.dump) l.search l.counts.items

abbrev pub decreases-rounds : goal.decreases-rounds
decreases-rounds l = count_by is_unknown l.search.found + length l.search.fresh
