use Rattle.std.proofs.Common.{◌≡◌, take, length}
use Rattle.heap_dump.specs.Reading.{heap_of_dump}
use Rattle.dump_census.specs.Rounds.{reach_from}
use Rattle.dump_census.proofs.search.Search.reach_from.Given as goal

abbrev pub invariant-loop-k : goal.invariant-loop-k
invariant-loop-k l = (l.self ≡ reach_from (heap_of_dump l.dump) l.level l.initial.self (take l.k-index l.records)) × (length l.self.found ≡ length (heap_of_dump l.dump).records)
