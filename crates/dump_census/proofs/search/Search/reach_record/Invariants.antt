use Rattle.std.proofs.Common.{◌≡◌, take, length}
use Rattle.heap_dump.specs.Final.{object}
use Rattle.heap_dump.specs.Reading.{heap_of_dump}
use Rattle.dump_census.specs.Rounds.{reach_all}
use Rattle.dump_census.proofs.search.Search.reach_record.Given as goal

abbrev pub invariant-loop-i : goal.invariant-loop-i
invariant-loop-i l = (l.self ≡ reach_all l.level l.initial.self (take l.i (object (heap_of_dump l.dump) l.k).refs)) × (length l.self.found ≡ length (heap_of_dump l.dump).records)
