use Rattle.std.proofs.Common.{◌≡◌, map}
use Rattle.std.specs.List.{range_with_len}
use Rattle.dump_census.specs.Entries.{entry_count}
use Rattle.dump_census.proofs.sections.count_sections.Given as goal

abbrev pub invariant-loop-w : goal.invariant-loop-w
invariant-loop-w g l = l.counts.items ≡ map (entry_count l.entries) (range_with_len 0 l.w)
