-- The census of a dump.
use Rattle.std.specs.Prelude.{ℕ, suc, ◌≡◌, List, [], ◌∷◌, map, Option, Some, None, max, count_by, sum_by, ◌==◌, if◌then◌else◌}
use Rattle.std.specs.List.{range_with_len}
use Rattle.heap_dump.specs.Final.{DumpedHeap, Object}
use Rattle.dump_census.specs.Levels.{AreLevels}
use Rattle.dump_census.specs.Rounds.{is_at, is_unknown}
use Rattle.dump_census.specs.Values.{AreValueCounts}
use Rattle.dump_census.specs.declared.counts.SectionCount.{SectionCount}
use Rattle.dump_census.specs.declared.counts.ValueCount.{ValueCount}

-- what a census tells
pub record CensusCounts : Type 0 where
  pub levels : List ℕ
  pub unreached : ℕ
  pub sections : List SectionCount
  pub values : List ValueCount

-- one more than the greatest level; 0 of no level
abbrev pub depth : List (Option ℕ) → ℕ
depth [] = 0
depth (None ∷ levels) = depth levels
depth (Some n ∷ levels) = max (suc n) (depth levels)

-- how many records each level has, up to the greatest
abbrev pub level_counts : List (Option ℕ) → List ℕ
level_counts levels = map (λ n. count_by (is_at n) levels) (range_with_len 0 (depth levels))

-- how many records a section has, and the sum of their values
abbrev pub section_count : List Object → ℕ → SectionCount
section_count records w = record {
  count = count_by (λ (o : Object). o.section == w) records;
  total = sum_by (λ (o : Object). if o.section == w then o.value else 0) records;
}

-- the number of records of each level, of those without a level, of each section with the sum of their values, and of each value that occurs
pub record IsCensus (h : DumpedHeap) (c : CensusCounts) : Type 0 where
  pub of : List (Option ℕ)
  pub leveled : AreLevels h of
  pub levels : c.levels ≡ level_counts of
  pub unreached : c.unreached ≡ count_by is_unknown of
  pub sections : c.sections ≡ map (section_count h.records) (range_with_len 0 h.sections)
  pub values : AreValueCounts (map (λ (o : Object). o.value) h.records) c.values
