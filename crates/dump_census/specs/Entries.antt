-- What a census reads of a record.
use Rattle.std.specs.Prelude.{ℕ, List, count_by, sum_by, ◌==◌, if◌then◌else◌}
use Rattle.heap_dump.specs.Final.{Object}
use Rattle.dump_census.specs.declared.counts.SectionCount.{SectionCount}
use Rattle.dump_census.specs.declared.entries.Entry.{Entry}

-- the section and the value of an object
abbrev pub entry_of : Object → Entry
entry_of o = record { section = o.section; value = o.value }

-- how many of these are of a section, and the sum of their values
abbrev pub entry_count : List Entry → ℕ → SectionCount
entry_count entries w = record {
  count = count_by (λ (e : Entry). e.section == w) entries;
  total = sum_by (λ (e : Entry). if e.section == w then e.value else 0) entries;
}
