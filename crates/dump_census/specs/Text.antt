-- A census as a text.
use Rattle.std.specs.Prelude.{ℕ, List, ◌++◌, length, codes, decimal, flat_map}
use Rattle.play_report.specs.Text.{named_text, pair_text, numbered_texts}
use Rattle.dump_census.specs.declared.counts.SectionCount.{SectionCount}
use Rattle.dump_census.specs.declared.counts.ValueCount.{ValueCount}
use Rattle.dump_census.specs.Counted.{CensusCounts}

-- how many records section w has, and the sum of their values
unfoldable pub section_text : ℕ → SectionCount → List ℕ
section_text w s = codes "section " ++ decimal w ++ codes " " ++ decimal s.count ++ codes " " ++ decimal s.total ++ codes "\n"

-- how many records level n has
abbrev pub level_text : ℕ → ℕ → List ℕ
level_text n count = pair_text (codes "level ") n count

-- a value, and how many records have it
abbrev pub value_text : ValueCount → List ℕ
value_text v = pair_text (codes "value ") v.value v.count

-- how many levels there are and a line for each, how many records have none, a line for each section, and one for each value
abbrev pub census_text : CensusCounts → List ℕ
census_text c =
    named_text (codes "levels ") (length c.levels)
    ++ (numbered_texts level_text 0 c.levels
    ++ (named_text (codes "unreached ") c.unreached
    ++ (numbered_texts section_text 0 c.sections
    ++ flat_map value_text c.values)))
