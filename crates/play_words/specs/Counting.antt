-- What `census` writes, by its status.
use Rattle.std.specs.Prelude.{ℕ, ◌≡◌, List}
use Rattle.heap_dump.specs.Final.{DumpedHeap}
use Rattle.heap_dump.specs.Reading.{first_dump_fault}
use Rattle.dump_census.specs.Counted.{CensusCounts, IsCensus}
use Rattle.dump_census.specs.Text.{census_text}
use Rattle.play_words.specs.DumpReading.{OfDump}

-- the counts of a heap's records
pub record IsCensusText (h : DumpedHeap) (text : List ℕ) : Type 0 where
  pub counts : CensusCounts
  pub right : IsCensus h counts
  pub written : text ≡ census_text counts

-- the census of a heap
abbrev pub IsCountOf : DumpedHeap → ℕ → List ℕ → Type 0
IsCountOf h status text = (status ≡ 0) × IsCensusText h text

-- `census`, of these bytes
abbrev pub IsCensusAnswer : List ℕ → ℕ → List ℕ → Type 0
IsCensusAnswer bytes status text = OfDump IsCensusText bytes (first_dump_fault bytes) status text
