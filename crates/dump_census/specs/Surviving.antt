-- A dump of the objects that are reachable at the end of a play.
use Rattle.std.specs.Prelude.{ℕ, ◌≡◌, ◌<◌, List, length, map}
use Rattle.plain_heap.specs.PlainHeap.{Heap as Plain}
use Rattle.plain_heap.specs.Paths as plain
use Rattle.plain_heap.specs.Paths.{Name, Survivor, AreSurvivors}
use Rattle.heap_dump.specs.Final.{DumpedHeap, Object, object}
use Rattle.dump_census.specs.Levels.{VariableRefersTo, RecordRefersTo}
use Rattle.dump_census.specs.Counted.{CensusCounts, IsCensus}

-- a record of a dump as a survivor, apart from its references
abbrev pub survivor_of_record : Object → Survivor
survivor_of_record o = record { section = o.section; number = o.number; value = o.value }

-- the name of record k
abbrev pub name_of_record : DumpedHeap → ℕ → Name
name_of_record h k = record { section = (object h k).section; number = (object h k).number }

-- the records are the survivors, and variables and fields refer to records as those of the heaps do to objects
pub record TellsSurvivors (heaps : List Plain) (h : DumpedHeap) : Type 0 where
  pub survivors : AreSurvivors heaps (map survivor_of_record h.records)
  pub variables : (k : ℕ) → k < length h.records → plain.IsHeld heaps (name_of_record h k) → VariableRefersTo h k
  pub fields : (j k : ℕ) → j < length h.records → k < length h.records → plain.RefersTo heaps (name_of_record h j) (name_of_record h k) → RecordRefersTo h j k

-- in a dump of survivors each record is reached
abbrev pub SurvivorsAreReached : Type 0
SurvivorsAreReached = (heaps : List Plain) (h : DumpedHeap) (c : CensusCounts) → TellsSurvivors heaps h → IsCensus h c → c.unreached ≡ 0

-- a dump has one census
abbrev pub OneCensus : Type 0
OneCensus = (h : DumpedHeap) (c d : CensusCounts) → IsCensus h c → IsCensus h d → c ≡ d
