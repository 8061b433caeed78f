-- What `undump` writes, by its status.
use Rattle.std.specs.Prelude.{ℕ, ◌≡◌, List}
use Rattle.heap_dump.specs.Final.{DumpedHeap}
use Rattle.heap_dump.specs.Reading.{first_dump_fault}
use Rattle.heap_dump.specs.Text.{undump_text}
use Rattle.play_words.specs.DumpReading.{OfDump}

-- the records of a heap
abbrev pub IsUndumpText : DumpedHeap → List ℕ → Type 0
IsUndumpText h text = text ≡ undump_text h

-- `undump`, of these bytes
abbrev pub IsUndumpAnswer : List ℕ → ℕ → List ℕ → Type 0
IsUndumpAnswer bytes status text = OfDump IsUndumpText bytes (first_dump_fault bytes) status text
