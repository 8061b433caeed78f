-- What a command that reads a dump writes, by its status.
use Rattle.std.specs.Prelude.{ℕ, ◌≡◌, List, Option, Some, None}
use Rattle.heap_dump.specs.Final.{DumpedHeap}
use Rattle.heap_dump.specs.Reading.{heap_of_dump}
use Rattle.heap_dump.specs.Text.{dump_fault_text}
use Rattle.heap_dump.specs.declared.fault.DumpError.{DumpError}

-- a text of the heap that is dumped, and its first fault has status 2
abbrev pub OfDump : (DumpedHeap → List ℕ → Type 0) → List ℕ → Option DumpError → ℕ → List ℕ → Type 0
OfDump IsText bytes (Some fault) status text = (status ≡ 2) × (text ≡ dump_fault_text fault)
OfDump IsText bytes None status text = (status ≡ 0) × IsText (heap_of_dump bytes) text
