-- What `dump` writes, by its status.
use Rattle.std.specs.Prelude.{ℕ, ◌≡◌, ◌⊎◌, List}
use Rattle.plain_heap.specs.Sections.{Sections}
use Rattle.gc_script.specs.Script.{Script}
use Rattle.play_report.specs.Text.{IsFullText}
use Rattle.heap_dump.specs.Final.{DumpedHeap, HasDump}
use Rattle.heap_dump.specs.Spelling.{dump}
use Rattle.play_words.specs.Final.{IsFinalHeap}
use Rattle.command_words.specs.Words.{Options}
use Rattle.gc_play.specs.Promise.{OfScript}

-- the dump of the heap at the end of a play: the objects that are reachable then, with the references and variables of the plain heaps
pub record IsDumpText (s : Sections) (text : List ℕ) : Type 0 where
  pub heap : DumpedHeap
  pub final : IsFinalHeap s heap
  pub legal : HasDump heap
  pub written : text ≡ dump heap

-- a script was played to its end
abbrev pub IsEndAnswer : Script → ℕ → List ℕ → Type 0
IsEndAnswer s status text = (status ≡ 0) × IsDumpText s.sections text

-- a script is played: it is done, or this many cells were too few
abbrev pub EndsDoneOrFull : Options → Script → ℕ → List ℕ → Type 0
EndsDoneOrFull o s status text = IsEndAnswer s status text ⊎ ((status ≡ 3) × IsFullText s.sections o.cells text)

-- `dump`, of these bytes
abbrev pub IsDumpAnswer : Options → List ℕ → ℕ → List ℕ → Type 0
IsDumpAnswer o bytes status text = OfScript (EndsDoneOrFull o) bytes status text
