-- What `load` writes, by its status.
use Rattle.std.specs.Prelude.{ℕ, ◌≡◌, ◌⊎◌, List, Result, Ok, Err}
use Rattle.gc_script.specs.Faults.{Fault}
use Rattle.gc_script.specs.Script.{Script, script}
use Rattle.load_gen.specs.Generated.{generated}
use Rattle.play_report.specs.Text.{IsFullText, IsLoadText}
use Rattle.command_words.specs.Words.{Options}

-- a script is played, and told in five lines, or this many cells were too few
abbrev pub LoadsTo : Options → Result Script Fault → ℕ → List ℕ → Type 0
LoadsTo o (Err fault) status text = ⊥
LoadsTo o (Ok s) status text = ((status ≡ 0) × IsLoadText s.sections text) ⊎ ((status ≡ 3) × IsFullText s.sections o.cells text)

-- `load`, of the script that is made
abbrev pub IsLoadAnswer : Options → ℕ → ℕ → ℕ → List ℕ → Type 0
IsLoadAnswer o number size status text = LoadsTo o (script (generated number size)) status text
