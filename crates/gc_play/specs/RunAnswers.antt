-- What `run` writes, by its status: of a script that has no fault a report or how far it came, and else the fault.
use Rattle.std.specs.Prelude.{ℕ, ◌≡◌, ◌⊎◌, List}
use Rattle.gc_script.specs.Script.{Script}
use Rattle.play_report.specs.Text.{IsReportText, IsFullText, usage_text}
use Rattle.command_words.specs.Words.{Options}
use Rattle.gc_play.specs.Promise.{OfScript}

-- a script is played: it is done, or this many cells were too few
abbrev pub PlaysTo : Options → Script → ℕ → List ℕ → Type 0
PlaysTo o s status text = ((status ≡ 0) × IsReportText s.sections o.cells o.place text) ⊎ ((status ≡ 3) × IsFullText s.sections o.cells text)

-- `run`, of these bytes
abbrev pub IsRunAnswer : Options → List ℕ → ℕ → List ℕ → Type 0
IsRunAnswer o bytes status text = OfScript (PlaysTo o) bytes status text

-- nothing is asked for
abbrev pub IsUsageAnswer : ℕ → List ℕ → Type 0
IsUsageAnswer status text = (status ≡ 1) × (text ≡ usage_text)
