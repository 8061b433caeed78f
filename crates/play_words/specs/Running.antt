-- What `run` writes of a script that is played.
use Rattle.std.specs.Prelude.{ℕ, List}
use Rattle.plain_heap.specs.Sections.{Sections}
use Rattle.gc_script.specs.Meaning.{Means}
use Rattle.play_report.specs.Text.{IsReportText, IsFullText}
use Rattle.command_words.specs.Words.{Options}

-- with status 0: what the bytes mean is played in this many cells, and reported, with the cells of its objects if the options ask for them
pub record IsRunText (o : Options) (bytes text : List ℕ) : Type 0 where
  pub sections : Sections
  pub meant : Means bytes sections
  pub report : IsReportText sections o.cells o.place text

-- with status 3: this many cells were too few for what the bytes mean
pub record IsRunFull (o : Options) (bytes text : List ℕ) : Type 0 where
  pub sections : Sections
  pub meant : Means bytes sections
  pub full : IsFullText sections o.cells text
