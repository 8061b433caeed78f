-- What the reader answers, line by line.
use Rattle.std.specs.Borrow.{Bor}
use Rattle.std.specs.Prelude.{ℕ, ◌≡◌, List, [], Option, Some, None, Result, Ok, Err}
use Rattle.gc_script.specs.Statement.{Statement}
use Rattle.gc_script.specs.Earlier.{catalogue_names}
use Rattle.gc_script.specs.Faults.{Fault, first_fault, end_fault}
use Rattle.gc_script.specs.Context.{Context, context_of, context_after, fault_in, IsClear, AreClear, IsCatalogueKnown, IsSane}
use Rattle.gc_script.specs.Content.{Content, content_of, content_after, kept_shown}
use Rattle.gc_script.specs.Kept.{context_shown}
use Rattle.gc_script.specs.Script.{turned}
use Rattle.gc_script.specs.Shown.{fault_of}
use Rattle.gc_script.specs.declared.script.ScriptError.{ScriptError}
use Rattle.gc_script.specs.declared.progress.Progress.{Progress}

-- an error tells this fault, or that memory ran out
abbrev pub is_told : Option Fault → Option Fault → Type 0
is_told None fault = Unit {0}
is_told (Some told) fault = fault ≡ Some told

-- the error tells the fault, or that memory ran out
abbrev pub TellsFault : ScriptError → Option Fault → Type 0
TellsFault e fault = is_told (fault_of e) fault

-- a line was taken
pub record IsTaken (c : Context) (content : Content) (s : Statement) (p : Progress) : Type 0 where
  pub clear : IsClear c s
  pub context : context_shown p.context ≡ context_after c s
  pub kept : kept_shown p.kept ≡ content_after c content s

-- what became of a line
abbrev pub LineAnswers : Result (Unit {0}) ScriptError → Context → Content → Statement → Progress → Type 0
LineAnswers (Ok u) c content s p = IsTaken c content s p
LineAnswers (Err e) c content s p = TellsFault e (fault_in c s)

-- what became of a text's first line, and what follows it
abbrev pub FirstAnswers : Result (Bor (List ℕ)) ScriptError → Context → Content → Statement → Progress → List ℕ → Type 0
FirstAnswers (Ok rest) c content s p after = IsTaken c content s p × (rest.now ≡ after)
FirstAnswers (Err e) c content s p after = TellsFault e (fault_in c s)

-- the progress is that of these lines, latest first
pub record Shows (version : ℕ) (catalogue : List (List ℕ)) (earlier : List Statement) (p : Progress) : Type 0 where
  pub clear : AreClear version earlier
  pub sane : IsSane (context_of version earlier)
  pub context : context_shown p.context ≡ context_of version earlier
  pub kept : kept_shown p.kept ≡ content_of catalogue earlier

-- the lines were read to their end
pub record AreRead (version : ℕ) (all : List Statement) (p : Progress) : Type 0 where
  pub fault : first_fault version (catalogue_names all) [] all ≡ end_fault version (turned [] all)
  pub shows : Shows version (catalogue_names all) (turned [] all) p
  pub names : IsCatalogueKnown (catalogue_names all) (turned [] all)

-- what reading all lines after the header answers: they were read to their end, or the error tells their first fault
abbrev pub BodyAnswers : Result Progress ScriptError → ℕ → List Statement → Type 0
BodyAnswers (Ok p) version all = AreRead version all p
BodyAnswers (Err e) version all = TellsFault e (first_fault version (catalogue_names all) [] all)
