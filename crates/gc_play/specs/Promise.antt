-- What all commands share: the words that ask for one, the bytes that it takes, and what is written by its status.
use Rattle.std.specs.Prelude.{ℕ, ◌≡◌, ◌≤◌, ◌⊎◌, List, Bool, true, false, Option, Some, IfSome, Result, Ok, Err}
use Rattle.std.specs.Io.{StartsWith}
use Rattle.std.specs.Io.KnownBytes.{Appends, append_known}
use Rattle.gc_script.specs.Faults.{Fault}
use Rattle.gc_script.specs.Script.{Script, script}
use Rattle.play_report.specs.Causes.{AppendsPrefix}
use Rattle.play_report.specs.Text.{fault_text}
use Rattle.gc_play.specs.declared.source.TheConstants.{SCRIPT, SCHEDULE, DUMP, BATCH}
use Rattle.command_words.specs.Words.{Command, Run, Convert, Schedule, Dump, Undump, Census, Batch, command}

-- the command that these words ask for, if they ask for one
abbrev pub wanted : List (List ℕ) → Option Command
wanted words = command words

-- some text was written, for which P holds
abbrev pub WritesSome : Option (List ℕ) → Option (List ℕ) → (List ℕ → Type 0) → Type 0
WritesSome old new P = (text : List ℕ) × P text × Appends old new text

-- a text is of some bytes, which are those that the source tells if it tells them
abbrev pub FromSource : (List ℕ → List ℕ → Type 0) → Option (List ℕ) → List ℕ → Type 0
FromSource IsText left text = (bytes : List ℕ) × IfSome left (λ told. told ≡ bytes) × IsText bytes text

-- a text may be written with a status, of some bytes, which are those that the source tells if it tells them
abbrev pub OfSource : (List ℕ → ℕ → List ℕ → Type 0) → Option (List ℕ) → ℕ → List ℕ → Type 0
OfSource Answers left status text = FromSource (λ bytes. Answers bytes status) left text

-- of what was read, or of its fault, which has status 2
abbrev pub OfRead : {X : Type 0} → (X → ℕ → List ℕ → Type 0) → Result X Fault → ℕ → List ℕ → Type 0
OfRead Answers (Err fault) status text = (status ≡ 2) × (text ≡ fault_text fault)
OfRead Answers (Ok x) status text = Answers x status text

-- of the script in these bytes, or of its fault
abbrev pub OfScript : (Script → ℕ → List ℕ → Type 0) → List ℕ → ℕ → List ℕ → Type 0
OfScript Answers bytes status text = OfRead Answers (script bytes) status text

-- the statuses with which a whole text is written
abbrev pub HasItsText : ℕ → Type 0
HasItsText status = (status ≤ 3) ⊎ (status ≡ 7)

-- a prefix of some text was written, for which P holds
abbrev pub WritesFront : Option (List ℕ) → Option (List ℕ) → (List ℕ → Type 0) → Type 0
WritesFront old new P = (text : List ℕ) × P text × AppendsPrefix old new text

-- what was written; `Answers` says which texts a status may have: such a text whole, or with status 5 a prefix of one
pub record Wrote (Answers : ℕ → List ℕ → Type 0) (status : ℕ) (old new : Option (List ℕ)) : Type 0 where
  pub whole : HasItsText status → WritesSome old new (Answers status)
  pub front : status ≡ 5 → WritesFront old new (λ text. (s : ℕ) × Answers s text)

-- of what the sink had and some text, for which P holds, it has a prefix
abbrev pub HasPrefix : Option (List ℕ) → Option (List ℕ) → (List ℕ → Type 0) → Type 0
HasPrefix old new P = (text : List ℕ) × P text × IfSome (append_known old text) (λ all. IfSome new (λ handed. StartsWith all handed))

-- whether the source is read
abbrev pub reads_source : Option Command → Bool
reads_source (Some (Run options)) = true
reads_source (Some Convert) = true
reads_source (Some Schedule) = true
reads_source (Some (Dump options)) = true
reads_source (Some Undump) = true
reads_source (Some Census) = true
reads_source (Some (Batch options runners)) = true
reads_source other = false

-- as many bytes of the source as decide: one more than the longest input of the command
abbrev pub enough_for : Option Command → ℕ
enough_for (Some Schedule) = SCHEDULE
enough_for (Some Undump) = DUMP
enough_for (Some Census) = DUMP
enough_for (Some (Batch options runners)) = BATCH
enough_for other = SCRIPT
