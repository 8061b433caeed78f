-- A script: its version and its sections, or its first fault.
use Rattle.std.specs.Prelude.{ℕ, ◌≡◌, ◌+◌, ◌*◌, List, [], ◌∷◌, length, Bool, true, false, nat_lt, if◌then◌else◌, Option, Some, None, Result, Ok, Err, is_some, map}
use Rattle.plain_heap.specs.Sections.{Sections}
use Rattle.gc_script.specs.ScriptText.{first_foreign, lines, words}
use Rattle.gc_script.specs.Statement.{Spoken, Statement, Catalogue, Warehouse, Repeat, End, Command, statement, header}
use Rattle.gc_script.specs.Earlier.{open_repeat, catalogue_names, is_printing}
use Rattle.gc_script.specs.Faults.{Fault, NotAscii, BadHeader, TooManyCommands, TooManyLines, TooLong, first_fault}
use Rattle.gc_script.specs.Meaning.{Means}
pub use Rattle.gc_script.specs.Meaning.{operation, label_of, execution, repeated, repetitions, pending, executed, ended_parts, parts_of_open_section, if_warehouse, if_catalogue, closed_warehouses, closed_catalogue, sections, turned}

-- the version that the header names, and what the script means
pub record Script : Type 0 where
  pub version : ℕ
  pub sections : Sections

-- one, if the test holds
abbrev pub one_if : Bool → ℕ
one_if test = if test then 1 else 0

-- how many commands that pass a test stand since the `repeat` that is open
abbrev pub pending_count : (Spoken → Bool) → List Statement → ℕ
pending_count test [] = 0
pending_count test (Catalogue ∷ earlier) = 0
pending_count test (Warehouse ∷ earlier) = 0
pending_count test (Repeat n ∷ earlier) = 0
pending_count test (End ∷ earlier) = 0
pending_count test (Command spoken ∷ earlier) = pending_count test earlier + one_if (test spoken)
pending_count test (statement ∷ earlier) = pending_count test earlier

-- how many commands that pass a test are executed, over all sections
abbrev pub executed_count : (Spoken → Bool) → List Statement → ℕ
executed_count test [] = 0
executed_count test (End ∷ earlier) = executed_count test earlier + repetitions (open_repeat earlier) * pending_count test earlier
executed_count test (Command spoken ∷ earlier) = executed_count test earlier + (if is_some (open_repeat earlier) then 0 else one_if (test spoken))
executed_count test (statement ∷ earlier) = executed_count test earlier

-- the sections, if not too many commands are executed and not too many print
abbrev pub limited : Bool → Bool → ℕ → List (List ℕ) → List Statement → Result Script Fault
limited true too_many_lines version catalogue all = Err TooManyCommands
limited false true version catalogue all = Err TooManyLines
limited false false version catalogue all = Ok (record { version = version; sections = sections version catalogue all })

-- the sections, if no line has a fault
abbrev pub judged : Option Fault → ℕ → List (List ℕ) → List Statement → Result Script Fault
judged (Some fault) version catalogue all = Err fault
judged None version catalogue all =
    limited (nat_lt 2000000 (executed_count (λ spoken. true) all)) (nat_lt 65536 (executed_count is_printing all)) version catalogue all

-- the lines after the header
abbrev pub body : ℕ → List Statement → Result Script Fault
body version all = judged (first_fault version (catalogue_names all) [] all) version (catalogue_names all) (turned [] all)

-- the header has to name a version
abbrev pub of_version : Option ℕ → List (List (List ℕ)) → Result Script Fault
of_version None others = Err BadHeader
of_version (Some version) others = body version (map statement others)

-- the first line is the header
abbrev pub of_lines : List (List (List ℕ)) → Result Script Fault
of_lines [] = Err BadHeader
of_lines (first ∷ others) = of_version (header first) others

-- no byte is one that a script may not have
abbrev pub of_text : Option ℕ → List ℕ → Result Script Fault
of_text (Some offset) bytes = Err (NotAscii offset)
of_text None bytes = of_lines (map words (lines bytes))

-- what the bytes are: a script, or its one fault
abbrev pub script : List ℕ → Result Script Fault
script bytes = if nat_lt 1048576 (length bytes) then Err TooLong else of_text (first_foreign bytes) bytes

-- a script means its sections
abbrev pub ScriptsMean : Type 0
ScriptsMean = (bytes : List ℕ) (s : Script) → script bytes ≡ Ok s → Means bytes s.sections
