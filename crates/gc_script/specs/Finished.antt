-- The script of lines that were read to their end.
use Rattle.std.specs.Prelude.{ℕ, ◌≡◌, List, map, nat_lt, if◌then◌else◌, Option, Some, None, unwrap_or, Result, Ok, Err}
use Rattle.plain_heap.specs.Sections.{Execution}
use Rattle.gc_script.specs.Faults.{Fault, TooManyCommands, TooManyLines}
use Rattle.gc_script.specs.Script.{Script}
use Rattle.gc_script.specs.Context.{Context, end_fault_in}
use Rattle.gc_script.specs.Content.{Content, close, end_part}
use Rattle.gc_script.specs.Blocks.{counts, part_shown}
use Rattle.gc_script.specs.Sectioned.{AreLegal, in_sections}
use Rattle.gc_script.specs.Shown.{fault_of}
use Rattle.gc_script.specs.declared.block.Part as part
use Rattle.gc_script.specs.declared.block.Kind.TheVariants.{All, Printing}
use Rattle.gc_script.specs.declared.script.ScriptError.{ScriptError}
use Rattle.std.specs.Global.{Vec}

-- what each of these parts executes
abbrev pub parts_shown : Vec part.Part → List (List Execution)
parts_shown v = map part_shown v.items

-- an error tells this fault, or that memory ran out
abbrev pub is_refused : {A : Type 0} → Option Fault → Result A Fault → Type 0
is_refused None r = Unit {0}
is_refused (Some fault) r = r ≡ Err fault

-- an answer of the reader, if the source is this script or has this fault
abbrev pub ReadAnswers : Result Script ScriptError → Result Script Fault → Type 0
ReadAnswers (Ok s) r = r ≡ Ok s
ReadAnswers (Err e) r = is_refused (fault_of e) r

-- the script of this version with these sections
abbrev pub script_made : ℕ → ℕ → Option (List (List Execution)) → List (List (List Execution)) → Script
script_made version fields catalogue warehouses = record { version = version; sections = record { fields = fields; catalogue = catalogue; warehouses = warehouses } }

-- the script of these sections, if not too many commands are executed and not too many print
abbrev pub limited_script : ℕ → ℕ → Option (List (List Execution)) → List (List (List Execution)) → Result Script Fault
limited_script version fields catalogue warehouses =
    if nat_lt 2000000 (in_sections (counts All) catalogue warehouses) then Err TooManyCommands
    else (if nat_lt 65536 (in_sections (counts Printing) catalogue warehouses) then Err TooManyLines
    else Ok (script_made version fields catalogue warehouses))

-- the script at the end of input: the fault of the end if it has one, else the script within its limits
abbrev pub ended_script : Option Fault → Context → Content → Result Script Fault
ended_script (Some fault) c content = Err fault
ended_script None c content = limited_script c.version (unwrap_or c.fields 0) content.catalogue content.warehouses

-- the script of the lines that were read, once the last section is closed
abbrev pub finished_script : Context → Content → Result Script Fault
finished_script c content = ended_script (end_fault_in c) c (close c.section (end_part content))

-- if the input may end, its sections are in range
abbrev pub IsWhole : Context → Content → Type 0
IsWhole c content =
    end_fault_in c ≡ None → AreLegal (unwrap_or c.fields 0) (close c.section (end_part content)).catalogue (close c.section (end_part content)).warehouses
