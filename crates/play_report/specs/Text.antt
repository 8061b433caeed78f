-- The texts that are written.
use Rattle.std.specs.Prelude.{ℕ, ◌≡◌, ◌+◌, List, [], ◌∷◌, ◌++◌, length, codes, decimal, map, sum_by, Bool, if◌then◌else◌, Option, Some, None, MatchBool}
use Rattle.std.specs.List.{flat_map}
use Rattle.plain_heap.specs.declared.operation.Line.{Line}
use Rattle.plain_heap.specs.declared.operation.Line.TheVariants as lines
use Rattle.plain_heap.specs.Sections.{Sections, executed_of, section_numbers}
use Rattle.plain_heap.specs.PlainRun.{Printed, transcript, last_heap, last_heaps}
use Rattle.plain_heap.specs.Paths.{Survivor, AreSurvivors}
use Rattle.plain_heap.specs.Placement.{cells_of, IsFilled}
use Rattle.gc_script.specs.Faults as faults
use Rattle.gc_script.specs.Faults.{Fault}
use Rattle.gc_script.specs.Shown.{fault_of}
use Rattle.gc_script.specs.declared.script.ScriptError.{ScriptError}
use Rattle.play_report.specs.Report.{Outcome}
use Rattle.play_report.specs.Order.{IsPlaced}

-- what is printed: nil, a value, or a count and a sum
abbrev pub line_text : Line → List ℕ
line_text lines.Nil = codes "nil"
line_text (lines.Value value) = decimal value
line_text (lines.Walk count total) = decimal count ++ codes " " ++ decimal total

-- a label and what it labels
unfoldable pub printed_text : Printed → List ℕ
printed_text p = p.label ++ codes " " ++ line_text p.line ++ codes "\n"

-- a word and a number
unfoldable pub named_text : List ℕ → ℕ → List ℕ
named_text word n = word ++ decimal n ++ codes "\n"

-- a word and two numbers
unfoldable pub pair_text : List ℕ → ℕ → ℕ → List ℕ
pair_text word a b = word ++ decimal a ++ codes " " ++ decimal b ++ codes "\n"

-- three numbers
unfoldable pub triple_text : ℕ → ℕ → ℕ → List ℕ
triple_text a b c = decimal a ++ codes " " ++ decimal b ++ codes " " ++ decimal c ++ codes "\n"

-- the texts of these elements, each with its number, from n on
abbrev pub numbered_texts : {X : Type 0} → (ℕ → X → List ℕ) → ℕ → List X → List ℕ
numbered_texts text n [] = []
numbered_texts text n (x ∷ xs) = text n x ++ numbered_texts text (n + 1) xs

-- what section w printed
abbrev pub outcome_text : ℕ → Outcome → List ℕ
outcome_text w o = named_text (codes "warehouse ") w ++ flat_map printed_text o.said ++ named_text (codes "dropped ") o.dropped

-- the warehouses from number w on
abbrev pub outcomes_text : ℕ → List Outcome → List ℕ
outcomes_text w os = numbered_texts outcome_text w os

-- section 0 prints nothing
abbrev pub warehouses_text : List Outcome → List ℕ
warehouses_text [] = []
warehouses_text (catalogue ∷ warehouses) = outcomes_text 1 warehouses

-- a survivor: its section, its number and its value
abbrev pub survivor_text : Survivor → List ℕ
survivor_text s = triple_text s.section s.number s.value

-- how many survivors there are, and each
abbrev pub survivors_text : List Survivor → List ℕ
survivors_text survivors = named_text (codes "survivors ") (length survivors) ++ flat_map survivor_text survivors

-- the cells of section w's objects, by their numbers
abbrev pub cells_text : ℕ → List ℕ → List ℕ
cells_text w cells = numbered_texts (triple_text w) 0 cells

-- the cells of all objects, by section and number
abbrev pub places_text : List Outcome → List ℕ
places_text os = numbered_texts (λ w o. cells_text w o.places) 0 os

-- how many objects were ever made
abbrev pub placed_count : List Outcome → ℕ
placed_count os = sum_by (λ o. length o.places) os

-- how many objects were ever made, and their cells
abbrev pub placed_text : List Outcome → List ℕ
placed_text os = named_text (codes "placed ") (placed_count os) ++ places_text os

-- the text of status 0 of `run`
abbrev pub report_text : List Outcome → List Survivor → Bool → List ℕ
report_text os survivors place = warehouses_text os ++ survivors_text survivors ++ (if place then placed_text os else [])

-- how a section ends, with its objects in these cells
abbrev pub outcome : Sections → List (List ℕ) → ℕ → Outcome
outcome s places w = record { said = transcript s w; dropped = (last_heap s w).dropped; places = cells_of places w }

-- how each section ends
abbrev pub outcomes : Sections → List (List ℕ) → List Outcome
outcomes s places = map (outcome s places) (section_numbers s)

-- what may be written of a play in this many cells: each transcript, then exactly the objects that are reachable at the end,
-- and with places, a legal place of each object
pub record IsReportText (s : Sections) (cells : ℕ) (place : Bool) (text : List ℕ) : Type 0 where
  pub survivors : List Survivor
  pub reached : AreSurvivors (last_heaps s) survivors
  pub places : List (List ℕ)
  pub placed : MatchBool place (IsPlaced s cells places) (Unit {0})
  pub written : text ≡ report_text (outcomes s places) survivors place

-- how many commands each section did
abbrev pub positions_text : List ℕ → List ℕ
positions_text positions = numbered_texts (pair_text (codes "position ")) 0 positions

-- the text of status 3: the section that found no cell, and how many commands each section did
abbrev pub full_text : ℕ → List ℕ → List ℕ
full_text section positions = named_text (codes "full section ") section ++ positions_text positions

-- what may be written of a play that this many cells were too few for
pub record IsFullText (s : Sections) (cells : ℕ) (text : List ℕ) : Type 0 where
  pub section : ℕ
  pub positions : List ℕ
  pub filled : IsFilled s cells section positions
  pub written : text ≡ full_text section positions

-- the text of status 2: the number and the name of a fault, and its place
abbrev pub fault_text : Fault → List ℕ
fault_text (faults.NotAscii offset) = named_text (codes "1 NotAscii offset ") offset
fault_text faults.BadHeader = codes "2 BadHeader\n"
fault_text (faults.BadLine line) = named_text (codes "3 BadLine line ") line
fault_text (faults.UnknownName line) = named_text (codes "4 UnknownName line ") line
fault_text (faults.TooManyNames line) = named_text (codes "5 TooManyNames line ") line
fault_text (faults.NumberTooLarge line) = named_text (codes "6 NumberTooLarge line ") line
fault_text (faults.RepeatOpen line) = named_text (codes "7 RepeatOpen line ") line
fault_text (faults.TooManySections line) = named_text (codes "8 TooManySections line ") line
fault_text faults.TooManyCommands = codes "9 TooManyCommands\n"
fault_text faults.TooManyLines = codes "10 TooManyLines\n"
fault_text faults.TooLong = codes "11 TooLong\n"
fault_text faults.ConvertedTooLong = codes "14 ConvertedTooLong\n"
fault_text (faults.TooManySeasons line) = named_text (codes "15 TooManySeasons line ") line

-- no fault has no text
abbrev pub text_of_fault : Option Fault → List ℕ
text_of_fault None = []
text_of_fault (Some fault) = fault_text fault

-- the text of what the reader of scripts answers in place of a script
abbrev pub error_text : ScriptError → List ℕ
error_text error = text_of_fault (fault_of error)

-- the text of status 1
abbrev pub usage_text : List ℕ
usage_text = codes "usage: gcplay command [options]\n"

-- how many lines were printed
abbrev pub printed_count : List Outcome → ℕ
printed_count os = sum_by (λ o. length o.said) os

-- the sum of the survivors' values
abbrev pub total_value : List Survivor → ℕ
total_value survivors = sum_by (λ s. s.value) survivors

-- how many objects were made, and how many lines printed
abbrev pub made_text : List Outcome → List ℕ
made_text os = named_text (codes "objects ") (placed_count os) ++ named_text (codes "lines ") (printed_count os)

-- how many survivors there are, and the sum of their values
abbrev pub kept_text : List Survivor → List ℕ
kept_text survivors = named_text (codes "survivors ") (length survivors) ++ named_text (codes "total ") (total_value survivors)

-- a play that is done, in five lines
abbrev pub brief_text : ℕ → List Outcome → List Survivor → List ℕ
brief_text commands os survivors = named_text (codes "commands ") commands ++ (made_text os ++ kept_text survivors)

-- what `load` writes on status 0: how many commands were executed, how many objects made and how many lines printed, and how many survivors there are with
-- which total
abbrev pub load_text : Sections → List Survivor → List ℕ
load_text s survivors =
    named_text (codes "commands ") (sum_by (λ w. length (executed_of s w)) (section_numbers s))
    ++ named_text (codes "objects ") (sum_by (λ w. length (last_heap s w).objects) (section_numbers s))
    ++ named_text (codes "lines ") (sum_by (λ w. length (transcript s w)) (section_numbers s))
    ++ named_text (codes "survivors ") (length survivors)
    ++ named_text (codes "total ") (sum_by (λ s. s.value) survivors)

-- the text is what `load` writes of some list of the reachable objects at the end
pub record IsLoadText (s : Sections) (text : List ℕ) : Type 0 where
  pub survivors : List Survivor
  pub reached : AreSurvivors (last_heaps s) survivors
  pub written : text ≡ load_text s survivors
