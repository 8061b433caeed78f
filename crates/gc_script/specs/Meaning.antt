-- What a script means: the sections that its lines make, if it has no fault.
use Rattle.std.specs.Prelude.{ℕ, ◌≡◌, zero, suc, List, [], ◌∷◌, ◌++◌, if◌then◌else◌, Option, Some, None, is_some, unwrap_or, map}
use Rattle.std.specs.Option.{option_or}
use Rattle.plain_heap.specs.declared.operation.Op.{Op}
use Rattle.plain_heap.specs.declared.operation.Op.TheVariants as ops
use Rattle.plain_heap.specs.Sections.{Execution, Sections}
use Rattle.gc_script.specs.ScriptText.{lines, words}
use Rattle.gc_script.specs.Statement.{Spoken, NewOf, LetOf, NilOf, SetOf, GetOf, CatOf, PutOf, SayOf, SumOf, CollectOf, Statement, Catalogue, Warehouse, Season, Repeat, End, Command, statement, header}
use Rattle.gc_script.specs.Known.{next_line, place, known_fields, known_names, open_repeat, open_section, catalogue_names}

-- the operation of a command, with its names by their numbers
abbrev pub operation : (List ℕ → ℕ) → (List ℕ → ℕ) → Spoken → Op
operation at catalogue (NewOf v n) = ops.New (at v) n
operation at catalogue (LetOf v w) = ops.Let (at v) (at w)
operation at catalogue (NilOf v) = ops.Nil (at v)
operation at catalogue (SetOf v i w) = ops.Set (at v) i (at w)
operation at catalogue (GetOf v w i) = ops.Get (at v) (at w) i
operation at catalogue (CatOf v name) = ops.Cat (at v) (catalogue name)
operation at catalogue (PutOf v n) = ops.Put (at v) n
operation at catalogue (SayOf label v) = ops.Say (at v)
operation at catalogue (SumOf label v i limit) = ops.Sum (at v) i limit
operation at catalogue CollectOf = ops.Collect

-- the label of a command that prints, and else no bytes
abbrev pub label_of : Spoken → List ℕ
label_of (SayOf label v) = label
label_of (SumOf label v i limit) = label
label_of spoken = []

-- a command on the line after these
abbrev pub execution : List (List ℕ) → List Statement → Spoken → Execution
execution catalogue earlier spoken = record {
  line = next_line earlier;
  label = label_of spoken;
  op = operation (place (known_names earlier)) (place catalogue) spoken;
}

-- n times
abbrev pub repeated : ℕ → List Execution → List Execution
repeated zero body = []
repeated (suc n) body = body ++ repeated n body

-- how often the commands of a `repeat` are executed
abbrev pub repetitions : Option (ℕ × ℕ) → ℕ
repetitions None = 1
repetitions (Some opened) = opened.1

-- the commands since the `repeat` that is open
abbrev pub pending : List (List ℕ) → List Statement → List Execution
pending catalogue [] = []
pending catalogue (Catalogue ∷ earlier) = []
pending catalogue (Warehouse ∷ earlier) = []
pending catalogue (Season ∷ earlier) = []
pending catalogue (Repeat n ∷ earlier) = []
pending catalogue (End ∷ earlier) = []
pending catalogue (Command spoken ∷ earlier) = pending catalogue earlier ++ execution catalogue earlier spoken ∷ []
pending catalogue (statement ∷ earlier) = pending catalogue earlier

-- the executed commands of the part that was begun last, outside a `repeat` that is open
abbrev pub executed : List (List ℕ) → List Statement → List Execution
executed catalogue [] = []
executed catalogue (Catalogue ∷ earlier) = []
executed catalogue (Warehouse ∷ earlier) = []
executed catalogue (Season ∷ earlier) = []
executed catalogue (End ∷ earlier) = executed catalogue earlier ++ repeated (repetitions (open_repeat earlier)) (pending catalogue earlier)
executed catalogue (Command spoken ∷ earlier) =
    if is_some (open_repeat earlier) then executed catalogue earlier else executed catalogue earlier ++ execution catalogue earlier spoken ∷ []
executed catalogue (statement ∷ earlier) = executed catalogue earlier

-- the parts of the section that was started last, before the part that was begun last
abbrev pub ended_parts : List (List ℕ) → List Statement → List (List Execution)
ended_parts catalogue [] = []
ended_parts catalogue (Catalogue ∷ earlier) = []
ended_parts catalogue (Warehouse ∷ earlier) = []
ended_parts catalogue (Season ∷ earlier) = ended_parts catalogue earlier ++ executed catalogue earlier ∷ []
ended_parts catalogue (statement ∷ earlier) = ended_parts catalogue earlier

-- the parts of the section that was started last
abbrev pub parts_of_open_section : List (List ℕ) → List Statement → List (List Execution)
parts_of_open_section catalogue earlier = ended_parts catalogue earlier ++ executed catalogue earlier ∷ []

-- the parts, if the section is a warehouse
abbrev pub if_warehouse : Option ℕ → List (List Execution) → List (List (List Execution))
if_warehouse None parts = []
if_warehouse (Some zero) parts = []
if_warehouse (Some (suc w)) parts = parts ∷ []

-- the parts, if the section is the catalogue
abbrev pub if_catalogue : Option ℕ → List (List Execution) → Option (List (List Execution))
if_catalogue None parts = None
if_catalogue (Some zero) parts = Some parts
if_catalogue (Some (suc w)) parts = None

-- the warehouses before the section that was started last
abbrev pub closed_warehouses : List (List ℕ) → List Statement → List (List (List Execution))
closed_warehouses catalogue [] = []
closed_warehouses catalogue (Warehouse ∷ earlier) = closed_warehouses catalogue earlier ++ if_warehouse (open_section earlier) (parts_of_open_section catalogue earlier)
closed_warehouses catalogue (statement ∷ earlier) = closed_warehouses catalogue earlier

-- the catalogue, if its section isn't the one that was started last
abbrev pub closed_catalogue : List (List ℕ) → List Statement → Option (List (List Execution))
closed_catalogue catalogue [] = None
closed_catalogue catalogue (Warehouse ∷ earlier) = option_or (if_catalogue (open_section earlier) (parts_of_open_section catalogue earlier)) (closed_catalogue catalogue earlier)
closed_catalogue catalogue (statement ∷ earlier) = closed_catalogue catalogue earlier

-- all sections of these lines
abbrev pub sections : ℕ → List (List ℕ) → List Statement → Sections
sections version catalogue all = record {
  fields = unwrap_or (known_fields version all) 0;
  catalogue = option_or (if_catalogue (open_section all) (parts_of_open_section catalogue all)) (closed_catalogue catalogue all);
  warehouses = closed_warehouses catalogue all ++ if_warehouse (open_section all) (parts_of_open_section catalogue all);
}

-- these lines first to last, after those latest first
abbrev pub turned : List Statement → List Statement → List Statement
turned earlier [] = earlier
turned earlier (statement ∷ rest) = turned (statement ∷ earlier) rest

-- the text has a header and lines after it, and these are their sections; what a script may not say is defined by its faults
pub record Means (bytes : List ℕ) (s : Sections) : Type 0 where
  pub version : ℕ
  pub first : List (List ℕ)
  pub others : List (List (List ℕ))
  pub lines : map words (lines bytes) ≡ first ∷ others
  pub headed : header first ≡ Some version
  pub sections : s ≡ sections version (catalogue_names (map statement others)) (turned [] (map statement others))
