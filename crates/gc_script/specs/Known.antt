-- What is known after some lines: names and their numbers, the fields of an object, the section, and the `repeat` that is open.
-- A list of earlier lines has the latest first. The header isn't among them, so a line that stands after n of them is line n + 2.
use Rattle.std.specs.Prelude.{ℕ, ◌+◌, List, [], ◌∷◌, ◌++◌, length, Bool, ◌==◌, nat_lt, if◌then◌else◌, Option, Some, None}
use Rattle.std.specs.List.{position_or_len}
use Rattle.std.specs.Str.{bytes_eq}
use Rattle.gc_script.specs.Statement.{Spoken, NewOf, LetOf, NilOf, SetOf, GetOf, CatOf, PutOf, SayOf, SumOf, CollectOf, Statement, Fields, Catalogue, Warehouse, Repeat, End, Command}

-- the number of the line after these
abbrev pub next_line : List Statement → ℕ
next_line earlier = 2 + length earlier

-- the number of a name: its place among these, or the next number if it isn't among them
abbrev pub place : List (List ℕ) → List ℕ → ℕ
place names name = position_or_len (λ other. bytes_eq other name) names

-- the name is one of these
abbrev pub has_name : List ℕ → List (List ℕ) → Bool
has_name name names = nat_lt (place names name) (length names)

-- the name that a command assigns
abbrev pub assigns : Spoken → Option (List ℕ)
assigns (NewOf v n) = Some v
assigns (LetOf v w) = Some v
assigns (NilOf v) = Some v
assigns (GetOf v w i) = Some v
assigns (CatOf v name) = Some v
assigns (SetOf v i w) = None
assigns (PutOf v n) = None
assigns (SayOf label v) = None
assigns (SumOf label v i limit) = None
assigns CollectOf = None

-- these names and one more, if there is one and it is new
abbrev pub with_name : Option (List ℕ) → List (List ℕ) → List (List ℕ)
with_name None names = names
with_name (Some name) names = if has_name name names then names else names ++ name ∷ []

-- the number of fields that these lines state
abbrev pub stated_fields : List Statement → Option ℕ
stated_fields [] = None
stated_fields (Fields n ∷ earlier) = Some n
stated_fields (statement ∷ earlier) = stated_fields earlier

-- the number of fields, if it is known already: version 1 has four, the others state it
abbrev pub known_fields : ℕ → List Statement → Option ℕ
known_fields version earlier = if version == 1 then Some 4 else stated_fields earlier

-- the names of the section that was started last, in the order of their first assignment
abbrev pub known_names : List Statement → List (List ℕ)
known_names [] = []
known_names (Catalogue ∷ earlier) = []
known_names (Warehouse ∷ earlier) = []
known_names (Command spoken ∷ earlier) = with_name (assigns spoken) (known_names earlier)
known_names (statement ∷ earlier) = known_names earlier

-- the line of the `repeat` that is open, and how often
abbrev pub open_repeat : List Statement → Option (ℕ × ℕ)
open_repeat [] = None
open_repeat (Catalogue ∷ earlier) = None
open_repeat (Warehouse ∷ earlier) = None
open_repeat (End ∷ earlier) = None
open_repeat (Repeat n ∷ earlier) = Some (next_line earlier, n)
open_repeat (statement ∷ earlier) = open_repeat earlier

-- how many warehouses were started
abbrev pub warehouse_count : List Statement → ℕ
warehouse_count [] = 0
warehouse_count (Warehouse ∷ earlier) = warehouse_count earlier + 1
warehouse_count (statement ∷ earlier) = warehouse_count earlier

-- the number of the section that was started last, if one was
abbrev pub open_section : List Statement → Option ℕ
open_section [] = None
open_section (Catalogue ∷ earlier) = Some 0
open_section (Warehouse ∷ earlier) = Some (warehouse_count earlier + 1)
open_section (statement ∷ earlier) = open_section earlier

-- the names that are assigned up to the next section line
abbrev pub assigned_names : List (List ℕ) → List Statement → List (List ℕ)
assigned_names names [] = names
assigned_names names (Catalogue ∷ rest) = names
assigned_names names (Warehouse ∷ rest) = names
assigned_names names (Command spoken ∷ rest) = assigned_names (with_name (assigns spoken) names) rest
assigned_names names (statement ∷ rest) = assigned_names names rest

-- the names that the catalogue assigns anywhere, if the first section line is its
abbrev pub catalogue_names : List Statement → List (List ℕ)
catalogue_names [] = []
catalogue_names (Catalogue ∷ rest) = assigned_names [] rest
catalogue_names (Warehouse ∷ rest) = []
catalogue_names (statement ∷ rest) = catalogue_names rest
