-- What the reader keeps of the lines before, and what it tests of a line with only that.
use Rattle.std.specs.Prelude.{ℕ, ◌≡◌, ◌≤◌, ◌+◌, zero, suc, List, [], ◌∷◌, length, Bool, true, false, not, ◌&&◌, ◌==◌, nat_le, Option, Some, None, is_some, is_none, unwrap_or}
use Rattle.std.specs.List.{list_all}
use Rattle.plain_heap.specs.declared.operation.Op.{Op}
use Rattle.plain_heap.specs.Sections.{Execution}
use Rattle.gc_script.specs.Statement.{Spoken, Statement, Blank, Fields, Catalogue, Warehouse, Season, Repeat, End, Command, Wrong}
use Rattle.gc_script.specs.Earlier.{next_line, place, has_name, names_read, reads_of_catalogue, assigns, with_name, known_fields, known_names, open_repeat, warehouse_count, season_count, open_section}
use Rattle.gc_script.specs.Faults.{Fault, BadHeader, BadLine, UnknownName, TooManyNames, NumberTooLarge, TooManySections, TooManySeasons, starts_section, may_stand, has_large_number, unless_, cuts_repeat, left_open}
use Rattle.gc_script.specs.Script.{operation, label_of}

-- the number of the next line, and of the lines before it what a line may rely on
pub record Context : Type 0 where
  pub version : ℕ
  pub line : ℕ
  pub fields : Option ℕ
  pub section : Option ℕ
  pub warehouses : ℕ
  pub seasons : ℕ
  pub opened : Option (ℕ × ℕ)
  pub names : List (List ℕ)
  pub catalogue : List (List ℕ)

-- the catalogue's names, as a warehouse begins: those of the section before, if that is the catalogue
abbrev pub closing : Option ℕ → List (List ℕ) → List (List ℕ) → List (List ℕ)
closing None names closed = closed
closing (Some zero) names closed = names
closing (Some (suc w)) names closed = closed

-- the names of the catalogue, once a warehouse was started
abbrev pub closed_names : List Statement → List (List ℕ)
closed_names [] = []
closed_names (Warehouse ∷ earlier) = closing (open_section earlier) (known_names earlier) (closed_names earlier)
closed_names (statement ∷ earlier) = closed_names earlier

-- the context after these lines, latest first
abbrev pub context_of : ℕ → List Statement → Context
context_of version earlier = record {
  version = version;
  line = next_line earlier;
  fields = known_fields version earlier;
  section = open_section earlier;
  warehouses = warehouse_count earlier;
  seasons = season_count earlier;
  opened = open_repeat earlier;
  names = known_names earlier;
  catalogue = closed_names earlier;
}

-- the context of the next line, if this line changes nothing else
abbrev pub next : Context → Context
next c = record c { line = c.line + 1 }

-- the context in which a section was started
abbrev pub in_section : Context → ℕ → Context
in_section c number = record (next c) { section = Some number; seasons = 0; opened = None; names = [] }

-- the context after a line without a fault
abbrev pub context_after : Context → Statement → Context
context_after c Blank = next c
context_after c (Fields n) = record (next c) { fields = Some n }
context_after c Catalogue = in_section c 0
context_after c Warehouse =
    record (in_section c (c.warehouses + 1)) { warehouses = c.warehouses + 1; catalogue = closing c.section c.names c.catalogue }
context_after c Season = record (next c) { seasons = c.seasons + 1 }
context_after c (Repeat n) = record (next c) { opened = Some (c.line, n) }
context_after c End = record (next c) { opened = None }
context_after c (Command spoken) = record (next c) { names = with_name (assigns spoken) c.names }
context_after c Wrong = next c

-- a line is well formed and stands where it may
abbrev pub placed_in : Context → Statement → Bool
placed_in c Blank = true
placed_in c (Fields n) = is_none c.fields && not (n == 0)
placed_in c Catalogue = is_some c.fields && is_none c.section
placed_in c Warehouse = is_some c.fields
placed_in c Season = (c.version == 3) && (is_some c.section && is_none c.opened)
placed_in c (Repeat n) = is_some c.section && is_none c.opened
placed_in c End = is_some c.opened
placed_in c (Command spoken) = may_stand c.section spoken
placed_in c Wrong = false

-- a number of the line is past its greatest value
abbrev pub large_in : Context → Statement → Bool
large_in c statement = has_large_number (unwrap_or c.fields 0) statement

-- each name that a line reads is known
abbrev pub knows_in : Context → Statement → Bool
knows_in c (Command spoken) = list_all (λ name. has_name name c.names) (names_read spoken) && list_all (λ name. has_name name c.catalogue) (reads_of_catalogue spoken)
knows_in c statement = true

-- the names of the section after the line
abbrev pub names_after : Context → Statement → List (List ℕ)
names_after c Catalogue = []
names_after c Warehouse = []
names_after c (Command spoken) = with_name (assigns spoken) c.names
names_after c statement = c.names

-- how many warehouses were started, this line included
abbrev pub warehouses_after : Context → Statement → ℕ
warehouses_after c Warehouse = c.warehouses + 1
warehouses_after c statement = c.warehouses

-- how many `season` lines the section has, this line included
abbrev pub seasons_after : Context → Statement → ℕ
seasons_after c Catalogue = 0
seasons_after c Warehouse = 0
seasons_after c Season = c.seasons + 1
seasons_after c statement = c.seasons

-- the first fault of a line that doesn't cut a `repeat`
abbrev pub uncut_fault_in : Context → Statement → Option Fault
uncut_fault_in c statement =
    unless_ (placed_in c statement) (BadLine c.line)
    (unless_ (not (large_in c statement)) (NumberTooLarge c.line)
    (unless_ (knows_in c statement) (UnknownName c.line)
    (unless_ (nat_le (length (names_after c statement)) 32) (TooManyNames c.line)
    (unless_ (nat_le (warehouses_after c statement) 32) (TooManySections c.line)
    (unless_ (nat_le (seasons_after c statement) 63) (TooManySeasons c.line)
    None)))))

-- the first fault of a line
abbrev pub fault_in : Context → Statement → Option Fault
fault_in c statement = cuts_repeat statement c.opened (uncut_fault_in c statement)

-- the line is clear of faults
pub record IsClear (c : Context) (statement : Statement) : Type 0 where
  pub uncut : starts_section statement ≡ true → is_none c.opened ≡ true
  pub placed : placed_in c statement ≡ true
  pub small : large_in c statement ≡ false
  pub known : knows_in c statement ≡ true
  pub names : length (names_after c statement) ≤ 32
  pub warehouses : warehouses_after c statement ≤ 32
  pub seasons : seasons_after c statement ≤ 63

-- what holds of the context after lines without a fault
pub record IsSane (c : Context) : Type 0 where
  pub names : length c.names ≤ 32
  pub catalogue : length c.catalogue ≤ 32
  pub warehouses : c.warehouses ≤ 32
  pub seasons : c.seasons ≤ 63
  pub fields : unwrap_or c.fields 0 ≤ 16

-- the operation of a command, in a context
abbrev pub operation_in : Context → Spoken → Op
operation_in c spoken = operation (place c.names) (place c.catalogue) spoken

-- a command on the line
abbrev pub execution_in : Context → Spoken → Execution
execution_in c spoken = record { line = c.line; label = label_of spoken; op = operation_in c spoken }

-- each of these lines, latest first, is clear after those before it
abbrev pub AreClear : ℕ → List Statement → Type 0
AreClear version [] = Unit {0}
AreClear version (statement ∷ earlier) = IsClear (context_of version earlier) statement × AreClear version earlier

-- the fault of the end of input
abbrev pub end_fault_in : Context → Option Fault
end_fault_in c = unless_ (is_some c.fields) BadHeader (left_open c.opened)

-- what a command of a warehouse reads of the catalogue is known by now
abbrev pub IsCatalogueKnown : List (List ℕ) → List Statement → Type 0
IsCatalogueKnown catalogue e = (w : ℕ) → open_section e ≡ Some (suc w) → closed_names e ≡ catalogue
