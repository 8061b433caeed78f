-- The sections of a script, cut into parts, one for each season.
use Rattle.std.specs.Prelude.{ℕ, ◌≡◌, ◌+◌, ◌-◌, ◌<◌, zero, suc, List, [], ◌∷◌, length, map, max, take, fold, flat_map, sum_by, count_by, slice_get, slice_index_or, Bool, true, false, Option, Some, unwrap_or}
use Rattle.plain_heap.specs.declared.operation.Op.{Op}
use Rattle.plain_heap.specs.declared.operation.Op.TheVariants as ops

-- an executed command: its line, its label or no bytes, and its operation
pub record Execution : Type 0 where
  pub line : ℕ
  pub label : List ℕ
  pub op : Op

-- how many fields an object has, and the parts of the catalogue, if there is one, and of each warehouse; each `repeat` is unrolled
pub record Sections : Type 0 where
  pub fields : ℕ
  pub catalogue : Option (List (List Execution))
  pub warehouses : List (List (List Execution))

-- the parts of a section; section 0 is the catalogue
abbrev pub parts_of : Sections → ℕ → List (List Execution)
parts_of s zero = unwrap_or s.catalogue []
parts_of s (suc w) = slice_index_or s.warehouses w []

-- part z of a section, counted from 1; a missing part is empty
abbrev pub part_of : Sections → ℕ → ℕ → List Execution
part_of s w z = slice_index_or (parts_of s w) (z - 1) []

-- what parts hold, one after the other
abbrev pub joined : {X : Type 0} → List (List X) → List X
joined parts = flat_map (λ part. part) parts

-- all executed commands of a section
abbrev pub executed_of : Sections → ℕ → List Execution
executed_of s w = joined (parts_of s w)

-- how many commands a section executes in its first z parts
abbrev pub end_of : Sections → ℕ → ℕ → ℕ
end_of s w z = length (joined (take z (parts_of s w)))

-- the numbers from n on, this many
abbrev pub counted : ℕ → ℕ → List ℕ
counted n zero = []
counted n (suc more) = n ∷ counted (n + 1) more

-- the warehouses by their numbers
abbrev pub warehouse_numbers : Sections → List ℕ
warehouse_numbers s = counted 1 (length s.warehouses)

-- the sections by their numbers
abbrev pub section_numbers : Sections → List ℕ
section_numbers s = 0 ∷ warehouse_numbers s

-- one section by itself: its number, how many fields an object has, and its parts
pub record Parts : Type 0 where
  pub number : ℕ
  pub fields : ℕ
  pub parts : List (List Execution)

-- section w by itself
abbrev pub section_of : Sections → ℕ → Parts
section_of s w = record { number = w; fields = s.fields; parts = parts_of s w }

-- each warehouse by itself
abbrev pub warehouse_sections : Sections → List Parts
warehouse_sections s = map (section_of s) (warehouse_numbers s)

-- whether an operation makes an object
abbrev pub makes_object : Op → Bool
makes_object (ops.New v n) = true
makes_object op = false

-- whether it prints a line
abbrev pub prints_line : Op → Bool
prints_line (ops.Say v) = true
prints_line (ops.Sum v i limit) = true
prints_line op = false

-- whether it reads a variable of the catalogue
abbrev pub lends : Op → Bool
lends (ops.Cat v c) = true
lends op = false

-- how many objects these commands make
abbrev pub made_by : List Execution → ℕ
made_by es = count_by (λ e. makes_object e.op) es

-- how many lines they print
abbrev pub printed_by : List Execution → ℕ
printed_by es = count_by (λ e. prints_line e.op) es

-- how many commands are executed, over all sections
abbrev pub executed_total : Sections → ℕ
executed_total s = sum_by (λ w. length (executed_of s w)) (section_numbers s)

-- how many lines are printed, over all sections
abbrev pub printed_total : Sections → ℕ
printed_total s = sum_by (λ w. printed_by (executed_of s w)) (section_numbers s)

-- how many seasons a script has: the number of parts of the section that has most, and at least one
abbrev pub seasons : Sections → ℕ
seasons s = fold (λ most w. max most (length (parts_of s w))) 1 (section_numbers s)

-- after the first k commands of a section the next one is this, and it stands in part z
pub record IsNext (s : Sections) (w k z : ℕ) (e : Execution) : Type 0 where
  pub season : 0 < z
  pub place : ℕ
  pub before : k ≡ end_of s w (z - 1) + place
  pub there : slice_get (part_of s w z) place ≡ Some e

-- the parts, cut after their first k commands
abbrev pub first_of : {X : Type 0} → ℕ → List (List X) → List (List X)
first_of k [] = []
first_of k (part ∷ parts) = take k part ∷ first_of (k - length part) parts
