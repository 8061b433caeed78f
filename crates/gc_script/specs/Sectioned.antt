-- What holds of a section that was read.
use Rattle.std.specs.Prelude.{ℕ, ◌≡◌, ◌≤◌, ◌+◌, List, [], ◌∷◌, length, map, sum_by, count_by, Bool, true, IsFalse, Option, Some, None, unwrap_or, option_map}
use Rattle.std.specs.List.{All}
use Rattle.plain_heap.specs.PlainStep.{IsInRange}
use Rattle.plain_heap.specs.Sections.{Execution, Sections, Parts, joined, parts_of, section_of, warehouse_sections, made_by, printed_by, executed_total, printed_total, seasons, lends}

-- few parts, of few commands in range
pub record IsSmall (fields : ℕ) (parts : List (List Execution)) : Type 0 where
  pub range : All (λ e. IsInRange fields e.op) (joined parts)
  pub few : length (joined parts) ≤ 2000000
  pub seasons : length parts ≤ 64

-- few parts, of few commands in range; this many commands are executed, this many make an object, and this many print
pub record IsCounted (fields : ℕ) (parts : List (List Execution)) (commands made printed : ℕ) : Type 0 where
  pub small : IsSmall fields parts
  pub executed_is : commands ≡ length (joined parts)
  pub made_is : made ≡ made_by (joined parts)
  pub printed_is : printed ≡ printed_by (joined parts)

-- how many commands of these parts pass a test
abbrev pub in_parts : (Execution → Bool) → List (List Execution) → ℕ
in_parts test parts = count_by test (joined parts)

-- how many commands of these sections pass a test
abbrev pub in_sections : (Execution → Bool) → Option (List (List Execution)) → List (List (List Execution)) → ℕ
in_sections test catalogue warehouses = in_parts test (unwrap_or catalogue []) + sum_by (in_parts test) warehouses

-- a section without a limit on its commands
pub record IsLegal (fields : ℕ) (parts : List (List Execution)) : Type 0 where
  pub range : All (λ e. IsInRange fields e.op) (joined parts)
  pub seasons : length parts ≤ 64

-- all sections of a script, without a limit on their commands: how many there are, and what each may do
pub record AreLegal (fields : ℕ) (catalogue : Option (List (List Execution))) (warehouses : List (List (List Execution))) : Type 0 where
  pub first : IsLegal fields (unwrap_or catalogue [])
  pub others : All (IsLegal fields) warehouses
  pub count : length warehouses ≤ 32
  pub most : fields ≤ 16
  pub least : 1 ≤ fields
  -- the catalogue reads no variable of the catalogue
  pub alone : All (λ e. IsFalse (lends e.op)) (joined (unwrap_or catalogue []))

-- few sections, each of few parts and commands in range; at most 2,000,000 commands are executed in all
pub record AreSmall (fields : ℕ) (catalogue : Option (List (List Execution))) (warehouses : List (List (List Execution))) : Type 0 where
  pub first : IsSmall fields (unwrap_or catalogue [])
  pub others : All (IsSmall fields) warehouses
  pub count : length warehouses ≤ 32
  pub most : fields ≤ 16
  pub least : 1 ≤ fields
  pub alone : All (λ e. IsFalse (lends e.op)) (joined (unwrap_or catalogue []))
  pub few : in_sections (λ e. true) catalogue warehouses ≤ 2000000

-- the sections of these parts, numbered from n on
abbrev pub sections_numbered : ℕ → ℕ → List (List (List Execution)) → List Parts
sections_numbered fields n [] = []
sections_numbered fields n (parts ∷ others) = record { number = n; fields = fields; parts = parts } ∷ sections_numbered fields (n + 1) others

-- the sections of a script that was read
abbrev pub sections_shown : ℕ → Option Parts → List Parts → Sections
sections_shown fields catalogue warehouses = record {
  fields = fields;
  catalogue = option_map (λ c. c.parts) catalogue;
  warehouses = map (λ w. w.parts) warehouses;
}

-- if there are parts, they are those of section 0
abbrev pub is_catalogue : Sections → Option Parts → Type 0
is_catalogue s None = Unit {0}
is_catalogue s (Some c) = c ≡ section_of s 0

-- the sections are numbered, counted and few
pub record AreCounted (s : Sections) (first : Option Parts) (others : List Parts) (commands lines parts : ℕ) : Type 0 where
  pub first_is : is_catalogue s first
  pub others_are : others ≡ warehouse_sections s
  pub commands_are : commands ≡ executed_total s
  pub lines_are : lines ≡ printed_total s
  pub parts_are : parts ≡ seasons s
  pub most : s.fields ≤ 16
  pub least : 1 ≤ s.fields
  pub alone : All (λ e. IsFalse (lends e.op)) (joined (parts_of s 0))
  pub count : length s.warehouses ≤ 32
  pub short : seasons s ≤ 64
  pub few : executed_total s ≤ 2000000
