-- Which fields a scan read, and which cells it went to mark.
use Rattle.std.specs.Prelude.{ℕ, ◌≡◌, ◌-◌, ◌==◌, if◌then◌else◌, List, [], ◌∷◌, ◌++◌, map, Option, Some, None}
use Rattle.std.specs.List.{range_with_len}
use Rattle.mark_core.specs.Bits.{cell_of}
use Rattle.mark_core.specs.declared.kinds.Step.{Step}
use Rattle.mark_core.specs.declared.kinds.Step.TheVariants.{ReadField, SetMark}
use Rattle.gc_table.specs.declared.view.Entry.{Entry}

-- a field that the step read
abbrev pub fields_read : Step → ℕ → List (ℕ × ℕ)
fields_read (ReadField c i) found = (c, i) ∷ []
fields_read step found = []

-- the cell that this field refers to
abbrev pub cells_named : Step → ℕ → List ℕ
cells_named (ReadField c i) found = if found == 0 then [] else cell_of found ∷ []
cells_named step found = []

-- a cell that the step marks, if it was white
abbrev pub cells_asked : Step → ℕ → List ℕ
cells_asked (SetMark c) found = c ∷ []
cells_asked step found = []

-- all of these, in order
abbrev pub picked : {X : Type 0} → (Step → ℕ → List X) → List Entry → List X
picked f [] = []
picked f (e ∷ es) = f e.step e.found ++ picked f es

-- these cells were to be marked, and no field was read
pub record AsksToMark (cells : List ℕ) (es : List Entry) : Type 0 where
  pub read : picked fields_read es ≡ []
  pub named : picked cells_named es ≡ []
  pub asked : picked cells_asked es ≡ cells

-- these fields were read, and what they refer to was to be marked, in order
pub record Follows (fields : List (ℕ × ℕ)) (es : List Entry) : Type 0 where
  pub read : picked fields_read es ≡ fields
  pub asked : picked cells_asked es ≡ picked cells_named es

-- n fields of cell c, from field i on
abbrev pub fields_from : ℕ → ℕ → ℕ → List (ℕ × ℕ)
fields_from c i n = map (λ j. (c, j)) (range_with_len i n)

-- the fields that are left to scan
abbrev pub fields_left : ℕ → Option (ℕ × ℕ) → List (ℕ × ℕ)
fields_left fields None = []
fields_left fields (Some x) = fields_from x.0 x.1 (fields - x.1)
