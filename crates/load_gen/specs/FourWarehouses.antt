-- What script the generated text is.
use Rattle.std.specs.Prelude.{ℕ, ◌≡◌, [], ◌∷◌, length, map, None, Result, Ok}
use Rattle.gc_script.specs.Faults.{Fault}
use Rattle.gc_script.specs.Script.{Script}

-- what was read is a script of version 1 without a catalogue: four warehouses of one part, with `size` executed commands each
pub record HasFourWarehouses (size : ℕ) (read : Result Script Fault) : Type 0 where
  pub whole : Script
  pub no_fault : read ≡ Ok whole
  pub version : whole.version ≡ 1
  pub catalogue : whole.sections.catalogue ≡ None
  pub warehouses : map (λ parts. map length parts) whole.sections.warehouses ≡ (size ∷ []) ∷ (size ∷ []) ∷ (size ∷ []) ∷ (size ∷ []) ∷ []
