-- What `convert` writes, by its status.
use Rattle.std.specs.Prelude.{ℕ, ◌≡◌, List}
use Rattle.gc_script.specs.Convert.{Conversion, convert, converted_text}
use Rattle.gc_play.specs.Promise.{OfRead}

-- a conversion is written
abbrev pub IsConversion : Conversion → ℕ → List ℕ → Type 0
IsConversion c status text = (status ≡ 0) × (text ≡ converted_text c)

-- `convert`, of these bytes
abbrev pub IsConvertAnswer : List ℕ → ℕ → List ℕ → Type 0
IsConvertAnswer bytes status text = OfRead IsConversion (convert bytes) status text
