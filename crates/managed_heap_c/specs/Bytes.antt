-- Numbers of C as bytes.
use Rattle.std.specs.Prelude.{ℕ, ◌≡◌, ◌<◌}

-- b is n if either of them may be the number of a variable or a field
abbrev pub IsByteOf : ℕ → ℕ → Type 0
IsByteOf n b = (n < 255 → b ≡ n) × (b < 255 → b ≡ n)
