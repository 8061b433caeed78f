-- What `gen` writes.
use Rattle.std.specs.Prelude.{ℕ, ◌≡◌, List}
use Rattle.load_gen.specs.Generated.{generated}

-- the generated script
abbrev pub IsGenAnswer : ℕ → ℕ → ℕ → List ℕ → Type 0
IsGenAnswer number size status text = (status ≡ 0) × (text ≡ generated number size)
