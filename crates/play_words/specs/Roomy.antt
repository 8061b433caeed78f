-- When this many cells may be too few for a command.
use Rattle.std.specs.Prelude.{ℕ, ◌≡◌, ◌+◌, ◌<◌, ◌≤◌, List, length, sum_by, Option, Some, Ok}
use Rattle.plain_heap.specs.Sections.{Sections, executed_of, made_by, section_numbers, warehouse_numbers}
use Rattle.gc_script.specs.Script.{Script, script}
use Rattle.load_gen.specs.Generated.{generated}
use Rattle.command_words.specs.Words.{Command, Run, Load, Dump}
use Rattle.play_words.specs.Bounded.{KeepsFew}

-- the bytes are a script of these sections
abbrev pub IsOf : List ℕ → Sections → Type 0
IsOf bytes s = (whole : Script) × (script bytes ≡ Ok whole) × (whole.sections ≡ s)

-- the command plays these sections, in this many cells
abbrev pub PlaysIn : Option Command → Option (List ℕ) → Sections → ℕ → Type 0
PlaysIn (Some (Run options)) (Some bytes) s cells = IsOf bytes s × (options.cells ≡ cells)
PlaysIn (Some (Dump options)) (Some bytes) s cells = IsOf bytes s × (options.cells ≡ cells)
PlaysIn (Some (Load options number size)) left s cells = IsOf (generated number size) s × (options.cells ≡ cells)
PlaysIn asked left s cells = ⊥

-- the cells are no more than what may be reachable at once: what the catalogue makes, and of each warehouse the greatest number
-- of its own objects that are reachable after some of its commands
abbrev pub AreFew : Sections → ℕ → Type 0
AreFew s cells = (most : ℕ → ℕ) → ((w : ℕ) → 0 < w → w < length (section_numbers s) → KeepsFew s w (most w)) → cells ≤ made_by (executed_of s 0) + sum_by most (warehouse_numbers s)
