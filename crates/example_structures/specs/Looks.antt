-- What one look at a queue came to.
use Rattle.std.specs.Prelude.{ℕ}
use Rattle.example_structures.specs.declared.queue.taking.Look.{Look}
use Rattle.example_structures.specs.declared.queue.taking.Look.TheVariants.{Again, Empty, Taken}

-- how many it took
abbrev pub taken_by_look : Look → ℕ
taken_by_look (Taken n) = 1
taken_by_look Empty = 0
taken_by_look Again = 0
