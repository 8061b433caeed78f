-- How many objects a tracer has traced beside the mutators, by what its steps told.
use Rattle.std.specs.Prelude.{ℕ, ◌≡◌, ◌+◌, ◌*◌, ◌^◌, ◌==◌, ◌&&◌, not, if◌then◌else◌, List, [], ◌∷◌}
use Rattle.mark_core.specs.Numbers.{traced_count}
use Rattle.mark_core.specs.declared.kinds.Step.{Step}
use Rattle.mark_core.specs.declared.kinds.Step.TheVariants.{AddStat}
use Rattle.gc_table.specs.Log.{events}
use Rattle.gc_table.specs.Running.{Ran}
use Rattle.gc_table.specs.declared.view.Entry.{Entry}
use Rattle.gc_table.specs.declared.view.View.{View}

-- by how much the step raises the number of traced cells
abbrev pub told_by : Step → ℕ
told_by (AddStat which by down) = if (which == traced_count) && not down then by else 0
told_by step = 0

-- and all steps of these events together
abbrev pub told_in : List Entry → ℕ
told_in [] = 0
told_in (e ∷ es) = told_by e.step + told_in es

-- the count grew by what the events told; it has 64 bits
pub record Tallies (before after : ℕ) (v w : View) : Type 0 where
  pub ran : Ran v w
  pub wraps : ℕ
  pub counts : after + wraps * 2 ^ 64 ≡ before + told_in (events v w)
