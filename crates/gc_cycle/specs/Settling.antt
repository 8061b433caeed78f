-- How a seat that is alone sets a counter or a statistic.
use Rattle.std.specs.Prelude.{ℕ, ◌==◌, List, map, Bool, false}
use Rattle.std.specs.List.{range_with_len}
use Rattle.mark_core.specs.Places.{counter_at}
use Rattle.mark_core.specs.declared.kinds.Phase.TheVariants.{Idle}
use Rattle.mark_core.specs.declared.kinds.Step.{Step}
use Rattle.mark_core.specs.declared.kinds.Step.TheVariants.{AddStat, ReadAlloc, Reset}
use Rattle.gc_table.specs.declared.view.View.{View}
use Rattle.gc_table.specs.Log.{Only}
use Rattle.gc_table.specs.Running.{Known}
use Rattle.gc_cycle.specs.Finishing.{IsPart}

-- a step at this counter or statistic
abbrev pub adjusts : ℕ → Step → Bool
adjusts which (Reset w) = w == which
adjusts which (AddStat w by down) = w == which
adjusts which step = false

-- the allocation bits of this many blocks are read, from this one on
abbrev pub alloc_reads : ℕ → ℕ → List Step
alloc_reads from n = map (λ b. ReadAlloc b) (range_with_len from n)

-- the counter or statistic has come to this number, and no other word was touched
pub record Sets (which number : ℕ) (v w : View) : Type 0 where
  pub part : IsPart Idle v w
  pub only : Only (adjusts which) v w
  pub known : Known w (counter_at which) number
