-- Variables whose roots lag are stored in them.
use Rattle.std.specs.Prelude.{ℕ, zero, suc, ◌≡◌, Bool, true, false, if◌then◌else◌, List, [], ◌∷◌, ◌++◌}
use Rattle.mark_core.specs.Bits.{has_bit}
use Rattle.mark_core.specs.Numbers.{section_variables}
use Rattle.mark_core.specs.declared.kinds.Step.{Step}
use Rattle.mark_core.specs.declared.kinds.Step.TheVariants.{FlushRoot}
use Rattle.gc_table.specs.declared.view.View.{View}
use Rattle.gc_table.specs.Log.{events, steps_of}
use Rattle.gc_table.specs.Running.{Ran}
use Rattle.gc_table.specs.Seats.{Stored}

-- a word with a bit for each variable is below this number
abbrev pub word_of_variables : ℕ
word_of_variables = 4294967296

-- the step that stores variable u, if its root lags
abbrev pub flushing_step : Bool → ℕ → List Step
flushing_step lags u = if lags then FlushRoot u ∷ [] else []

-- the steps that store those of the first n variables whose bit is set
abbrev pub flushing_steps : ℕ → ℕ → List Step
flushing_steps lags zero = []
flushing_steps lags (suc n) = flushing_steps lags n ++ flushing_step (has_bit lags n) n

-- variable u was stored if its root lagged, and nothing was done if not
abbrev pub FlushesIf : Bool → ℕ → View → View → Type 0
FlushesIf true u v w = Stored (FlushRoot u) v w
FlushesIf false u v w = w ≡ v

abbrev pub FlushesOne : ℕ → View → View → Type 0
FlushesOne u v w = FlushesIf (has_bit v.state.lags u) u v w

-- each variable whose root lagged was stored in it, in their order, and nothing else was done: no root lags, and else nothing is another
pub record Flushes (v w : View) : Type 0 where
  pub ran : Ran v w
  pub steps_are : steps_of (events v w) ≡ flushing_steps v.state.lags section_variables
  pub state : w.state ≡ record v.state { lags = 0 }
  pub own : w.own ≡ v.own
