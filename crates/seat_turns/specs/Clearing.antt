-- Slots that become nil, one after the other.
use Rattle.std.specs.Prelude.{ℕ, zero, suc, ◌+◌, List, [], ◌∷◌, ◌++◌}
use Rattle.mark_core.specs.declared.kinds.Step.{Step}
use Rattle.mark_core.specs.declared.kinds.Step.TheVariants.{StoreSlot}

-- the steps that let go of this many slots, from this one on
abbrev pub clearing_steps : ℕ → ℕ → List Step
clearing_steps from zero = []
clearing_steps from (suc n) = clearing_steps from n ++ StoreSlot (from + n) 0 ∷ []
