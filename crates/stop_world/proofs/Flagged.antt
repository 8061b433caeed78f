-- A seat that raised the flag and found it down: the flag is its own.
use Rattle.std.proofs.Common.{ℕ, ◌≡◌, refl, ap, ◌∙◌, Bool, true, false, not, if◌then◌else◌}
use Rattle.std.proofs.lemmas.Bool.{true≢false}
use Rattle.mark_core.specs.Bits.{has_flag}
use Rattle.mark_core.specs.Start.{start_seat}
use Rattle.mark_core.specs.declared.kinds.Shape.{Shape}
use Rattle.mark_core.specs.declared.kinds.Step.TheVariants.{RaiseStep}
use Rattle.gc_table.specs.Taking.{after}
use Rattle.gc_table.specs.declared.view.View.{View}
use Rattle.gc_table.proofs.RecordSteps.{state-after}
use Rattle.stop_world.specs.StopRecords.{flagged}
use Rattle.stop_world.specs.declared.gates.Raised.{Raised}
use Rattle.stop_world.specs.declared.gates.Raised.TheVariants.{Theirs, Yours}

pub yours-free : (b : Bool) → Yours ≡ (if b then Theirs else Yours) → b ≡ false
yours-free false e = refl
yours-free true e = absurd (true≢false (ap is_yours e))
  where
    is_yours : Raised → Bool
    is_yours Yours = true
    is_yours Theirs = false

-- so a seat that had done nothing is as `flagged` says
pub raised-first : (sh : Shape) (k : ℕ) (v w : View) (n : ℕ) → v.shape ≡ sh → v.state ≡ start_seat sh k → w ≡ after RaiseStep n v → Yours ≡ (if has_flag n then Theirs else Yours) → w.state ≡ flagged sh k
raised-first sh k v w n shaped is e free =
    state-after sh v w (start_seat sh k) RaiseStep n shaped is e ∙ ap (λ (b : Bool). record (start_seat sh k) { raised = not b }) (yours-free (has_flag n) free)
