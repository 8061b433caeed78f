-- Which steps leave the position as it was stored.
use Rattle.std.proofs.Common.{ℕ, ◌≡◌, refl, sym, ap, ◌∙◌, Bool, true, false, ⊎_elim}
use Rattle.std.proofs.lemmas.Bool.{false≢true, true≢false}
use Rattle.mark_core.specs.declared.kinds.Step.{Step}
use Rattle.mark_core.specs.declared.kinds.Step.TheVariants.{LeaveStep, StorePosition}
use Rattle.gc_table.specs.Log.{events, Only}
use Rattle.gc_table.specs.Running.{Ran}
use Rattle.gc_table.specs.Taking.{after}
use Rattle.gc_table.specs.declared.view.View.{View}
use Rattle.gc_table.proofs.History.Log.{events-none}
use Rattle.gc_table.proofs.Running.{ran-events, run-keeps}
use Rattle.packet_pools.specs.Seeking.{some_event}
use Rattle.packet_pools.proofs.Searches.{some-parts}
use Rattle.gc_cycle.specs.Answering.{StoredAt}
use Rattle.cache_refills.specs.Pace.Payment.{pays_cells}
use Rattle.cache_refills.specs.Refilling.{prepares}
use Rattle.gc_cycle.specs.Sorts.{leaves}
use Rattle.gc_cycle.proofs.Sequences.{none-of-steps}

-- a step that neither leaves the world nor stores a position
abbrev pub stays_inside : Step → Bool
stays_inside LeaveStep = false
stays_inside (StorePosition done) = false
stays_inside step = true

pub prepares-inside : (step : Step) → prepares step ≡ true → stays_inside step ≡ true
prepares-inside LeaveStep e = absurd (false≢true e)
prepares-inside (StorePosition done) e = absurd (false≢true e)
prepares-inside step e = refl

pub pays-inside : (step : Step) → pays_cells step ≡ true → stays_inside step ≡ true
pays-inside LeaveStep e = absurd (false≢true e)
pays-inside (StorePosition done) e = absurd (false≢true e)
pays-inside step e = refl

position-step : (x : View) (step : Step) (n : ℕ) → stays_inside step ≡ true → (after step n x).own.position ≡ x.own.position
position-step x (StorePosition done) n e = absurd (false≢true e)
position-step x step n e = refl

pub position-kept : (v w : View) → Ran v w → Only stays_inside v w → w.own.position ≡ v.own.position
position-kept v w r o = run-keeps stays_inside (λ (x : View). x.own.position ≡ v.own.position) (λ x step n p s k. position-step x step n p ∙ k) v w r o refl

no-leave : (step : Step) (n : ℕ) → stays_inside step ≡ true → leaves step n ≡ false
no-leave LeaveStep n e = absurd (false≢true e)
no-leave step n e = refl

-- the seat didn't leave yet
pub stored-none : (done : ℕ) (v : View) → StoredAt done v v
stored-none done v h = absurd (false≢true (sym (ap (some_event leaves) (events-none v)) ∙ h))

-- such steps come after what was done before
pub stored-more : (done : ℕ) (u v w : View) → Ran u v → Ran v w → Only stays_inside v w → StoredAt done u v → StoredAt done u w
stored-more done u v w r q o s h =
    ⊎_elim
    (λ (a : some_event leaves (events u v) ≡ true). position-kept v w q o ∙ s a)
    (λ (b : some_event leaves (events v w) ≡ true). absurd (true≢false (sym b ∙ none-of-steps stays_inside leaves no-leave (events v w) o)))
    (some-parts leaves (events u v) (events v w) (sym (ap (some_event leaves) (ran-events u v w r q)) ∙ h))
