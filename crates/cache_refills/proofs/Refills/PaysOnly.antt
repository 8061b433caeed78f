-- What a payment doesn't do.
use Rattle.std.proofs.Common.{ℕ, ◌≡◌, List, [], ◌∷◌, ◌++◌, refl, ap, Bool, true, false, not, ◌&&◌, None, eqb-true}
use Rattle.std.specs.Prelude.{◌==◌, if◌then◌else◌}
use Rattle.std.proofs.lemmas.Bool.{and_parts, false≢true}
use Rattle.mark_core.specs.declared.kinds.Phase.TheVariants.{Full}
use Rattle.mark_core.specs.declared.kinds.Step.{Step}
use Rattle.mark_core.specs.declared.kinds.Step.TheVariants.{AddStat, ClaimBlock, DropStep, NextSeason, RaiseStep, ReadCat, ReadOwn, ReadPhase, ReadSeason, ReadStat, StoreField, StoreNew, StorePhase, StoreRoot, StoreValue, ExchangeField, ExchangeValue, ReadSlot, StoreSlot, ReadWeak, HoldRoot}
use Rattle.gc_table.specs.Log.{all_steps}
use Rattle.gc_table.specs.declared.view.Entry.{Entry}
use Rattle.mark_core.specs.Numbers.{done_count, free_count, traced_count}
use Rattle.gc_cycle.specs.Answering.{last_phase, later_or, phase_read}
use Rattle.gc_cycle.specs.Mutating.{stays_calm}
use Rattle.cache_refills.specs.Pace.Payment.{pays_cells}
use Rattle.gc_cycle.specs.Sorts.{lowers_free, reads_phase, resumes}
use Rattle.gc_cycle.proofs.CleaningSpares.{Spares}

pub pays-calm : (step : Step) → pays_cells step ≡ true → stays_calm step ≡ true
pays-calm (AddStat which by down) e = ap (λ n. not (n == done_count)) (eqb-true which traced_count (and_parts (which == traced_count) (not down) e).0)
pays-calm (ClaimBlock b) e = absurd (false≢true e)
pays-calm RaiseStep e = absurd (false≢true e)
pays-calm (StorePhase to) e = absurd (false≢true e)
pays-calm (ReadOwn c i) e = absurd (false≢true e)
pays-calm (ReadCat v) e = absurd (false≢true e)
pays-calm (ReadSlot k) e = absurd (false≢true e)
pays-calm (ReadWeak c) e = absurd (false≢true e)
pays-calm (StoreSlot k r) e = absurd (false≢true e)
pays-calm (StoreField v i w) e = absurd (false≢true e)
pays-calm (StoreValue v n) e = absurd (false≢true e)
pays-calm (ExchangeField v i x y) e = absurd (false≢true e)
pays-calm (ExchangeValue v m n) e = absurd (false≢true e)
pays-calm (StoreRoot v r) e = absurd (false≢true e)
pays-calm (HoldRoot v r) e = absurd (false≢true e)
pays-calm (StoreNew c part word) e = absurd (false≢true e)
pays-calm ReadSeason e = absurd (false≢true e)
pays-calm NextSeason e = absurd (false≢true e)
pays-calm (ReadStat which) e = e
pays-calm step e = refl

pub pays-unresumed : Spares pays_cells resumes
pays-unresumed DropStep n e = absurd (false≢true e)
pays-unresumed step n e = refl

pub pays-unlooked : Spares pays_cells (reads_phase Full)
pays-unlooked ReadPhase n e = absurd (false≢true e)
pays-unlooked step n e = refl

phase-unread : (step : Step) (n : ℕ) → pays_cells step ≡ true → phase_read step n ≡ None
phase-unread ReadPhase n e = absurd (false≢true e)
phase-unread step n e = refl

pub pays-unlowered : (step : Step) (n : ℕ) → pays_cells step ≡ true → lowers_free step n ≡ []
pays-unlowered (AddStat which by true) n e = absurd (false≢true (and_parts (which == traced_count) false e).1)
pays-unlowered (AddStat which by false) n e = neither (which == free_count)
  where
    neither : (b : Bool) → (if b && false then by ∷ [] else []) ≡ []
    neither true = refl
    neither false = refl
pays-unlowered step n e = refl

none-looked : (es : List Entry) → all_steps pays_cells es ≡ true → last_phase es ≡ None
none-looked [] o = refl
none-looked (e ∷ es) o = let p = and_parts (pays_cells e.step) (all_steps pays_cells es) o in λ i. later_or (none-looked es p.1 i) (phase-unread e.step e.found p.0 i)

-- the phase as read last is that which was read before the payment
pub looked-before : (xs ys : List Entry) → all_steps pays_cells ys ≡ true → last_phase (xs ++ ys) ≡ last_phase xs
looked-before [] ys o = none-looked ys o
looked-before (x ∷ xs) ys o = ap (λ q. later_or q (phase_read x.step x.found)) (looked-before xs ys o)
