-- A helper that traces or sweeps stays one, and leaves what its seat and its section are.
use Rattle.std.proofs.Common.{ℕ, eqb-true, ◌≡◌, refl, ap, true, false, not}
use Rattle.std.specs.Prelude.{◌==◌}
use Rattle.std.proofs.lemmas.Bool.{false≢true}
use Rattle.mark_core.specs.Numbers.{block_counter, card_counter, done_count}
use Rattle.mark_core.specs.declared.kinds.Step.{Step}
use Rattle.mark_core.specs.declared.kinds.Step.TheVariants.{AddStat, ClaimBlock, ClearMarks, JoinHelpStep, LeaveStep, NextBlock, NextSeason, RaiseStep, ReadAlloc, ReadBlockMarks, ReadCat, ReadOwn, ReadSeason, ReadStat, StoreAlloc, StoreField, StoreNew, StorePhase, StoreRoot, StoreValue, ReadSlot, StoreSlot, ExchangeField, ExchangeValue, ReadWeak, HoldRoot}
use Rattle.gc_table.specs.Log.{Only, events}
use Rattle.gc_table.specs.Running.{changes_section, Ran}
use Rattle.gc_table.specs.declared.view.View.{View}
use Rattle.gc_table.proofs.History.Log.{only-more}
use Rattle.gc_table.proofs.Running.{own-kept}
use Rattle.gc_cycle.specs.HelpTurns.{StaysAHelper}
use Rattle.gc_cycle.specs.Lower.{sweeps_next, traces_or_cleans}
use Rattle.gc_cycle.specs.Mutating.{stays_calm}
use Rattle.gc_cycle.specs.Sorts.{joins, leaves}
use Rattle.gc_cycle.specs.Statistics.{leaves_numbers}
use Rattle.gc_cycle.proofs.Leaving.{sweeps-leave, traces-leave}
use Rattle.gc_cycle.proofs.SectionKept.{goes-out}
use Rattle.gc_cycle.proofs.Sequences.{none-of-steps}
use Rattle.gc_cycle.proofs.Stops.Admitted.{traces-kept}

sweeps-calm : (step : Step) → sweeps_next step ≡ true → stays_calm step ≡ true
sweeps-calm NextBlock e = refl
sweeps-calm (ReadAlloc b) e = refl
sweeps-calm ReadBlockMarks e = refl
sweeps-calm StoreAlloc e = refl
sweeps-calm ClearMarks e = refl
sweeps-calm (ReadStat which) e = ap (λ n. not (n == done_count)) (eqb-true which block_counter e)
sweeps-calm step e = absurd (false≢true e)

sweeps-kept : (step : Step) → sweeps_next step ≡ true → changes_section step ≡ false
sweeps-kept NextBlock e = refl
sweeps-kept (ReadAlloc b) e = refl
sweeps-kept ReadBlockMarks e = refl
sweeps-kept StoreAlloc e = refl
sweeps-kept ClearMarks e = refl
sweeps-kept (ReadStat which) e = refl
sweeps-kept step e = absurd (false≢true e)

sweeps-inside : (step : Step) (n : ℕ) → sweeps_next step ≡ true → leaves step n ≡ false
sweeps-inside LeaveStep n e = absurd (false≢true e)
sweeps-inside step n e = refl

sweeps-unjoined : (step : Step) (n : ℕ) → sweeps_next step ≡ true → joins step n ≡ false
sweeps-unjoined JoinHelpStep n e = absurd (false≢true e)
sweeps-unjoined step n e = refl

traces-calm : (step : Step) → traces_or_cleans step ≡ true → stays_calm step ≡ true
traces-calm (ClaimBlock b) e = absurd (false≢true e)
traces-calm RaiseStep e = absurd (false≢true e)
traces-calm (StorePhase to) e = absurd (false≢true e)
traces-calm (ReadOwn c i) e = absurd (false≢true e)
traces-calm (ReadCat v) e = absurd (false≢true e)
traces-calm (ReadSlot k) e = absurd (false≢true e)
traces-calm (ReadWeak c) e = absurd (false≢true e)
traces-calm (StoreSlot k r) e = absurd (false≢true e)
traces-calm (ExchangeField v i x y) e = absurd (false≢true e)
traces-calm (ExchangeValue v m n) e = absurd (false≢true e)
traces-calm (StoreField v i w) e = absurd (false≢true e)
traces-calm (StoreValue v n) e = absurd (false≢true e)
traces-calm (StoreRoot v r) e = absurd (false≢true e)
traces-calm (HoldRoot v r) e = absurd (false≢true e)
traces-calm (StoreNew c part word) e = absurd (false≢true e)
traces-calm ReadSeason e = absurd (false≢true e)
traces-calm NextSeason e = absurd (false≢true e)
traces-calm (AddStat which by down) e = absurd (false≢true e)
traces-calm (ReadStat which) e = ap (λ n. not (n == done_count)) (eqb-true which card_counter e)
traces-calm step e = refl

traces-inside : (step : Step) (n : ℕ) → traces_or_cleans step ≡ true → leaves step n ≡ false
traces-inside LeaveStep n e = absurd (false≢true e)
traces-inside step n e = refl

traces-unjoined : (step : Step) (n : ℕ) → traces_or_cleans step ≡ true → joins step n ≡ false
traces-unjoined JoinHelpStep n e = absurd (false≢true e)
traces-unjoined step n e = refl

pub sweeps-beside : (v w : View) → Ran v w → Only sweeps_next v w → StaysAHelper v w
sweeps-beside v w r o =
    record {
      out = goes-out v w r (only-more sweeps_next stays_calm sweeps-calm v w o);
      own = own-kept sweeps_next sweeps-kept v w r o;
      numbers = only-more sweeps_next leaves_numbers sweeps-leave v w o;
      inside = ap not (none-of-steps sweeps_next leaves sweeps-inside (events v w) o);
      among = ap not (none-of-steps sweeps_next joins sweeps-unjoined (events v w) o);
    }

pub traces-beside : (v w : View) → Ran v w → Only traces_or_cleans v w → StaysAHelper v w
traces-beside v w r o =
    record {
      out = goes-out v w r (only-more traces_or_cleans stays_calm traces-calm v w o);
      own = own-kept traces_or_cleans traces-kept v w r o;
      numbers = only-more traces_or_cleans leaves_numbers traces-leave v w o;
      inside = ap not (none-of-steps traces_or_cleans leaves traces-inside (events v w) o);
      among = ap not (none-of-steps traces_or_cleans joins traces-unjoined (events v w) o);
    }
