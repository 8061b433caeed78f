-- Tidy calls make a cycle's work few.
use Rattle.std.proofs.Common.{ℕ, ◌+◌, ◌*◌, ◌≤◌, List, arith}
use Rattle.mark_core.specs.Layout.{card_count}
use Rattle.mark_core.specs.Steps.{Core}
use Rattle.mark_core.specs.declared.kinds.Event.{Event}
use Rattle.work_laws.specs.Counting.{count_events}
use Rattle.work_laws.specs.Queueing.{pops}
use Rattle.work_laws.specs.Scanning.{cleans, reads_field}
use Rattle.work_laws.specs.Cleaning.{dirties}
use Rattle.work_laws.specs.Cycles.{IsBoundedCycle, spills}
use Rattle.work_laws.specs.Tidy.{IsTidy, TidyCyclesAreFew, most_dirtied, most_placed}

-- a product with a larger number
larger : (f m n : ℕ) → m ≤ n → f * m ≤ f * n
larger f m n h = grind (arith, h)

module _ (c : Core) (es : List Event) (b : IsBoundedCycle c es) (t : IsTidy c es) where
  few_placed : count_events pops es c + spills c es ≤ most_placed c es
  few_placed = omega (arith, b.placed, b.deferred, t.kept)

  few_dirtied : count_events dirties es c ≤ most_dirtied c es
  few_dirtied = omega (arith, b.dirtied, few_placed, t.caused, t.paced, b.drawn)

  few_cleaned : count_events cleans es c ≤ card_count c.shape + most_dirtied c es
  few_cleaned = omega (arith, b.cleaned, few_dirtied)

  few_read : count_events reads_field es c ≤ c.shape.fields * most_placed c es + 16 * c.shape.fields * (card_count c.shape + most_dirtied c es)
  few_read =
      let popped = larger c.shape.fields (count_events pops es c) (most_placed c es) (omega (arith, few_placed)) in
      let cleaned = larger (16 * c.shape.fields) (count_events cleans es c) (card_count c.shape + most_dirtied c es) few_cleaned in
      omega (arith, b.read, popped, cleaned)

pub tidy_few : TidyCyclesAreFew
tidy_few c es b t =
    record {
      marked = b.marked;
      deferred = omega (arith, b.deferred, t.kept);
      placed = few_placed c es b t;
      dirtied = few_dirtied c es b t;
      cleaned = few_cleaned c es b t;
      drawn = b.drawn;
      read = few_read c es b t;
      tried = omega (arith, b.tried, few_read c es b t);
    }
