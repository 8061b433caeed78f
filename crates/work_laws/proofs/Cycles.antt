-- The bounds of a part of a run that begins while no cycle is under way.
use Rattle.std.proofs.Common.{ℕ, ◌≡◌, ◌+◌, ◌*◌, ◌≤◌, List, length, arith, refl, false}
use Rattle.std.proofs.lemmas.Bool.{eqb-true}
use Rattle.std.proofs.lemmas.List.Sums.{count_by-le-length}
use Rattle.mark_core.specs.Layout.{words_of, card_count, region_sizes}
use Rattle.mark_core.specs.Rules.WorldRules.{is_tracing}
use Rattle.mark_core.specs.Steps.{Core}
use Rattle.mark_core.specs.Laws.{IsCore, AllNumbersFit}
use Rattle.mark_core.specs.declared.kinds.Event.{Event}
use Rattle.mark_core.proofs.Writing.Places.{region-length}
use Rattle.work_laws.specs.Counting.{count_events, sum_events}
use Rattle.work_laws.specs.Marking.{marks_anew, pushes_fresh}
use Rattle.work_laws.specs.Queueing.{pops}
use Rattle.work_laws.specs.Scanning.{cleans}
use Rattle.work_laws.specs.Cleaning.{dirties, draws, begins_pass, dirty_cards, is_dirty}
use Rattle.work_laws.specs.Dirtying.{cleans_in_marking, debts_in_hand, dirties_idly, has_debt, stores_reference}
use Rattle.work_laws.specs.Bringing.{brought_in_marking, defers_anew, none_waits, pops_of_waiting}
use Rattle.work_laws.specs.Cycles.{IsBoundedCycle, IsIdle, cells_begun, spills}
use Rattle.work_laws.proofs.Marks.{marks_bounded}
use Rattle.work_laws.proofs.Queues.{pops_bounded}
use Rattle.work_laws.proofs.Scans.{reads_bounded}
use Rattle.work_laws.proofs.Cleans.{cleaning_bounded}
use Rattle.work_laws.proofs.Dirties.{dirtying_bounded}
use Rattle.work_laws.proofs.Brings.{deferring_bounded}
use Rattle.work_laws.proofs.Idles.{idle-again, idle-deferred, idle-fields, idle-fresh, idle-new, idle-queued, idle-ready, idle-unseen, idle-values, idle-white}
use Rattle.work_laws.proofs.Pushes.{pushed}

module _ (c : Core) (es : List Event) (k : IsCore c) (fit : AllNumbersFit es) (p : (words_of c.shape c.words).phase ≡ 0) where
  quiet : is_tracing (words_of c.shape c.words).phase ≡ false
  quiet = rw p refl

  few_marks : count_events marks_anew es c ≤ cells_begun c es
  few_marks = omega (arith, marks_bounded.marks c es k fit, idle-white c k quiet)

  few_fresh : count_events pushes_fresh es c ≤ count_events marks_anew es c
  few_fresh = omega (arith, marks_bounded.pushes c es k fit, idle-fresh c k quiet)

  few_deferred : count_events defers_anew es c ≤ cells_begun c es + sum_events brought_in_marking es c + pops_of_waiting es c none_waits
  few_deferred = omega (arith, deferring_bounded.found c es k fit, idle-ready c k quiet none_waits, idle-new c k quiet, few_fresh, few_marks)

  all_placed : count_events pops es c + spills c es ≤ cells_begun c es + count_events defers_anew es c
  all_placed =
      omega
      (arith, pops_bounded.pops c es k fit, idle-queued c k quiet, pushed c es k fit, dirtying_bounded.fresh c es k fit, idle-fresh c k quiet, few_marks, deferring_bounded.put_back c es k fit, idle-deferred c k quiet)

  few_debts : debts_in_hand c ≤ 41
  few_debts = omega (arith, count_by-le-length has_debt c.seats, k.formed.seat_count.1)

  few_dirtied : count_events dirties es c ≤ count_events stores_reference es c + 41 + spills c es + count_events cleans_in_marking es c + count_events dirties_idly es c
  few_dirtied =
      omega
      (arith, dirtying_bounded.reasons c es k fit, dirtying_bounded.debts c es k fit, few_debts, dirtying_bounded.again c es k fit, idle-again c k quiet, dirtying_bounded.found c es k fit, idle-unseen c k quiet)

  few_dirty : dirty_cards c ≤ card_count c.shape
  few_dirty =
      let cards : List ℕ = (words_of c.shape c.words).cards in
      let long : length cards ≡ card_count c.shape = region-length (region_sizes c.shape) 6 c.words (omega (arith, k.formed.words)) in
      omega (arith, count_by-le-length is_dirty cards, long)

  few_cleans : count_events cleans es c ≤ card_count c.shape + count_events dirties es c
  few_cleans = omega (arith, cleaning_bounded.cleans c es k fit, few_dirty)

  few_draws : count_events draws es c ≤ (card_count c.shape + 41) * (1 + count_events begins_pass es c)
  few_draws = omega (arith, cleaning_bounded.draws c es k fit)

pub cycle-bounded : (c : Core) (es : List Event) → IsCore c → AllNumbersFit es → IsIdle c → IsBoundedCycle c es
cycle-bounded c es k fit idle =
    let p : (words_of c.shape c.words).phase ≡ 0 = eqb-true (words_of c.shape c.words).phase 0 idle in
    let calm : is_tracing (words_of c.shape c.words).phase ≡ false = quiet c es k fit p in
    record {
      marked = few_marks c es k fit p;
      deferred = few_deferred c es k fit p;
      placed = all_placed c es k fit p;
      dirtied = few_dirtied c es k fit p;
      cleaned = few_cleans c es k fit p;
      drawn = few_draws c es k fit p;
      read = omega (arith, reads_bounded.fields c es k fit, idle-fields c k calm);
      tried = omega (arith, reads_bounded.marks c es k fit, idle-values c k calm);
    }
