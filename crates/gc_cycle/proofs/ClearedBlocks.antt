-- Blocks are cleared of their marks by a seat that is alone.
use Rattle.std.proofs.Common.{ℕ, ◌≡◌, ◌≤◌, [], ◌∷◌, length, refl, ap, ◌∙◌, arith, Bool, true, false, Option, ⊎_elim, zero, suc, ◌<◌, ◌+◌, ◌-◌, ◌*◌, sym, subst}
use Rattle.std.specs.Prelude.{if◌then◌else◌, ◌++◌, replicate}
use Rattle.std.proofs.lemmas.Bool.{and_from, false≢true, le-ltb, lt-ltb}
use Rattle.mark_core.specs.Numbers.{block_counter}
use Rattle.mark_core.specs.Seats.{is_the}
use Rattle.mark_core.specs.Steps.WorldSteps.{has_nothing}
use Rattle.mark_core.specs.declared.kinds.Phase.TheVariants.{Clear}
use Rattle.mark_core.specs.declared.kinds.Shape.{Shape}
use Rattle.mark_core.specs.declared.kinds.Step.{Step}
use Rattle.mark_core.specs.declared.kinds.Step.TheVariants.{ClearMarks, NextBlock, ReadStat}
use Rattle.mark_core.specs.declared.seat.SeatState.{SeatState}
use Rattle.gc_table.specs.Log.{event, events, Only}
use Rattle.gc_table.specs.Running.{ends_alone, Ran}
use Rattle.gc_table.specs.declared.view.View.{View}
use Rattle.gc_table.proofs.History.Log.{only-more}
use Rattle.gc_table.proofs.Noticing.{alone-kept}
use Rattle.gc_table.proofs.Running.{ran-shape}
use Rattle.packet_pools.specs.Counts.{count_of}
use Rattle.card_clean.specs.Leaving.{rescans}
use Rattle.sweeper.specs.Blocks.{SeesNoBlockLeft, block_drawn}
use Rattle.sweeper.specs.Sweepers.{Clears, is_clearing}
use Rattle.gc_cycle.specs.Finishing.{IsAloneIn, IsPart, stays_in}
use Rattle.gc_cycle.specs.Sorts.{draws_block}
use Rattle.gc_cycle.specs.Statistics.{leaves_numbers}
use Rattle.gc_cycle.proofs.Ends.Moving.{no-block}
use Rattle.std.proofs.lemmas.List.{length-replicate}
use Rattle.std.proofs.Math.Nat.{mul-le-mul_right}
use Rattle.mark_core.specs.Layout.{block_count}
use Rattle.mark_core.specs.Steps.SweepSteps.{stretch_end}
use Rattle.sweeper.specs.Freeing.{block_floor}
use Rattle.gc_cycle.specs.Pieces.{HasCleared, IsAtClear}
use Rattle.gc_cycle.proofs.Stepped.{part-owner}

clearing-stays : (step : Step) → is_clearing step ≡ true → stays_in Clear step ≡ true
clearing-stays NextBlock e = refl
clearing-stays ClearMarks e = refl
clearing-stays (ReadStat which) e = refl
clearing-stays step e = absurd (false≢true e)

clearing-quiet : (step : Step) → is_clearing step ≡ true → ends_alone step ≡ false
clearing-quiet NextBlock e = refl
clearing-quiet ClearMarks e = refl
clearing-quiet (ReadStat which) e = refl
clearing-quiet step e = absurd (false≢true e)

pub clearing-rescans : (s : SeatState) (step : Step) (n : ℕ) → is_clearing step ≡ true → rescans s step n ≡ 0
clearing-rescans s NextBlock n e = refl
clearing-rescans s ClearMarks n e = refl
clearing-rescans s (ReadStat which) n e = refl
clearing-rescans s step n e = absurd (false≢true e)

pub clearing-leaves : (step : Step) → is_clearing step ≡ true → leaves_numbers step ≡ true
clearing-leaves NextBlock e = refl
clearing-leaves ClearMarks e = refl
clearing-leaves (ReadStat which) e = refl
clearing-leaves step e = absurd (false≢true e)

-- the seat may clear
pub may-clear : (v : View) → IsAloneIn Clear v → Clears v
may-clear v a = record { may = and_from _ _ a.rest.knows (ap (λ (o : Option ℕ). is_the o 4) a.alone.phase); free = no-block v a.rest }

-- it is alone still
pub cleared-part : (v w : View) → IsAloneIn Clear v → Ran v w → Only is_clearing v w → w.state ≡ record v.state { below_block = false } → IsPart Clear v w
cleared-part v w a r o e =
    record {
      ran = r;
      only = only-more is_clearing (stays_in Clear) clearing-stays v w o;
      alone =
          record {
            rest =
                record {
                  knows = ap (λ (s : SeatState). s.knows) e ∙ a.rest.knows;
                  alone = ap (λ (s : SeatState). s.alone) e ∙ a.rest.alone;
                  rest = ap (λ (x : Shape). has_nothing x w.state) (ran-shape v w r) ∙ (ap (λ (s : SeatState). has_nothing v.shape s) e ∙ a.rest.rest);
                };
            alone = alone-kept Clear is_clearing clearing-quiet v w r o a.alone;
          };
    }

abbrev pub one_if : Bool → ℕ
one_if b = if b then 1 else 0

-- none is left
pub drawn-none : (n : ℕ) (v w : View) (e : SeesNoBlockLeft v w) → n ≤ e.number → count_of (draws_block n) (events v w) ≡ 0
drawn-none n v w e l =
    ⊎_elim
    (λ (x : events v w ≡ event (ReadStat block_counter) e.number ∷ []). ap (count_of (draws_block n)) x)
    (λ (x : (seen : ℕ) × (events v w ≡ block_drawn seen e.number)).
    ap (count_of (draws_block n)) x.1 ∙ (let h = ap one_if (le-ltb e.number n l) in omega (arith, h)))
    e.events

pub looks-few : (v w : View) (e : SeesNoBlockLeft v w) → length (events v w) ≤ 2
looks-few v w e =
    ⊎_elim
    (λ (x : events v w ≡ event (ReadStat block_counter) e.number ∷ []). let k = ap length x in omega (arith, k))
    (λ (x : (seen : ℕ) × (events v w ≡ block_drawn seen e.number)). let k = ap length x.1 in omega (arith, k))
    e.events

-- Blocks are cleared of their marks by a seat that is alone, in pieces of a given number of stretches.
-- nothing is drawn by clearing what is in hand
clears-none : (n k : ℕ) → count_of (draws_block n) (replicate k (event ClearMarks 0)) ≡ 0
clears-none n zero = refl
clears-none n (suc k) = let rest = clears-none n k in omega (arith, rest)

-- blocks came in hand once and were cleared
pub cleared-one : (n b seen k : ℕ) → b < n → count_of (draws_block n) (block_drawn seen b ++ replicate k (event ClearMarks 0)) ≡ 1
cleared-one n b seen k l = let h = ap one_if (lt-ltb b n l) in let rest = clears-none n k in omega (arith, h, rest)

-- a look, a draw, and a step for each block of the stretch
pub cleared-few : (sh : Shape) (b seen : ℕ) → length (block_drawn seen b ++ replicate (stretch_end sh b - b) (event ClearMarks 0)) ≤ 2 + sh.stretch
cleared-few sh b seen = let long = length-replicate (stretch_end sh b - b) (event ClearMarks 0) in omega (arith, long)

-- how many steps are taken for this many stretches
pub more-stretches : (k each : ℕ) → k * each + each ≡ (k + 1) * each
more-stretches k each = omega arith

pub within-stretches : (k most each : ℕ) → k < most → k * each + each ≤ most * each
within-stretches k most each below = let grown = mul-le-mul_right each (succ-le k most below) in omega (arith, grown)
  where
    succ-le : (j n : ℕ) → j < n → j + 1 ≤ n
    succ-le j n l = omega (arith, l)

pub clears-on : (v w : View) → IsAtClear v → IsPart Clear v w → IsAtClear w
clears-on v w s p = record { owner = part-owner Clear v w p s.owner; alone = p.alone }

pub has-cleared : (sh : Shape) (v : View) → v.shape ≡ sh → IsAtClear v → block_count sh ≤ block_floor v → HasCleared v
has-cleared sh v e s b = record { clears = s; end = subst (λ k. block_count k ≤ block_floor v) (sym e) b }
