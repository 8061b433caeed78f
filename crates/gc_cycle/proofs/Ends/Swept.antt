-- What a sweep keeps, and how far the counter of blocks has come after it.
use Rattle.std.proofs.Common.{ℕ, ◌≡◌, ◌≤◌, ◌<◌, refl, ap, arith, true, false, Some, None, Option, not, Bool, is_some, ◌&&◌, ◌||◌}
use Rattle.std.specs.Prelude.{unwrap_or, is_none, ◌==◌}
use Rattle.std.proofs.lemmas.Bool.{false≢true, and_parts, or_parts}
use Rattle.mark_core.specs.Notes.{keeps_bound}
use Rattle.mark_core.specs.Places.{the_next_block}
use Rattle.mark_core.specs.Seats.{cleaning_left, empty_handed, scan_left, work_in_hand}
use Rattle.mark_core.specs.declared.kinds.Step.{Step}
use Rattle.mark_core.specs.declared.kinds.Step.TheVariants.{NextBlock, ReadAlloc, ReadBlockMarks, StoreAlloc, ClearMarks, ReadStat}
use Rattle.mark_core.specs.declared.seat.SeatState.{SeatState}
use Rattle.gc_table.specs.Log.{Only}
use Rattle.gc_table.specs.Notes.{look}
use Rattle.gc_table.specs.Running.{AtLeast, IsSeen, Ran}
use Rattle.gc_table.specs.Taking.{after}
use Rattle.gc_table.specs.declared.view.View.{View}
use Rattle.gc_table.proofs.Running.{run-keeps}
use Rattle.sweeper.specs.Freeing.{block_floor}
use Rattle.sweeper.specs.Sweepers.{is_sweeping}
use Rattle.tracer.proofs.Hand.{alloc-left}
use Rattle.mark_core.specs.Steps.WorldSteps.{has_nothing}
use Rattle.mark_core.specs.declared.kinds.Phase.TheVariants.{Sweep}
use Rattle.mark_core.specs.declared.kinds.Shape.{Shape}
use Rattle.gc_cycle.specs.Finishing.{stays_in}

-- a seat that sweeps stays in the sweep, and is alone still if it was
pub sweeps-stay : (step : Step) → is_sweeping step ≡ true → stays_in Sweep step ≡ true
sweeps-stay NextBlock e = refl
sweeps-stay (ReadAlloc b) e = refl
sweeps-stay ReadBlockMarks e = refl
sweeps-stay StoreAlloc e = refl
sweeps-stay ClearMarks e = refl
sweeps-stay (ReadStat which) e = refl
sweeps-stay step e = absurd (false≢true e)

-- nothing is in hand, by whether something of a cleaning is left
abbrev pub nothing_by : Shape → SeatState → Bool → Bool
nothing_by sh s left =
    empty_handed s && not (is_some s.popped || scan_left sh.fields s.scan || is_some s.value || is_some s.fresh || left) && is_none s.owes && is_none s.cache && is_none s.block && ((s.got == 0) && (s.lags == 0))

pub unless : (b : Bool) → not b ≡ true → b ≡ false
unless true e = absurd (false≢true e)
unless false e = refl

-- nothing is left of a cleaning
pub done-of : (w : View) → has_nothing w.shape w.state ≡ true → cleaning_left w.state.cleaning ≡ false
done-of w e =
    let work : not (work_in_hand w.shape.fields w.state) ≡ true = (and_parts _ _ (and_parts _ _ (and_parts _ _ (and_parts _ _ (and_parts _ _ e).0).0).0).0).1 in
    (or_parts _ (cleaning_left w.state.cleaning) (unless (work_in_hand w.shape.fields w.state) work)).1

done-step : (x : View) (step : Step) (n : ℕ) → is_sweeping step ≡ true → IsSeen step n x → cleaning_left x.state.cleaning ≡ false → cleaning_left (after step n x).state.cleaning ≡ false
done-step x NextBlock n p s q = q
done-step x (ReadAlloc b) n p s q = alloc-left x.state.cleaning b n q
done-step x ReadBlockMarks n p s q = q
done-step x StoreAlloc n p s q = q
done-step x ClearMarks n p s q = q
done-step x (ReadStat which) n p s q = q
done-step x step n p s q = absurd (false≢true p)

-- a cleaning that is done stays so while the seat sweeps
pub cleaning-done : (v w : View) → Ran v w → Only is_sweeping v w → cleaning_left v.state.cleaning ≡ false → cleaning_left w.state.cleaning ≡ false
cleaning-done v w r o q = run-keeps is_sweeping (λ (x : View). cleaning_left x.state.cleaning ≡ false) done-step v w r o q

pub floor-above : (n : ℕ) (w : View) → AtLeast w the_next_block n → n ≤ block_floor w
floor-above n w a = let is = ap (λ (o : Option ℕ). unwrap_or o 0) a.noted in omega (arith, is, a.above)

pub floor-low : (v : View) (b : ℕ) → keeps_bound v.state the_next_block ≡ true → ((m : ℕ) → AtLeast v the_next_block m → m ≤ b) → block_floor v ≤ b
floor-low v b keeps order = by_note (look the_next_block v.floors) refl
  where
    by_note : (o : Option ℕ) → look the_next_block v.floors ≡ o → block_floor v ≤ b
    by_note None h = let is = ap (λ (o : Option ℕ). unwrap_or o 0) h in omega (arith, is)
    by_note (Some m) h =
        let is = ap (λ (o : Option ℕ). unwrap_or o 0) h in
        let low = order m (record { floor = m; noted = h; above = omega arith; kept = keeps }) in
        omega (arith, is, low)

-- the next block lies above those that the seat knew to be handed out
pub floor-rises : (v w : View) (b e : ℕ) → keeps_bound v.state the_next_block ≡ true → b < e → ((m : ℕ) → AtLeast v the_next_block m → m ≤ b) → AtLeast w the_next_block e → block_floor v < block_floor w
floor-rises v w b e keeps some order above = let low = floor-low v b keeps order in let high = floor-above e w above in omega (arith, low, high, some)
