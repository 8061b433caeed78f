-- How many steps the calls of a mutator take.
use Rattle.std.proofs.Common.{ℕ, suc, zero, ◌≤◌, ◌+◌, [], ◌∷◌, length, ap, arith, refl, subst, sym, Bool, true, false}
use Rattle.std.specs.Prelude.{◌≡◌, ◌==◌, if◌then◌else◌}
use Rattle.std.proofs.lemmas.List.{length-append}
use Rattle.mark_core.specs.Cards.{card_of}
use Rattle.mark_core.specs.Seats.{used_in}
use Rattle.mark_core.specs.declared.kinds.Step.{Step}
use Rattle.mark_core.specs.declared.kinds.Step.TheVariants.{DirtyCard, StoreSlot}
use Rattle.mark_core.specs.declared.seat.SeatState.{SeatState}
use Rattle.card_clean.specs.Barrier.{card_events, cell_in, seen_to}
use Rattle.gc_table.specs.Log.{event}
use Rattle.gc_table.specs.Seats.{Found}
use Rattle.gc_table.specs.declared.view.Entry.{Entry}
use Rattle.mark_core.specs.Numbers.{section_variables}
use Rattle.gc_table.specs.declared.view.View.{View}
use Rattle.mutator_ops.specs.Flushing.{flushing_steps}
use Rattle.mutator_ops.specs.Few.{AtMost}
use Rattle.mutator_ops.specs.Sharing.{FillsFound, TakesSteps}
use Rattle.mutator_ops.proofs.Few.{at-most-after, at-most-events, at-most-none, at-most-steps}
use Rattle.seat_turns.specs.Clearing.{clearing_steps}
use Rattle.seat_turns.specs.Exchanging.{ExchangesField, ExchangesValue}
use Rattle.seat_turns.specs.Standing.{flush_steps}
use Rattle.seat_steps.specs.Handing.{StopsFrom}
use Rattle.seat_steps.specs.declared.stepper.Stage.{Stage}
use Rattle.seat_steps.specs.declared.stepper.Stage.TheVariants.{Inside, Outside}

-- one card at most, by two steps
dirtied_long : (b : Bool) (x : Entry) → length (if b then [] else x ∷ []) ≤ 1
dirtied_long true x = omega arith
dirtied_long false x = omega arith

card_long : (b : Bool) (card word : ℕ) → length (if b then [] else card_events card word) ≤ 2
card_long true card word = omega arith
card_long false card word = let last = dirtied_long (word == 1) (event (DirtyCard card) 1) in omega (arith, last)

won_long : (b : Bool) (s : SeatState) (u word : ℕ) → length (if b then seen_to s u word else []) ≤ 2
won_long true s u word = card_long (used_in s.cache (cell_in s u)) (card_of (cell_in s u)) word
won_long false s u word = omega arith

pub exchanged-few : (u i x y : ℕ) (won : Bool) (v w : View) → ExchangesField u i x y won v w → AtMost 3 v w
exchanged-few u i x y won v w e = at-most-events 3 v w _ e.exchanged.did_are (let card = won_long won v.state u e.exchanged.card_word in omega (arith, card))

pub exchanged-one : (u m n : ℕ) (won : Bool) (v w : View) → ExchangesValue u m n won v w → AtMost 1 v w
exchanged-one u m n won v w e = at-most-after v w _ e.found e.finds.0

pub found-one : (step : Step) (n : ℕ) (v w : View) → Found step n v w → AtMost 1 v w
found-one step n v w e = at-most-after v w step n e.0

pub filled-few : (u k : ℕ) (v w : View) → FillsFound u k v w → AtMost 2 v w
filled-few u k v w e = at-most-events 2 v w _ e.events_are (omega arith)

pub took-one : (step : Step) (v w : View) → TakesSteps (step ∷ []) v w → AtMost 1 v w
took-one step v w e = at-most-steps 1 v w (step ∷ []) e.steps_are (omega arith)

-- a step for each slot
clearing_long : (from n : ℕ) → length (clearing_steps from n) ≡ n
clearing_long from zero = refl
clearing_long from (suc n) =
    let rest = clearing_long from n in
    let both = length-append (clearing_steps from n) (StoreSlot (from + n) 0 ∷ []) in
    omega (arith, rest, both)

pub cleared-few : (from n : ℕ) (v w : View) → TakesSteps (clearing_steps from n) v w → AtMost n v w
cleared-few from n v w e = at-most-steps n v w (clearing_steps from n) e.steps_are (let long = clearing_long from n in omega (arith, long))

-- nothing was done
pub still-few : (k : ℕ) (v w : View) → w ≡ v → AtMost k v w
still-few k v w same = subst (λ (x : View). AtMost k v x) (sym same) (at-most-none k v)

-- no root lags if objects aren't shared
flush-own : (v : View) → v.shape.sharing ≡ false → flush_steps v ≡ 0
flush-own v alone = ap (λ (b : Bool). if b then length (flushing_steps v.state.lags section_variables) else 0) alone

pub stopped-own : (s : Stage) (v w : View) → (s ≡ Inside → v.shape.sharing ≡ false) → StopsFrom s v w → AtMost 5 v w
stopped-own Outside v w alone same = still-few 5 v w same
stopped-own Inside v w alone left = subst (λ (n : ℕ). AtMost (n + 5) v w) (flush-own v (alone refl)) left.1
stopped-own s v w alone other = absurd other

-- who is let go of has left
pub stopped-few : (s : Stage) (v w : View) → StopsFrom s v w → AtMost (flush_steps v + 5) v w
stopped-few Outside v w same = still-few (flush_steps v + 5) v w same
stopped-few Inside v w left = left.1
stopped-few s v w other = absurd other
