-- A step at the gate of help: the stop is opened to helpers, or no more are let in, or the seat looks whether all have left.
use Rattle.std.proofs.Common.{ℕ, ◌≡◌, [], ◌∷◌, arith, refl, ap, ◌∙◌, Bool, true, false}
use Rattle.std.proofs.lemmas.Bool.{and_from, false≢true}
use Rattle.mark_core.specs.declared.kinds.Phase.{Phase}
use Rattle.mark_core.specs.declared.kinds.Step.{Step}
use Rattle.mark_core.specs.declared.kinds.Step.TheVariants.{CloseStep, OpenStep, SeeHelp}
use Rattle.mark_core.specs.declared.seat.SeatState.{SeatState}
use Rattle.gc_table.specs.Log.{Only, all_steps, event, events}
use Rattle.gc_table.specs.Running.{Ran}
use Rattle.gc_table.specs.Seats.{Answered, Took, view_of}
use Rattle.gc_table.specs.declared.seat.HeapSeat.{HeapSeat}
use Rattle.gc_table.specs.declared.view.View.{View}
use Rattle.gc_table.proofs.History.Log.{events-after}
use Rattle.gc_table.proofs.Running.{ran-answered, ran-took}
use Rattle.packet_pools.specs.Counts.{count_of}
use Rattle.sweeper.specs.Freeing.{freed_in, frees}
use Rattle.gc_cycle.specs.Finishing.{stays_in}
use Rattle.gc_cycle.specs.Sorts.{draws_block, pops}
use Rattle.gc_cycle.specs.Stepping.{Keeps}
use Rattle.mutator_ops.proofs.Few.{at-most-events}
use Rattle.seat_steps.specs.Amounts.{DoesFew}
use Rattle.seat_steps.proofs.Sparing.{Kept, stays-kept}

abbrev pub is_gate : Step → Bool
is_gate OpenStep = true
is_gate CloseStep = true
is_gate SeeHelp = true
is_gate step = false

-- one of these steps was taken, and nothing else was done
pub record Gates (v w : View) : Type 0 where
  pub step : Step
  pub found : ℕ
  pub gate : is_gate step ≡ true
  pub ran : Ran v w
  pub all : events v w ≡ event step found ∷ []

pub opens : (v w : View) → Took OpenStep v w → Gates v w
opens v w t = record { step = OpenStep; found = t.0; gate = refl; ran = ran-took v w OpenStep refl t; all = events-after v w OpenStep t.0 t.1.0 }

pub shuts : (v w : View) → Took CloseStep v w → Gates v w
shuts v w t = record { step = CloseStep; found = t.0; gate = refl; ran = ran-took v w CloseStep refl t; all = events-after v w CloseStep t.0 t.1.0 }

pub looks : (P : ℕ → Type 0) (v w : View) → Answered SeeHelp P v w → Gates v w
looks P v w a = record { step = SeeHelp; found = a.0; gate = refl; ran = ran-answered v w SeeHelp P refl a; all = events-after v w SeeHelp a.0 a.1 }

stays : (p : Phase) (step : Step) → is_gate step ≡ true → stays_in p step ≡ true
stays p OpenStep e = refl
stays p CloseStep e = refl
stays p SeeHelp e = refl
stays p step e = absurd (false≢true e)

popless : (step : Step) (n : ℕ) → is_gate step ≡ true → count_of pops (event step n ∷ []) ≡ 0
popless OpenStep n e = refl
popless CloseStep n e = refl
popless SeeHelp n e = refl
popless step n e = absurd (false≢true e)

drawless : (blocks : ℕ) (step : Step) (n : ℕ) → is_gate step ≡ true → count_of (draws_block blocks) (event step n ∷ []) ≡ 0
drawless blocks OpenStep n e = refl
drawless blocks CloseStep n e = refl
drawless blocks SeeHelp n e = refl
drawless blocks step n e = absurd (false≢true e)

freeless : (s : SeatState) (step : Step) (n : ℕ) → is_gate step ≡ true → frees s step n ≡ 0
freeless s OpenStep n e = refl
freeless s CloseStep n e = refl
freeless s SeeHelp n e = refl
freeless s step n e = absurd (false≢true e)

pub gate-stays : (p : Phase) (v w : View) → Gates v w → Only (stays_in p) v w
gate-stays p v w g = ap (all_steps (stays_in p)) g.all ∙ and_from (stays_in p g.step) true (stays p g.step g.gate) refl

pub gate-few : (v w : View) → Gates v w → DoesFew 1 v w
gate-few v w g = (
  (ap (count_of pops) g.all ∙ popless g.step g.found g.gate, λ blocks. ap (count_of (draws_block blocks)) g.all ∙ drawless blocks g.step g.found g.gate),
  at-most-events 1 v w _ g.all (omega arith),
)

pub gate-frees : (v w : View) → Gates v w → freed_in v (events v w) ≡ 0
gate-frees v w g =
    let all = ap (freed_in v) g.all in
    let none = freeless v.state g.step g.found g.gate in
    omega (arith, all, none)

-- what the seat is and has made stays
pub gate-kept : (p : Phase) (x y : HeapSeat) → Gates (view_of x) (view_of y) → Keeps (view_of x) (view_of y) → Kept x y
gate-kept p x y g k = stays-kept p x y g.ran (gate-stays p (view_of x) (view_of y) g) k
