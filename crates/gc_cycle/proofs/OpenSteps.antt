-- A collection in steps whose stop is open to helpers.
use Rattle.std.proofs.Common.{◌≡◌, ◌⊎◌, ◌&&◌, ⊎_elim, inl, inr, refl, sym, ap, ◌∙◌, Some, true}
use Rattle.std.proofs.lemmas.Bool.{and_parts, and_from}
use Rattle.mark_core.specs.Places.{the_phase}
use Rattle.mark_core.specs.Seats.{is_the, phase_number, saw}
use Rattle.mark_core.specs.Steps.WorldSteps.{has_nothing}
use Rattle.mark_core.specs.declared.kinds.Phase.{Phase}
use Rattle.mark_core.specs.declared.kinds.Phase.TheVariants.{Drain, Sweep}
use Rattle.mark_core.specs.declared.kinds.Shape.{Shape}
use Rattle.mark_core.specs.declared.kinds.Step.{Step}
use Rattle.mark_core.specs.declared.seat.SeatState.{SeatState}
use Rattle.gc_table.specs.Log.{events}
use Rattle.gc_table.specs.Notes.{look}
use Rattle.gc_table.specs.Rule.{IsPossible}
use Rattle.gc_table.specs.Running.{Known, Ran}
use Rattle.gc_table.specs.declared.view.View.{View}
use Rattle.gc_table.proofs.History.Log.{only-more, only-none}
use Rattle.gc_table.proofs.Noticing.{knows-steady}
use Rattle.gc_table.proofs.Running.{ran-events, ran-join, ran-only, ran-refl, ran-shape}
use Rattle.packet_pools.specs.Seeking.{some_event}
use Rattle.packet_pools.proofs.Conditions.{some-is}
use Rattle.packet_pools.proofs.Searches.{some-left}
use Rattle.stop_world.specs.Gates.{IsOpenable}
use Rattle.stop_world.specs.Waiting.{Closes}
use Rattle.sweeper.proofs.Sweepers.{sweeping-stays as sweeps-quiet}
use Rattle.gc_cycle.specs.Finishing.{IsAloneIn, IsOpen, IsOpenPart, stays_in}
use Rattle.gc_cycle.specs.Lower.{sweeps_next}
use Rattle.gc_cycle.specs.SharedSteps.{IsClosing, IsShared, MaySweep, SweepsSome}
use Rattle.gc_cycle.specs.Sorts.{begins_exactly}
use Rattle.gc_cycle.specs.Stepping.{IsExactSince, IsOwner, Keeps}
use Rattle.gc_cycle.proofs.Ends.Spared.{finish-keeps}
use Rattle.gc_cycle.proofs.Ends.Swept.{done-of, nothing_by, sweeps-stay}
use Rattle.gc_cycle.proofs.Parts.{only-finishes}
use Rattle.gc_cycle.proofs.Stepped.{next-sweeps, owner-kept}
use Rattle.gc_cycle.proofs.Stops.Opened.{phase-kept}
use Rattle.gc_cycle.proofs.Stops.Unopened.{openable}

-- a cycle that began exactly goes on
pub exact-run : (u v w : View) → Ran v w → w.state.exact ≡ v.state.exact → IsExactSince u v → IsExactSince u w
exact-run u v w r e k =
    record {
      ran = ran-join u v w k.ran r;
      began = ap (some_event begins_exactly) (ran-events u v w k.ran r) ∙ some-left begins_exactly (events u v) (events v w) k.began;
      exact = e ∙ k.exact;
    }

pub shared-on : (p : Phase) (v w : View) → IsShared p v → IsOpenPart p v w → IsShared p w
shared-on p v w s h = record { owner = owner-kept v w h.ran (only-finishes p v w h.only) s.owner; opened = h.still }

pub open-keeps : (p : Phase) (v w : View) → IsOpenPart p v w → Keeps v w
open-keeps p v w h = finish-keeps v w h.ran (only-finishes p v w h.only)

pub openable-either : (v : View) → ∥ IsPossible v ∥₁ → IsAloneIn Drain v ⊎ IsAloneIn Sweep v → IsOpenable v
openable-either v q a = ⊎_elim (λ (d : IsAloneIn Drain v). openable Drain v q d refl) (λ (s : IsAloneIn Sweep v). openable Sweep v q s refl) a

-- help was shut
pub closing-of : (p : Phase) (v w : View) → Closes v w → IsOwner w → IsShared p v → IsClosing p w
closing-of p v w c k s =
    record {
      owner = k;
      knows = c.knows;
      shut = ap (λ (x : SeatState). x.opened) c.state;
      phase = (c.phase p s.opened.phase.0, knows-steady w.state (phase_number p) c.knows);
      rest = ap (λ (sh : Shape). has_nothing sh w.state) (ran-shape v w c.ran) ∙ (ap (λ (x : SeatState). has_nothing v.shape x) c.state ∙ s.opened.rest);
    }

-- Blocks are swept, by a seat that may.
pub swept-none : (v : View) → SweepsSome v v
swept-none v = record { ran = ran-refl v; only = only-none sweeps_next v; record_is = refl; left = λ e. e }

pub swept-join : (u v w : View) → SweepsSome u v → SweepsSome v w → SweepsSome u w
swept-join u v w a b =
    record {
      ran = ran-join u v w a.ran b.ran;
      only = ran-only sweeps_next u v w a.ran b.ran a.only b.only;
      record_is = b.record_is ∙ (λ i. record (a.record_is i) { below_block = w.state.below_block; cleaning = w.state.cleaning });
      left = λ e. b.left (a.left e);
    }

-- a seat that knows keeps its note of the phase while it sweeps
pub sweep-phase : (v w : View) → SweepsSome v w → v.state.knows ≡ true → look the_phase v.known ≡ Some 3 → Known w the_phase 3
sweep-phase v w s k e = phase-kept sweeps_next 3 (λ step h. sweeps-quiet step (next-sweeps step h)) v w s.ran s.only k (e, knows-steady v.state 3 k)

pub may-still : (v w : View) → SweepsSome v w → MaySweep v → MaySweep w
may-still v w s m =
    ⊎_elim
    (λ (h : (v.state.knows && is_the (look the_phase v.known) 3) ≡ true).
    let both = and_parts v.state.knows (is_the (look the_phase v.known) 3) h in
    let known = sweep-phase v w s both.0 (some-is (look the_phase v.known) 3 both.1) in
    inl (and_from w.state.knows _ (ap (λ (x : SeatState). x.knows) s.record_is ∙ both.0) (ap (λ q. is_the q 3) known.0)))
    (λ (h : (v.state.admitted && saw v.state.phase_seen Sweep) ≡ true). inr (ap (λ (x : SeatState). x.admitted && saw x.phase_seen Sweep) s.record_is ∙ h))
    m

pub swept-nothing : (v w : View) → SweepsSome v w → has_nothing v.shape v.state ≡ true → has_nothing w.shape w.state ≡ true
swept-nothing v w s r =
    ap (λ (sh : Shape). has_nothing sh w.state) (ran-shape v w s.ran)
    ∙ (ap (λ (x : SeatState). has_nothing v.shape x) s.record_is ∙ (ap (nothing_by v.shape v.state) (s.left (done-of v r) ∙ sym (done-of v r)) ∙ r))

next-stays : (step : Step) → sweeps_next step ≡ true → stays_in Sweep step ≡ true
next-stays step e = sweeps-stay step (next-sweeps step e)

-- while the stop is open
pub swept-open : (v w : View) → IsOpen Sweep v → SweepsSome v w → IsOpenPart Sweep v w
swept-open v w o s =
    record {
      ran = s.ran;
      only = only-more sweeps_next (stays_in Sweep) next-stays v w s.only;
      still =
          record {
            knows = ap (λ (x : SeatState). x.knows) s.record_is ∙ o.knows;
            opened = ap (λ (x : SeatState). x.opened) s.record_is ∙ o.opened;
            phase = sweep-phase v w s o.knows o.phase.0;
            rest = swept-nothing v w s o.rest;
          };
    }
