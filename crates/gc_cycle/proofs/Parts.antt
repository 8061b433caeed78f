-- The parts of a stop, one after another.
use Rattle.std.proofs.Common.{ℕ, ◌≡◌, [], ◌∷◌, ◌++◌, refl, sym, ap, ◌∙◌, subst, true, false}
use Rattle.std.proofs.lemmas.Bool.{true≢false}
use Rattle.mark_core.specs.Effects.{seat_after}
use Rattle.mark_core.specs.Seats.{phase_number}
use Rattle.mark_core.specs.Steps.WorldSteps.{has_nothing}
use Rattle.mark_core.specs.declared.kinds.Phase.{Phase}
use Rattle.mark_core.specs.declared.kinds.Step.{Step}
use Rattle.mark_core.specs.declared.kinds.Step.TheVariants.{Pop, DropStep, ReadField, ReadPhase, Reset, StoreAlloc, StorePhase}
use Rattle.mark_core.specs.declared.seat.SeatState.{SeatState}
use Rattle.gc_table.specs.Taking.{after}
use Rattle.gc_table.specs.declared.view.View.{View}
use Rattle.gc_table.specs.Log.{all_steps, event, events, Only}
use Rattle.gc_table.specs.Running.{ends_alone, IsSeen, Ran}
use Rattle.gc_table.proofs.History.Log.{events-after, only-after, only-more, only-none}
use Rattle.gc_table.proofs.Noticing.{alone-step}
use Rattle.gc_table.proofs.Running.{ran-after, ran-events, ran-join, ran-only, ran-refl}
use Rattle.gc_cycle.specs.Finishing.{finishes, IsAloneIn, IsMove, IsPart, stays, stays_in}

pub part-none : (p : Phase) (v : View) → IsAloneIn p v → IsPart p v v
part-none p v a = record { ran = ran-refl v; only = only-none (stays_in p) v; alone = a }

pub part-join : (p : Phase) (u v w : View) → IsPart p u v → IsPart p v w → IsPart p u w
part-join p u v w a b = record { ran = ran-join u v w a.ran b.ran; only = ran-only (stays_in p) u v w a.ran b.ran a.only b.only; alone = b.alone }

-- a step that leaves the record of a seat that is alone
pub alone-after : (p : Phase) (v w : View) (step : Step) (n : ℕ) → ends_alone step ≡ false → seat_after v.shape v.state step n ≡ v.state → IsSeen step n v → w ≡ after step n v → IsAloneIn p v → IsAloneIn p w
alone-after p v w step n quiet same seen is a =
    let x : View = after step n v in
    let state : x.state ≡ v.state = same in
    subst (IsAloneIn p) (sym is)
    (record {
      rest =
          record {
            knows = ap (λ (s : SeatState). s.knows) state ∙ a.rest.knows;
            alone = ap (λ (s : SeatState). s.alone) state ∙ a.rest.alone;
            rest = ap (λ (s : SeatState). has_nothing v.shape s) state ∙ a.rest.rest;
          };
      alone = alone-step p v step n quiet seen a.alone;
    })

pub part-step : (p : Phase) (v w : View) (step : Step) (n : ℕ) → ends_alone step ≡ false → stays_in p step ≡ true → seat_after v.shape v.state step n ≡ v.state → IsSeen step n v → w ≡ after step n v → IsAloneIn p v → IsPart p v w
part-step p v w step n quiet keeps same seen is a =
    record { ran = ran-after v w step n is seen; only = only-after (stays_in p) v w step n keeps is; alone = alone-after p v w step n quiet same seen is a }

-- what a reset stored
pub reset-seen : (v : View) (which : ℕ) → IsSeen (Reset which) 0 v
reset-seen v which = record { found = λ e. absurd (true≢false e); stored = λ e. refl }

pub part-reset : (p : Phase) (which : ℕ) (v w : View) → w ≡ after (Reset which) 0 v → IsAloneIn p v → IsPart p v w
part-reset p which v w is a = part-step p v w (Reset which) 0 refl refl refl (reset-seen v which) is a

pub only-reset : (which : ℕ) (v w : View) → w ≡ after (Reset which) 0 v → events v w ≡ event (Reset which) 0 ∷ []
only-reset which v w is = events-after v w (Reset which) 0 is

-- the events of a move and of a reset after it
pub move-events : (from to : Phase) (which : ℕ) (u v w : View) → IsMove from to u v → w ≡ after (Reset which) 0 v → events u w ≡ event (StorePhase to) (phase_number from) ∷ event (Reset which) 0 ∷ []
move-events from to which u v w m is =
    let r : Ran v w = ran-after v w (Reset which) 0 is (reset-seen v which) in
    ran-events u v w m.ran r
    ∙ (ap (λ es. es ++ events v w) (m.events_are ∙ ap (λ n. event (StorePhase to) n ∷ []) m.from_is) ∙ ap (λ es. event (StorePhase to) (phase_number from) ∷ es) (only-reset which v w is))

-- a step that stays in a phase stays
pub stays-any : (p : Phase) (step : Step) → stays_in p step ≡ true → stays step ≡ true
stays-any p (StorePhase to) e = absurd (true≢false (sym e))
stays-any p DropStep e = absurd (true≢false (sym e))
stays-any p (Pop packet) e = refl
stays-any p (ReadField c i) e = refl
stays-any p StoreAlloc e = refl
stays-any p step e = e

pub part-stays : (p : Phase) (v w : View) → IsPart p v w → Only stays v w
part-stays p v w h = only-more (stays_in p) stays (stays-any p) v w h.only

stays-finish : (step : Step) → stays step ≡ true → finishes step ≡ true
stays-finish (StorePhase to) e = refl
stays-finish ReadPhase e = refl
stays-finish step e = e

pub only-finishes : (p : Phase) (v w : View) → Only (stays_in p) v w → Only finishes v w
only-finishes p v w o = only-more stays finishes stays-finish v w (only-more (stays_in p) stays (stays-any p) v w o)

pub part-finishes : (p : Phase) (v w : View) → IsPart p v w → Only finishes v w
part-finishes p v w h = only-finishes p v w h.only

pub move-finishes : (from to : Phase) (v w : View) → IsMove from to v w → Only finishes v w
move-finishes from to v w m = ap (all_steps finishes) m.events_are
