-- What the end of a cycle leaves of a part that is being played.
use Rattle.std.proofs.Common.{ℕ, ◌≡◌, List, [], ◌∷◌, refl, ap, ◌∙◌, true, false, not}
use Rattle.std.proofs.lemmas.Bool.{and_from, and_parts, false≢true, not-true, or_from, or_parts, true≢false}
use Rattle.mark_core.specs.declared.kinds.Phase.TheVariants.{Clear, Drain, Full, Idle, Marking, Sweep}
use Rattle.mark_core.specs.declared.kinds.Step.{Step}
use Rattle.mark_core.specs.declared.kinds.Step.TheVariants.{DropStep, JoinHelpStep, LeaveHelpStep, RaiseStep, ReadCat, ReadOwn, ReadPhase, StorePhase, StorePosition, ReadSlot, ReadWeak}
use Rattle.gc_table.specs.Log.{all_steps, events, Only}
use Rattle.gc_table.specs.declared.view.Entry.{Entry}
use Rattle.gc_table.specs.declared.view.View.{View}
use Rattle.packet_pools.specs.Seeking.{some_event}
use Rattle.gc_cycle.specs.Cycles.{never_fills}
use Rattle.gc_cycle.specs.Events.{never}
use Rattle.gc_cycle.specs.Finishing.{finishes}
use Rattle.gc_cycle.specs.Sorts.{moves_to, raises_flag, reads_phase, tells_full}
use Rattle.gc_cycle.specs.Mutating.{keeps_section}
use Rattle.gc_cycle.specs.Standing.{KeepsSeat, KeepsSection}
use Rattle.gc_table.specs.Running.{Ran}
use Rattle.gc_table.specs.Taking.{after}
use Rattle.gc_table.proofs.History.Log.{only-more}
use Rattle.gc_table.proofs.Running.{run-keeps}
use Rattle.gc_cycle.proofs.SectionKept.{keeps-seat, keeps-section}
use Rattle.gc_cycle.specs.Polling.{saw_full}
use Rattle.gc_cycle.specs.Sparing.{spares_part}
use Rattle.gc_cycle.proofs.Sequences.{none-of-steps}

spared : (step : Step) (n : ℕ) → finishes step ≡ true → moves_to Full step n ≡ false → spares_part step ≡ true
spared (StorePhase Idle) n e h = refl
spared (StorePhase Marking) n e h = refl
spared (StorePhase Drain) n e h = refl
spared (StorePhase Sweep) n e h = refl
spared (StorePhase Clear) n e h = refl
spared (StorePhase Full) n e h = absurd (true≢false h)
spared RaiseStep n e h = absurd (false≢true e)
spared ReadPhase n e h = refl
spared (StorePosition done) n e h = refl
spared DropStep n e h = absurd (false≢true e)
spared JoinHelpStep n e h = absurd (false≢true e)
spared LeaveHelpStep n e h = absurd (false≢true e)
spared (ReadOwn c i) n e h = absurd (false≢true e)
spared (ReadCat v) n e h = absurd (false≢true e)
spared (ReadSlot k) n e h = absurd (false≢true e)
spared (ReadWeak c) n e h = absurd (false≢true e)
spared step n e h = e

all-spared : (es : List Entry) → all_steps finishes es ≡ true → some_event (moves_to Full) es ≡ false → all_steps spares_part es ≡ true
all-spared [] a h = refl
all-spared (x ∷ es) a h =
    let p = and_parts (finishes x.step) (all_steps finishes es) a in
    let q = or_parts (moves_to Full x.step x.found) (some_event (moves_to Full) es) h in
    and_from _ _ (spared x.step x.found p.0 q.0) (all-spared es p.1 q.1)

-- if nothing told that the heap is full, it wasn't said, and wasn't seen
untold : (es : List Entry) → some_event tells_full es ≡ false → (some_event (moves_to Full) es ≡ false) × (saw_full es ≡ false)
untold [] h = (refl, refl)
untold (x ∷ es) h =
    let p = or_parts (tells_full x.step x.found) (some_event tells_full es) h in
    let q = or_parts (moves_to Full x.step x.found) (reads_phase Full x.step x.found) p.0 in
    let r = untold es p.1 in
    (or_from _ _ q.0 r.0, or_from _ _ q.1 r.1)

pub untold-fills : (es : List Entry) → never tells_full es ≡ true → never_fills es ≡ true
untold-fills es h = ap not (untold es (not-true _ h)).0

pub untold-sees : (es : List Entry) → never tells_full es ≡ true → saw_full es ≡ false
untold-sees es h = (untold es (not-true _ h)).1

-- a step that finishes a cycle raises no flag
no-raise : (step : Step) (n : ℕ) → finishes step ≡ true → raises_flag step n ≡ false
no-raise RaiseStep n e = absurd (false≢true e)
no-raise step n e = refl

pub finish-calm : (v w : View) → Only finishes v w → never raises_flag (events v w) ≡ true
finish-calm v w o = ap not (none-of-steps finishes raises_flag no-raise (events v w) o)

-- the section and the position stay
pub keeps : (step : Step) → finishes step ≡ true → keeps_section step ≡ true
keeps (StorePhase to) e = refl
keeps ReadPhase e = refl
keeps RaiseStep e = refl
keeps DropStep e = refl
keeps JoinHelpStep e = refl
keeps LeaveHelpStep e = refl
keeps (StorePosition done) e = refl
keeps step e = e

pub finish-keeps : (v w : View) → Ran v w → Only finishes v w → KeepsSeat v w × KeepsSection v w
finish-keeps v w r o = let k = only-more finishes keeps_section keeps v w o in (keeps-seat v w r k, keeps-section v w r k)

position-step : (x : View) (step : Step) (n : ℕ) → finishes step ≡ true → (after step n x).own.position ≡ x.own.position
position-step x (StorePosition done) n e = absurd (false≢true e)
position-step x step n e = refl

pub finish-position : (v w : View) → Ran v w → Only finishes v w → w.own.position ≡ v.own.position
finish-position v w r o = run-keeps finishes (λ (x : View). x.own.position ≡ v.own.position) (λ x step n p s k. position-step x step n p ∙ k) v w r o refl

pub finish-spares : (v w : View) → Only finishes v w → never_fills (events v w) ≡ true → Only spares_part v w
finish-spares v w o n = all-spared (events v w) o (not-true _ n)
