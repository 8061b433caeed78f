-- A history has a moment after each of its events.
use Rattle.std.proofs.Common.{ℕ, ◌≡◌, zero, suc, List, [], ◌∷◌, take, length, arith, refl, subst, sym, ap, ◌∙◌, ◌<◌, None, Some}
use Rattle.std.specs.Prelude.{slice_get}
use Rattle.mark_core.specs.Shapes.{IsShape}
use Rattle.mark_core.specs.Steps.{Core, after_event, failing_part, run_of, start_core}
use Rattle.mark_core.specs.declared.kinds.Event.{Event}
use Rattle.mark_core.specs.declared.kinds.Shape.{Shape}
use Rattle.mark_core.proofs.CoreKept.{core-starts}
use Rattle.gc_table.specs.Runs.{AreAllowed, core_after}
use Rattle.gc_table.specs.Sharing.{heap_after_events}
use Rattle.gc_table.specs.AgreementLaws.{world_after, world_run}
use Rattle.gc_table.specs.RunWorlds.{World, start_world}
use Rattle.gc_table.proofs.Finding.{steps-find}
use Rattle.gc_table.proofs.Freeing.{allowed}
use Rattle.gc_table.proofs.History.Past.{run-first, run-sound}
use Rattle.gc_table.proofs.Kept.{agrees-starts}
use Rattle.gc_table.proofs.Lending.{agree-on, world-first}
use Rattle.heap_laws.specs.Moments.{IsHistory, IsMoment, MomentsFound}

-- each event of a history is allowed in its turn
pub each-allowed : (sh : Shape) (es : List Event) → IsHistory sh es → AreAllowed (start_core sh 1) es
each-allowed sh es h = allowed 0 es (start_core sh 1) h.allowed

pub moment-after : (sh : Shape) (es : List Event) → IsHistory sh es → (k : ℕ) → IsMoment (core_after sh 1 es k) (heap_after_events sh es k)
moment-after sh es h k =
    record {
      core = h.sound k;
      agrees = agree-on es (start_core sh 1) (start_world sh) h.sound (each-allowed sh es h) (agrees-starts sh 1 (h.sound 0).formed.shaped) k;
    }

pub moments_found : MomentsFound
moments_found =
    record {
      on_closed = λ sh seats w es run. record { allowed = run.allowed; sound = run.sound };
      on_open =
          λ step n v f.
          let sh : Shape = f.state.core.shape in
          let shaped : IsShape sh = f.whole.core.formed.shaped in
          record {
            allowed = f.led.allowed;
            sound = λ m. run-sound m f.past (start_core sh 1) (core-starts sh 1 shaped (omega arith) (omega arith)) f.led.fit;
          };
      at_step = λ step n v f. record { core = f.whole.core; agrees = (steps-find step n v f).0 };
      each = moment-after;
    }

-- one event of a run, and what it does
pub record Next (es : List Event) (c : Core) (world : World) (k : ℕ) : Type 0 where
  pub event : Event
  pub there : slice_get es k ≡ Some event
  pub allowed : failing_part (run_of (take k es) c) event ≡ None
  pub core : run_of (take (suc k) es) c ≡ after_event (run_of (take k es) c) event
  pub heap : world_run (take (suc k) es) c world ≡ world_after (run_of (take k es) c) event (world_run (take k es) c world)

pub next-at : (es : List Event) (c : Core) (world : World) → AreAllowed c es → (k : ℕ) → k < length es → Next es c world k
next-at [] c world ok k h = absurd (omega (arith, h))
next-at (e ∷ es) c world ok zero h = record { event = e; there = refl; allowed = ok.0; core = run-first c e [] ok.0; heap = world-first c e [] world ok.0 }
next-at (e ∷ es) c world ok (suc k) h =
    let d : Core = after_event c e in
    let after : World = world_after c e world in
    let r : Next es d after k = next-at es d after ok.1 k (omega (arith, h)) in
    let now : run_of (e ∷ take k es) c ≡ run_of (take k es) d = run-first c e (take k es) ok.0 in
    let heap : world_run (e ∷ take k es) c world ≡ world_run (take k es) d after = world-first c e (take k es) world ok.0 in
    record {
      event = r.event;
      there = r.there;
      allowed = subst (λ (x : Core). failing_part x r.event ≡ None) (sym now) r.allowed;
      core = run-first c e (take (suc k) es) ok.0 ∙ (r.core ∙ ap (λ (x : Core). after_event x r.event) (sym now));
      heap =
          world-first c e (take (suc k) es) world ok.0
          ∙ (r.heap ∙ (ap (λ (x : Core). world_after x r.event (world_run (take k es) d after)) (sym now) ∙ ap (λ (w : World). world_after (run_of (e ∷ take k es) c) r.event w) (sym heap)));
    }
