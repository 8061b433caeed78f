-- A stop that is opened to helpers, and closed again.
use Rattle.std.proofs.Common.{ℕ, ◌≡◌, ◌≤◌, refl, ap, ◌∙◌, Bool, true, false, Some, None, Option, arith}
use Rattle.std.specs.Prelude.{unwrap_or}
use Rattle.std.proofs.lemmas.Bool.{false≢true, or_right}
use Rattle.mark_core.specs.Effects.{place, seat_after, written}
use Rattle.mark_core.specs.Notes.{keeps_bound}
use Rattle.mark_core.specs.Places.{the_next_block, the_phase}
use Rattle.mark_core.specs.Seats.{phase_number}
use Rattle.mark_core.specs.Steps.WorldSteps.{has_nothing}
use Rattle.mark_core.specs.declared.kinds.Phase.{Phase}
use Rattle.mark_core.specs.declared.kinds.Shape.{Shape}
use Rattle.mark_core.specs.declared.kinds.Step.{Step}
use Rattle.mark_core.specs.declared.kinds.Step.TheVariants.{CloseStep, OpenStep, SeeHelp}
use Rattle.mark_core.specs.declared.seat.SeatState.{SeatState}
use Rattle.gc_table.specs.Notes.{look}
use Rattle.gc_table.specs.Seats.{Took}
use Rattle.gc_table.specs.Taking.{after}
use Rattle.gc_table.specs.declared.view.View.{View}
use Rattle.packet_pools.specs.Seeking.{some_event}
use Rattle.packet_pools.proofs.Searches.{some-left}
use Rattle.gc_table.specs.Log.{events, Only}
use Rattle.gc_table.specs.Running.{ends_alone, IsSeen, Known, Ran}
use Rattle.gc_table.proofs.History.Log.{events-after, only-after, only-more}
use Rattle.gc_table.proofs.Noticing.{known-step, knows-stays, knows-steady, note-stays, spares-phase}
use Rattle.gc_table.proofs.Running.{ran-events, ran-join, ran-only, ran-shape, ran-took, run-keeps}
use Rattle.stop_world.specs.Waiting.{StaysIn, closes}
use Rattle.sweeper.specs.Freeing.{block_floor}
use Rattle.gc_cycle.specs.DrainRounds.{DrainsTogether}
use Rattle.gc_cycle.specs.Finishing.{IsAloneIn, IsOpen, IsPart, stays_in}
use Rattle.gc_cycle.specs.Moments.{total_of}
use Rattle.gc_cycle.specs.Sorts.{opens_help}
use Rattle.gc_cycle.proofs.Ends.Completing.{total-run}
use Rattle.gc_cycle.proofs.Sequences.{total-none}

pub open-ran : (v w : View) → Took OpenStep v w → Ran v w
open-ran v w t = ran-took v w OpenStep refl t

-- the seat has opened
pub opened : (p : Phase) (v w : View) → IsAloneIn p v → Took OpenStep v w → Known w the_phase (phase_number p) → IsOpen p w
opened p v w a t known =
    record {
      knows = ap (λ (x : View). x.state.knows) t.1.0 ∙ a.rest.knows;
      opened = ap (λ (x : View). x.state.opened) t.1.0;
      phase = known;
      rest = ap (λ (x : View). has_nothing x.shape x.state) t.1.0 ∙ a.rest.rest;
    }

-- it has closed, and is alone
pub closed : (p : Phase) (v w : View) → IsOpen p v → Ran v w → w.state ≡ record v.state { opened = false; alone = true } → StaysIn v w → IsAloneIn p w
closed p v w a r e still =
    let alone = still p a.phase.0 in
    record {
      rest =
          record {
            knows = ap (λ (s : SeatState). s.knows) e ∙ a.knows;
            alone = ap (λ (s : SeatState). s.alone) e;
            rest = ap (λ (sh : Shape). has_nothing sh w.state) (ran-shape v w r) ∙ (ap (λ (s : SeatState). has_nothing v.shape s) e ∙ a.rest);
          };
      alone = alone;
    }

closes-stay : (p : Phase) (step : Step) → closes step ≡ true → stays_in p step ≡ true
closes-stay p CloseStep e = refl
closes-stay p SeeHelp e = refl
closes-stay p step e = absurd (false≢true e)

-- what is done between an opening and a closing
pub open-part : (p : Phase) (v0 v1 v2 v3 : View) → Took OpenStep v0 v1 → Ran v1 v2 → Only (stays_in p) v1 v2 → Ran v2 v3 → Only closes v2 v3 → IsAloneIn p v3 → IsPart p v0 v3
open-part p v0 v1 v2 v3 t r o q d a =
    let first = open-ran v0 v1 t in
    let only0 : Only (stays_in p) v0 v1 = only-after (stays_in p) v0 v1 OpenStep t.0 (open-stays p) t.1.0 in
    let only2 : Only (stays_in p) v2 v3 = only-more closes (stays_in p) (closes-stay p) v2 v3 d in
    record {
      ran = ran-join v0 v1 v3 first (ran-join v1 v2 v3 r q);
      only = ran-only (stays_in p) v0 v1 v3 first (ran-join v1 v2 v3 r q) only0 (ran-only (stays_in p) v1 v2 v3 r q o only2);
      alone = a;
    }
  where
    open-stays : (x : Phase) → stays_in x OpenStep ≡ true
    open-stays x = refl

pub open-event : (v0 v1 v3 : View) → Took OpenStep v0 v1 → Ran v1 v3 → some_event opens_help (events v0 v3) ≡ true
open-event v0 v1 v3 t r =
    ap (some_event opens_help) (ran-events v0 v1 v3 (open-ran v0 v1 t) r)
    ∙ some-left opens_help (events v0 v1) (events v1 v3) (ap (some_event opens_help) (events-after v0 v1 OpenStep t.0 t.1.0))

-- help was opened in a drain with helpers
pub together-opened : (v w : View) → DrainsTogether v w → some_event opens_help (events v w) ≡ true
together-opened v w d = open-event v d.let_in w d.opens (ran-join d.let_in d.cleaned w d.cleans (ran-join d.cleaned d.rooted w d.sees (ran-join d.rooted d.traced w d.traces d.closes.0)))

-- what neither opening nor closing does
pub open-total : (f : SeatState → Step → ℕ → ℕ) → ((s : SeatState) (n : ℕ) → f s OpenStep n ≡ 0) → ((s : SeatState) (step : Step) (n : ℕ) → closes step ≡ true → f s step n ≡ 0) → (v0 v1 v2 v3 : View) → Took OpenStep v0 v1 → Ran v1 v2 → Ran v2 v3 → Only closes v2 v3
    → total_of f v0 (events v0 v3) ≡ total_of f v1 (events v1 v2)
open-total f a b v0 v1 v2 v3 t r q d =
    let all = total-run f v0 v1 v3 (open-ran v0 v1 t) (ran-join v1 v2 v3 r q) in
    let later = total-run f v1 v2 v3 r q in
    let first = ap (total_of f v0) (events-after v0 v1 OpenStep t.0 t.1.0) in
    let none = a v0.state t.0 in
    let last = total-none f closes b (events v2 v3) v2 d in
    omega (arith, all, later, first, none, last)

-- the counter of blocks doesn't fall while helpers leave
FloorsAt : ℕ → View → Type 0
FloorsAt n x = (look the_next_block x.floors ≡ Some n) × (x.state.knows ≡ true)

closes-floor : (n : ℕ) (x : View) (step : Step) (m : ℕ) → closes step ≡ true → IsSeen step m x → FloorsAt n x → FloorsAt n (after step m x)
unfolding FloorsAt
closes-floor n x CloseStep m e s f = (note-stays (λ at k. keeps_bound (seat_after x.shape x.state CloseStep m) at) (place x.shape x.state CloseStep) the_next_block (written x.shape x.state CloseStep m) n x.floors refl (or_right x.state.admitted x.state.knows f.1) f.0, f.1)
closes-floor n x SeeHelp m e s f = (note-stays (λ at k. keeps_bound (seat_after x.shape x.state SeeHelp m) at) (place x.shape x.state SeeHelp) the_next_block (written x.shape x.state SeeHelp m) n x.floors refl (or_right x.state.admitted x.state.knows f.1) f.0, f.1)
closes-floor n x step m e s f = absurd (false≢true e)

floor-of : (all : ℕ) (v w : View) (o : Option ℕ) → look the_next_block v.floors ≡ o → Ran v w → Only closes v w → v.state.knows ≡ true → all ≤ unwrap_or o 0 → all ≤ block_floor w
unfolding FloorsAt
floor-of all v w None e r o k h = omega (arith, h)
floor-of all v w (Some n) e r o k h =
    let f = run-keeps closes (FloorsAt n) (closes-floor n) v w r o (e, k) in
    let is = ap (λ x. unwrap_or x 0) f.0 in
    omega (arith, h, is)

pub closes-block_floor : (all : ℕ) (v w : View) → Ran v w → Only closes v w → v.state.knows ≡ true → all ≤ block_floor v → all ≤ block_floor w
closes-block_floor all v w r o k h = floor-of all v w (look the_next_block v.floors) refl r o k h

-- a seat that knows keeps its note of the phase, unless it moves it
pub phase-kept : (P : Step → Bool) (m : ℕ) → ((step : Step) → P step ≡ true → ends_alone step ≡ false) → (v w : View) → Ran v w → Only P v w → v.state.knows ≡ true → Known v the_phase m → Known w the_phase m
phase-kept P m h v w r o k n =
    (run-keeps P (λ (x : View). Known x the_phase m × (x.state.knows ≡ true))
    (λ x step d p s q.
    let knows = knows-stays x.shape x.state step d (h step p) q.1 in
    (known-step x step d the_phase m (spares-phase x.shape x.state step (h step p)) s (knows-steady (seat_after x.shape x.state step d) m knows) q.0.0, knows))
    v w r o (n, k)).0
