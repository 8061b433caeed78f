-- An exact cycle that the catalogue's seat ends after the warehouses' turn settles the heap, and it stays settled while the seat stores nothing.
use Rattle.std.proofs.Common.{ℕ, ◌≡◌, ◌+◌, ◌%◌, ◌==◌, ◌&&◌, ◌||◌, List, [], ◌∷◌, refl, sym, ap, ◌∙◌, subst, true, false, Option, Some, arith, eq-eqb, eqb-true, ⊎_elim}
use Rattle.std.specs.Prelude.{unwrap_or}
use Rattle.std.proofs.lemmas.Bool.{and_from, and_parts, false≢true, true≢false, or_cases, or_right}
use Rattle.mark_core.specs.Effects.{seat_after}
use Rattle.mark_core.specs.Seats.{is_phase, is_the, saw}
use Rattle.mark_core.specs.declared.kinds.Phase.TheVariants.{Full, Idle, Sweep}
use Rattle.mark_core.specs.declared.kinds.Step.{Step}
use Rattle.mark_core.specs.declared.kinds.Step.TheVariants.{ExchangeField, ExchangeValue, NextSeason, StoreField, StoreNew, StorePhase, StoreRoot, StoreValue, StoreSlot, HoldRoot}
use Rattle.mark_core.specs.declared.seat.SeatState.{SeatState}
use Rattle.mark_core.proofs.Writing.Frames.{identity-kept}
use Rattle.gc_table.specs.Log.{Only, all_steps, events}
use Rattle.gc_table.specs.Running.{Alone, Ran, after_all}
use Rattle.gc_table.specs.Taking.{after, moves_from}
use Rattle.gc_table.specs.declared.view.Entry.{Entry}
use Rattle.gc_table.specs.declared.view.View.{View}
use Rattle.gc_table.proofs.Running.{ran-events}
use Rattle.gc_cycle.specs.Cycles.{collects_exactly, ends_exactly}
use Rattle.gc_cycle.specs.Events.{never}
use Rattle.gc_cycle.specs.Moments.{Moment, after_moment, at_some_moment, begins}
use Rattle.gc_cycle.specs.Polling.{saw_full}
use Rattle.gc_cycle.specs.Sorts.{begins_exactly, ends_cycle, raises_flag, reads_phase}
use Rattle.gc_cycle.specs.Sparing.{spares_part}
use Rattle.gc_cycle.proofs.Sequences.{some-none as neither}
use Rattle.warehouse.specs.Turns.{LeavesStop, turns_season}
use Rattle.warehouse.proofs.Counting.{spares-seasons}
use Rattle.warehouse.proofs.InTheStop.{keeps-join, seasons-step, spared-keeps, spared-turns}
use Rattle.cache_refills.proofs.Refills.Payment.{never-run as never-join}

settled_step : (x : View) (step : Step) (n : ℕ) → spares_part step ≡ true → x.own.settled ≡ true → (after step n x).own.settled ≡ true
settled_step x (StoreField v i w) n b q = absurd (false≢true b)
settled_step x (StoreValue v k) n b q = absurd (false≢true b)
settled_step x (StoreRoot v r) n b q = absurd (false≢true b)
settled_step x (HoldRoot v r) n b q = absurd (false≢true b)
settled_step x (ExchangeField v i y z) n b q = absurd (false≢true b)
settled_step x (ExchangeValue v m k) n b q = absurd (false≢true b)
settled_step x (StoreSlot k r) n b q = absurd (false≢true b)
settled_step x (StoreNew c part word) n b q = absurd (false≢true b)
settled_step x NextSeason n b q = absurd (false≢true b)
settled_step x (StorePhase to) n b q = ap (λ c. c || (saw (Some to) Idle && x.state.exact && is_the x.state.section 0 && (x.own.seasons % 2 == 0))) q
settled_step x step n b q = q

settled_on : (es : List Entry) (x : View) → all_steps spares_part es ≡ true → x.own.settled ≡ true → (after_all es x).own.settled ≡ true
settled_on [] x o q = q
settled_on (e ∷ es) x o q = let p = and_parts (spares_part e.step) (all_steps spares_part es) o in settled_on es (after e.step e.found x) p.1 (settled_step x e.step e.found p.0 q)

pub settled-kept : (v w : View) → Ran v w → Only spares_part v w → v.own.settled ≡ true → w.own.settled ≡ true
settled-kept v w ran only q = subst (λ (x : View). x.own.settled ≡ true) (sym ran.steps) (settled_on (events v w) v only q)

-- the catalogue's seat, with both turns of each season behind it
record Between (x : View) : Type 0 where
  catalogue : x.state.section ≡ Some 0
  even : (x.own.seasons % 2 == 0) ≡ true

between_step : (x : View) (step : Step) (n : ℕ) → spares_part step ≡ true → Between x → Between (after step n x)
between_step x step n b k =
    record {
      catalogue = ap (λ p. p.1) (identity-kept x.shape x.state step n) ∙ k.catalogue;
      even = ap (λ m. m % 2 == 0) (seasons-step x step n b) ∙ k.even;
    }

ends_settled : (x : View) (step : Step) (n : ℕ) → Between x → x.state.exact ≡ true → ends_cycle step n ≡ true → (after step n x).own.settled ≡ true
ends_settled x (StorePhase to) n k exact h =
    let idle = and_parts (saw (Some to) Idle) (moves_from n to) (and_parts (saw (Some to) Idle && moves_from n to) (is_phase n Sweep) h).0 in
    or_right x.own.settled (saw (Some to) Idle && x.state.exact && is_the x.state.section 0 && (x.own.seasons % 2 == 0))
    (and_from (saw (Some to) Idle && x.state.exact && is_the x.state.section 0) (x.own.seasons % 2 == 0)
    (and_from (saw (Some to) Idle && x.state.exact) (is_the x.state.section 0) (and_from (saw (Some to) Idle) x.state.exact idle.0 exact) (ap (λ o. is_the o 0) k.catalogue)) k.even)
ends_settled x step n k exact h = absurd (false≢true h)

same_moment : (x : View) (m : Moment) (e : Entry) → m.state ≡ x.state → (after_moment x.shape m e).state ≡ (after e.step e.found x).state
same_moment x m e q = ap (λ (s : SeatState). seat_after x.shape s e.step e.found) q

ends_within :
    (es : List Entry) (x : View) (m : Moment) → m.state ≡ x.state → Between x → all_steps spares_part es ≡ true → at_some_moment x.shape ends_exactly m es ≡ true → (after_all es x).own.settled ≡ true
ends_within [] x m q k o h = absurd (false≢true h)
ends_within (e ∷ es) x m q k o h =
    let p = and_parts (spares_part e.step) (all_steps spares_part es) o in
    let y : View = after e.step e.found x in
    ⊎_elim
    (λ a. let r = and_parts m.state.exact (ends_cycle e.step e.found) a in settled_on es y p.1 (ends_settled x e.step e.found k (ap (λ (s : SeatState). s.exact) (sym q) ∙ r.0) r.1))
    (λ a. ends_within es y (after_moment x.shape m e) (same_moment x m e q) (between_step x e.step e.found p.0 k) p.1 a)
    (or_cases (m.state.exact && ends_cycle e.step e.found) (at_some_moment x.shape ends_exactly (after_moment x.shape m e) es) h)

collects_within :
    (es : List Entry) (x : View) (m : Moment) → m.state ≡ x.state → Between x → all_steps spares_part es ≡ true → collects_exactly x.shape m es ≡ true → (after_all es x).own.settled ≡ true
collects_within [] x m q k o h = absurd (false≢true h)
collects_within (e ∷ es) x m q k o h =
    let p = and_parts (spares_part e.step) (all_steps spares_part es) o in
    let y : View = after e.step e.found x in
    let next : Moment = after_moment x.shape m e in
    let same = same_moment x m e q in
    let there = between_step x e.step e.found p.0 k in
    ⊎_elim
    (λ a. ends_within es y next same there p.1 (and_parts (begins_exactly e.step e.found) (at_some_moment x.shape ends_exactly next es) a).1)
    (λ a. collects_within es y next same there p.1 a)
    (or_cases (begins_exactly e.step e.found && at_some_moment x.shape ends_exactly next es) (collects_exactly x.shape next es) h)

pub exact-settles :
    (v w : View) → Ran v w → Only spares_part v w → v.state.section ≡ Some 0 → (v.own.seasons % 2 == 0) ≡ true → collects_exactly v.shape (begins v) (events v w) ≡ true → w.own.settled ≡ true
exact-settles v w ran only catalogue even h =
    subst (λ (x : View). x.own.settled ≡ true) (sym ran.steps) (collects_within (events v w) v (begins v) refl (record { catalogue = catalogue; even = even }) only h)

-- a cycle that began at rest, and the end of the stop after it, leave the stop together
pub ends-leaves :
    (v w x : View) → Alone Idle v → Ran v w → Only spares_part v w → w.own.position ≡ v.own.position → never raises_flag (events v w) ≡ true → saw_full (events v w) ≡ false → LeavesStop w x → LeavesStop v x
ends-leaves v w x alone ran only position calm going l =
    record {
      keeps = keeps-join v w x (spared-keeps v w ran only position) l.keeps;
      seasons = l.seasons ∙ spares-seasons v w ran only;
      unturned = never-join turns_season v w x ran l.keeps.ran (spared-turns v w only) l.unturned;
      calm = never-join raises_flag v w x ran l.keeps.ran calm l.calm;
      unread = ap saw_full (ran-events v w x ran l.keeps.ran) ∙ neither (reads_phase Full) (events v w) (events w x) going l.unread;
      known = λ k. absurd (true≢false (ap (λ (o : Option ℕ). unwrap_or o 0 == 0) (sym alone.phase ∙ k)));
      settled = λ s. l.settled (settled-kept v w ran only s);
    }

-- after an odd number of turns comes an even one
pub even-next : (n : ℕ) → (n % 2 == 1) ≡ true → ((n + 1) % 2 == 0) ≡ true
even-next n odd = eq-eqb ((n + 1) % 2) 0 (let is : n % 2 ≡ 1 = eqb-true (n % 2) 1 odd in omega (arith, is))
