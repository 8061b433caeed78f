-- A heap that is full stays so, and so a mutator that doesn't find it full hasn't found it full before.
use Rattle.std.proofs.Common.{ℕ, ◌≡◌, ◌≤◌, zero, suc, List, [], ◌∷◌, ◌++◌, arith, refl, sym, ap, ◌∙◌, subst, Bool, true, false, ◌||◌, Some, ⊎_elim, ◌⊎◌, inl, inr}
use Rattle.std.specs.Prelude.{if◌then◌else◌, is_some}
use Rattle.std.proofs.lemmas.Bool.{and_parts, cases_Bool, false≢true, or_cases, or_from, or_left, true≢false}
use Rattle.mark_core.specs.Effects.{place, seat_after}
use Rattle.mark_core.specs.Notes.{same_place, steady}
use Rattle.mark_core.specs.Places.{the_phase}
use Rattle.mark_core.specs.Seats.{phase_of, saw, takes_part}
use Rattle.mark_core.specs.declared.kinds.Phase.{Phase}
use Rattle.mark_core.specs.declared.kinds.Phase.TheVariants.{Full}
use Rattle.mark_core.specs.declared.kinds.Shape.{Shape}
use Rattle.mark_core.specs.declared.kinds.Step.{Step}
use Rattle.mark_core.specs.declared.kinds.Step.TheVariants.{DropStep, OpenStep, ReadPhase, StorePhase}
use Rattle.mark_core.specs.declared.seat.SeatState.{SeatState}
use Rattle.gc_table.specs.Seats.{Found}
use Rattle.gc_table.specs.Taking.{after}
use Rattle.gc_table.specs.declared.view.Entry.{Entry}
use Rattle.gc_table.specs.declared.view.View.{View}
use Rattle.packet_pools.specs.Seeking.{some_event}
use Rattle.packet_pools.proofs.Searches.{some-parts}
use Rattle.gc_table.specs.Log.{all_steps, event, events, Only}
use Rattle.gc_table.specs.Running.{after_all, AllSeen, IsSeen, Known, Ran}
use Rattle.gc_table.proofs.History.Log.{events-after, events-none}
use Rattle.gc_table.proofs.Noticing.{found-noted, is_load, known-here, known-step, spares-phase}
use Rattle.gc_table.proofs.Running.{ran-events, ran-found}
use Rattle.gc_cycle.specs.Answering.{GoesOn, last_phase, later_or, phase_read, TellsFull}
use Rattle.gc_table.specs.Rule.{KnowsFull}
use Rattle.gc_table.proofs.Joining.{full-steady as steady-full}
use Rattle.gc_cycle.specs.Mutating.{tries_stopping}
use Rattle.gc_cycle.specs.Polling.{saw_full}
use Rattle.gc_cycle.specs.Sorts.{reads_phase}
use Rattle.gc_cycle.specs.Standing.{Mutates}
use Rattle.gc_cycle.proofs.Sequences.{some-none}
use Rattle.stop_world.proofs.Passing.{read-most as found-low}

full-number : (n : ℕ) → n ≤ 5 → saw (Some (phase_of n)) Full ≡ true → n ≡ 5
full-number zero l e = absurd (false≢true e)
full-number (suc zero) l e = absurd (false≢true e)
full-number (suc (suc zero)) l e = absurd (false≢true e)
full-number (suc (suc (suc zero))) l e = absurd (false≢true e)
full-number (suc (suc (suc (suc zero)))) l e = absurd (false≢true e)
full-number (suc (suc (suc (suc (suc zero))))) l e = refl
full-number (suc (suc (suc (suc (suc (suc n)))))) l e = absurd (omega (arith, l))

spares-full : (sh : Shape) (s : SeatState) (step : Step) → tries_stopping step ≡ true → (same_place (place sh s step) the_phase ≡ false) ⊎ (is_load step ≡ true)
spares-full sh s (StorePhase to) e = absurd (false≢true e)
spares-full sh s OpenStep e = inl refl
spares-full sh s DropStep e = inl refl
spares-full sh s step e = spares-phase sh s step refl

pub full-step : (v : View) (step : Step) (n : ℕ) → tries_stopping step ≡ true → IsSeen step n v → Known v the_phase 5 → Known (after step n v) the_phase 5
full-step v step n e s k = known-step v step n the_phase 5 (spares-full v.shape v.state step e) s (steady-full (seat_after v.shape v.state step n)) k.0

full-read : (v : View) (step : Step) (n : ℕ) → reads_phase Full step n ≡ true → IsSeen step n v → Known (after step n v) the_phase 5
full-read v ReadPhase n e s =
    let is : n ≡ 5 = full-number n (found-low v n (s.found refl)) e in
    subst (λ k. Known (after ReadPhase n v) the_phase k) is
    (known-here v ReadPhase n the_phase refl (subst (λ k. steady (seat_after v.shape v.state ReadPhase n) the_phase k ≡ true) (sym is) (steady-full (seat_after v.shape v.state ReadPhase n))))
full-read v step n e s = absurd (false≢true e)

pub full-all : (es : List Entry) (v : View) → all_steps tries_stopping es ≡ true → AllSeen es v → (some_event (reads_phase Full) es ≡ true) ⊎ Known v the_phase 5 → Known (after_all es v) the_phase 5
full-all [] v o s (inl h) = absurd (false≢true h)
full-all [] v o s (inr k) = k
full-all (e ∷ es) v o s (inl h) =
    let p = and_parts (tries_stopping e.step) (all_steps tries_stopping es) o in
    ⊎_elim
    (λ (here : reads_phase Full e.step e.found ≡ true). full-all es (after e.step e.found v) p.1 s.1 (inr (full-read v e.step e.found here s.0)))
    (λ (later : some_event (reads_phase Full) es ≡ true). full-all es (after e.step e.found v) p.1 s.1 (inl later))
    (or_cases (reads_phase Full e.step e.found) (some_event (reads_phase Full) es) h)
full-all (e ∷ es) v o s (inr k) =
    let p = and_parts (tries_stopping e.step) (all_steps tries_stopping es) o in full-all es (after e.step e.found v) p.1 s.1 (inr (full-step v e.step e.found p.0 s.0 k))

-- if it was found full, it is
pub full-seen : (v w : View) → Ran v w → Only tries_stopping v w → saw_full (events v w) ≡ true → Known w the_phase 5
full-seen v w r o h = subst (λ (x : View). Known x the_phase 5) (sym r.steps) (full-all (events v w) v o r.seen (inl h))

-- what was known before, is
pub full-known : (v w : View) → Ran v w → Only tries_stopping v w → KnowsFull v → KnowsFull w
full-known v w r o h = (subst (λ (x : View). Known x the_phase 5) (sym r.steps) (full-all (events v w) v o r.seen (inr (h, steady-full v.state)))).0

-- nothing was read yet
pub tells-none : (v : View) → TellsFull v v
tells-none v h = absurd (false≢true (sym (ap saw_full (events-none v)) ∙ h))

-- a seat that tries to stop the world, or waits, knows it still
pub tells-more : (u v w : View) → Ran u v → Ran v w → Only tries_stopping v w → TellsFull u v → TellsFull u w
tells-more u v w r q o t h =
    ⊎_elim
    (λ (a : saw_full (events u v) ≡ true). full-known v w q o (t a))
    (λ (b : saw_full (events v w) ≡ true). (full-seen v w q o b).0)
    (some-parts (reads_phase Full) (events u v) (events v w) (sym (ap saw_full (ran-events u v w r q)) ∙ h))

last-read : (xs : List Entry) (n : ℕ) → last_phase (xs ++ event ReadPhase n ∷ []) ≡ Some (phase_of n)
last-read [] n = refl
last-read (x ∷ xs) n = ap (λ o. later_or o (phase_read x.step x.found)) (last-read xs n)

looked-mutates : (v : View) (n : ℕ) → Mutates v → Mutates (after ReadPhase n v)
looked-mutates v n m = record { active = m.active; unhelping = m.unhelping; section = m.section; rest = m.rest }

pub mutates-still : (v w : View) (n : ℕ) → Found ReadPhase n v w → Mutates v → Mutates w
mutates-still v w n f m = subst Mutates (sym f.0) (looked-mutates v n m)

pub phase-seen : (v w : View) (n : ℕ) → Found ReadPhase n v w → Mutates v → w.state.phase_seen ≡ Some (phase_of n)
phase-seen v w n f m =
    let part : takes_part v.state ≡ true = or_left (v.state.active || v.state.knows) v.state.admitted (or_left v.state.active v.state.knows m.active) in
    ap (λ (x : View). x.state.phase_seen) f.0 ∙ ap (λ (b : Bool). if b then Some (phase_of n) else v.state.phase_seen) part

pub goes-on : (u v w : View) (n : ℕ) → Ran u v → TellsFull u v → Found ReadPhase n v w → Mutates v → saw (Some (phase_of n)) Full ≡ false → GoesOn u w
goes-on u v w n r t f m low =
    let all : events u w ≡ events u v ++ event ReadPhase n ∷ [] = ran-events u v w r (ran-found v w ReadPhase n refl f) ∙ ap (λ es. events u v ++ es) (events-after v w ReadPhase n f.0) in
    let last : last_phase (events u w) ≡ Some (phase_of n) = ap last_phase all ∙ last-read (events u v) n in
    let before : saw_full (events u v) ≡ false =
    ⊎_elim
    (λ (h : saw_full (events u v) ≡ true).
    let is : n ≡ 5 = found-noted v ReadPhase n 5 the_phase f.1 refl (t h) in
    absurd (true≢false (ap (λ k. saw (Some (phase_of k)) Full) (sym is) ∙ low)))
    (λ (h : saw_full (events u v) ≡ false). h)
    (cases_Bool (saw_full (events u v))) in
    record {
      mutates = mutates-still v w n f m;
      read = ap (λ o. is_some o) last;
      seen = phase-seen v w n f m ∙ sym last;
      going = ap saw_full all ∙ some-none (reads_phase Full) (events u v) (event ReadPhase n ∷ []) before (or_from (saw (Some (phase_of n)) Full) false low refl);
    }

pub not-full : (p : Phase) → (p ≡ Full → ⊥) → saw (Some p) Full ≡ false
not-full Full h = absurd (h refl)
not-full p h = refl
