-- The phase that a seat that is alone in the stop finds, and the drain that it begins.
use Rattle.std.proofs.Common.{ℕ, ◌≡◌, [], ◌∷◌, ◌++◌, refl, sym, ap, ◌∙◌, subst, true, not, ◌⊎◌, ⊎_elim, arith, inl, inr}
use Rattle.std.proofs.lemmas.Bool.{true≢false}
use Rattle.mark_core.specs.Numbers.{card_counter}
use Rattle.mark_core.specs.Places.{the_phase}
use Rattle.mark_core.specs.Seats.{is_the, phase_number, phase_of}
use Rattle.mark_core.specs.declared.kinds.Phase.{Phase}
use Rattle.mark_core.specs.declared.kinds.Phase.TheVariants.{Idle, Marking, Drain}
use Rattle.mark_core.specs.declared.kinds.Step.TheVariants.{ReadPhase, Reset, StorePhase}
use Rattle.gc_table.specs.Seats.{Found, Took}
use Rattle.gc_table.specs.Taking.{after}
use Rattle.gc_table.specs.declared.view.View.{View}
use Rattle.gc_table.specs.Log.{all_steps, event, events, Only}
use Rattle.gc_table.specs.Running.{Ran}
use Rattle.gc_table.proofs.History.Log.{events-after}
use Rattle.gc_table.proofs.Noticing.{alone-step, found-noted}
use Rattle.gc_table.proofs.Running.{ran-events, ran-join, ran-took}
use Rattle.gc_cycle.specs.Events.{never}
use Rattle.gc_cycle.specs.Finishing.{BeginsExactly, finishes, IsAloneIn, IsPart}
use Rattle.gc_cycle.specs.Sorts.{tells_full}
use Rattle.gc_cycle.proofs.Ends.Completing.{part-untold}
use Rattle.gc_cycle.proofs.Ends.Finishes.{never-both}

-- a look at the phase leaves the seat alone in it
pub looked : (p : Phase) (v w : View) (n : ℕ) → Found ReadPhase n v w → IsAloneIn p v → IsAloneIn p w
looked p v w n f a =
    let x : View = after ReadPhase n v in
    subst (IsAloneIn p) (sym f.0)
    (record {
      rest = record { knows = a.rest.knows; alone = a.rest.alone; rest = a.rest.rest };
      alone = alone-step p v ReadPhase n refl (record { found = λ e. f.1; stored = λ e. absurd (true≢false (sym e)) }) a.alone;
    })

-- a seat that is alone in a phase finds that phase
pub found-phase : (p : Phase) (v w : View) (n : ℕ) → Found ReadPhase n v w → IsAloneIn p v → n ≡ phase_number p
found-phase p v w n f a = found-noted v ReadPhase n (phase_number p) the_phase f.1 refl a.alone.phase

-- a drain that begins when no cycle is under way
pub idle-begins : (v w : View) → Ran v w → events v w ≡ event (StorePhase Drain) 0 ∷ event (Reset card_counter) 0 ∷ [] → IsAloneIn Drain w → w.state.exact ≡ true → BeginsExactly v w
idle-begins v w r e a x =
    record { ran = r; only = ap (all_steps finishes) e; alone = a; exact = x; before = []; rest = event (Reset card_counter) 0 ∷ []; move = event (StorePhase Drain) 0; all = e; begins = refl; stayed = refl; fresh = refl; not_full = refl; unbegun = refl; unended = refl }

pub look-event : (v w : View) (t : Took ReadPhase v w) → events v w ≡ event ReadPhase t.0 ∷ []
look-event v w t = events-after v w ReadPhase t.0 t.1.0

pub look-ran : (v w : View) → Took ReadPhase v w → Ran v w
look-ran v w t = ran-took v w ReadPhase refl t

pub idle-found : (v w : View) (n : ℕ) → Found ReadPhase n v w → IsAloneIn Idle v ⊎ IsAloneIn Marking v → phase_of n ≡ Idle → IsAloneIn Idle w
idle-found v w n f h e =
    ⊎_elim
    (λ (a : IsAloneIn Idle v). looked Idle v w n f a)
    (λ (a : IsAloneIn Marking v). let k = ap phase_number (ap phase_of (sym (found-phase Marking v w n f a)) ∙ e) in absurd (omega (arith, k)))
    h

pub marking-found : (v w : View) (n : ℕ) → Found ReadPhase n v w → IsAloneIn Idle v ⊎ IsAloneIn Marking v → (phase_of n ≡ Idle → ⊥) → IsAloneIn Marking w
marking-found v w n f h e =
    ⊎_elim
    (λ (a : IsAloneIn Idle v). absurd (e (ap phase_of (found-phase Idle v w n f a))))
    (λ (a : IsAloneIn Marking v). looked Marking v w n f a)
    h

-- if a cycle is marking: it looked, began the drain, drained alone, and began again
pub marking-ran : (v w x : View) → Took ReadPhase v w → Ran w x → Ran v x
marking-ran v w x t r = ran-join v w x (look-ran v w t) r

pub look-drain-events : (v w x : View) (n : ℕ) (t : Took ReadPhase v w) → Ran w x → events w x ≡ event (StorePhase Drain) n ∷ event (Reset card_counter) 0 ∷ [] → events v x ≡ event ReadPhase t.0 ∷ event (StorePhase Drain) n ∷ event (Reset card_counter) 0 ∷ []
look-drain-events v w x n t r e = ran-events v w x (look-ran v w t) r ∙ (ap (λ es. es ++ events w x) (look-event v w t) ∙ ap (λ es. event ReadPhase t.0 ∷ es) e)

-- what it reads there tells of no full heap
pub look-untold : (p : Phase) (v w : View) (t : Took ReadPhase v w) → IsAloneIn p v → (phase_number p ≡ 0) ⊎ (phase_number p ≡ 1) → never tells_full (events v w) ≡ true
look-untold p v w t a h =
    ap (never tells_full) (look-event v w t ∙ ap (λ n. event ReadPhase n ∷ []) (found-phase p v w t.0 t.1 a))
    ∙ ⊎_elim (λ (e : phase_number p ≡ 0). ap (λ n. never tells_full (event ReadPhase n ∷ [])) e) (λ (e : phase_number p ≡ 1). ap (λ n. never tells_full (event ReadPhase n ∷ [])) e) h

pub either-untold : (v w : View) (t : Took ReadPhase v w) → IsAloneIn Idle v ⊎ IsAloneIn Marking v → never tells_full (events v w) ≡ true
either-untold v w t h = ⊎_elim (λ (a : IsAloneIn Idle v). look-untold Idle v w t a (inl refl)) (λ (a : IsAloneIn Marking v). look-untold Marking v w t a (inr refl)) h

pub drain-no-full : (v w x y : View) (n : ℕ) (t : Took ReadPhase v w) (r : Ran w x) → never tells_full (events v w) ≡ true → events w x ≡ event (StorePhase Drain) n ∷ event (Reset card_counter) 0 ∷ [] → IsPart Drain x y → never tells_full (events v y) ≡ true
drain-no-full v w x y n t r u e p =
    ap (never tells_full) (ran-events v x y (marking-ran v w x t r) p.ran)
    ∙ never-both tells_full (events v x) (events x y) (ap (never tells_full) (ran-events v w x (look-ran v w t) r) ∙ never-both tells_full (events v w) (events w x) u (ap (never tells_full) e)) (ap not (part-untold Drain x y p))

pub look-finishes : (v w : View) → Took ReadPhase v w → Only finishes v w
look-finishes v w t = ap (all_steps finishes) (look-event v w t)

pub look-drain-finishes : (v w x : View) (n : ℕ) (t : Took ReadPhase v w) → Ran w x → events w x ≡ event (StorePhase Drain) n ∷ event (Reset card_counter) 0 ∷ [] → Only finishes v x
look-drain-finishes v w x n t r e = ap (all_steps finishes) (look-drain-events v w x n t r e)

-- the phase in which a seat is alone is one
pub idle-or-marking : (v : View) → IsAloneIn Idle v → IsAloneIn Marking v → ⊥
idle-or-marking v a b = true≢false (ap (λ o. is_the o 0) (sym a.alone.phase ∙ b.alone.phase))
