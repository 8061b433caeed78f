-- What was garbage in Idle isn't marked in the cycle, and isn't in use once it has ended.
use Rattle.std.proofs.Common.{ℕ, ◌≡◌, ◌<◌, List, [], ◌∷◌, arith, refl, sym, ◌∙◌, true, false, cond, Option, Some, None, ⊎_elim, subst}
use Rattle.std.specs.Prelude.{IsTrue, IsFalse, is_none}
use Rattle.std.specs.List.{All}
use Rattle.std.proofs.lemmas.Bool.{true≢false, false≢true, eqb-true, false_from_ne_true}
use Rattle.std.proofs.lemmas.List.Elements.{All-head, All-tail}
use Rattle.mark_core.specs.Layout.{Words, words_of}
use Rattle.mark_core.specs.Views.{makers}
use Rattle.mark_core.specs.Cells.{in_use, IsRoot}
use Rattle.mark_core.specs.Steps.{Core, failing_part, after_event, run_of}
use Rattle.mark_core.specs.Laws.{IsCore, NumbersFit, AllNumbersFit}
use Rattle.mark_core.specs.declared.kinds.Event.{Event}
use Rattle.mark_core.specs.declared.kinds.Phase.TheVariants.{Idle}
use Rattle.mark_core.specs.declared.kinds.Step.{Step}
use Rattle.mark_core.specs.declared.kinds.Step.TheVariants.{StorePhase}
use Rattle.mark_core.specs.declared.seat.SeatState.{SeatState}
use Rattle.mark_core.proofs.Known.{bit-below, HasCache, all-makers, in_use-below}
use Rattle.mark_core.proofs.HeldBlock.{allocs-length}
use Rattle.mark_core.proofs.Writing.Places.{region-length}
use Rattle.mark_core.specs.Layout.{region_sizes}
use Rattle.mark_core.proofs.Blocks.BlocksStopped.{Taken, kept-after}
use Rattle.mark_core.proofs.Exacts.ExactsMoves.{kept-last}
use Rattle.mark_core.proofs.References.ReferencesRoots.{Used, UsedAfter}
use Rattle.mark_core.proofs.Used.UsedKept.{used-back}
use Rattle.mark_core.proofs.CoreKept.{core_kept}
use Rattle.mark_core.specs.Weak.{IsAt, IsGone}
use Rattle.mark_core.proofs.Consequences.WeakFound.{weak_is_made}
use Rattle.mark_core.proofs.Consequences.WeakKept.{weak_stays, places-kept}
use Rattle.garbage_laws.specs.Garbage.{identity_in, is_marked, is_used, ends_cycle, FindOnly, IsCycle, IsGarbage, GarbageGoes}
use Rattle.garbage_laws.proofs.Shuns.{Spares, CoreShuns}
use Rattle.garbage_laws.proofs.ShunsKept.{shuns-kept}
use Rattle.garbage_laws.proofs.Beginning.{garbage-shunned, found-spared}

-- a state that meets the rule and shuns the set
abbrev Goes : (ℕ → Type 0) → Core → Type 0
Goes D c = IsCore c × CoreShuns D c

-- a run that doesn't end the cycle, by whether its first event is allowed
run_by : (R : Core → Type 0) (e : Event) (es : List Event) (c : Core) → R c → (failing_part c e ≡ None → R (run_of es (after_event c e))) → (o : Option ℕ) → failing_part c e ≡ o → R (cond (is_none o) (run_of es (after_event c e)) c)
run_by R e es c here later None f = later f
run_by R e es c here later (Some part) f = here

run_shuns : (D : ℕ → Type 0) (found : List ℕ) → ((x : ℕ) → IsRoot found x → Spares D x) → (es : List Event) (c : Core) → AllNumbersFit es → All (λ (e : Event). IsFalse (ends_cycle e.step)) es → FindOnly found es c → Goes D c → Goes D (run_of es c)
run_shuns D found spares [] c fit on finds g = g
run_shuns D found spares (e ∷ es) c fit on finds g =
    let later : failing_part c e ≡ None → Goes D (run_of es (after_event c e)) =
    λ f.
    let next = finds f in
    run_shuns D found spares es (after_event c e) (All-tail (λ (z : Event). NumbersFit z.step) e es fit) (All-tail (λ (z : Event). IsFalse (ends_cycle z.step)) e es on) next.1 (
      core_kept c e g.0 (All-head (λ (z : Event). NumbersFit z.step) e es fit) f,
      shuns-kept D c e g.0 f g.1 (All-head (λ (z : Event). IsFalse (ends_cycle z.step)) e es on) (λ y n. spares y (next.0 y n)),
    ) in
    run_by (Goes D) e es c g later (failing_part c e) refl

-- the state in which the run ends
cycle_shuns : (c : Core) (found : List ℕ) (es : List Event) → IsCycle c found es → Goes (IsGarbage c found) (run_of es c)
cycle_shuns c found es k =
    run_shuns (IsGarbage c found) found (found-spared c found) es c k.fit k.goes_on k.finds (k.core, garbage-shunned c found k.core k.idle)

-- a marked cell exists
marked_below : (c : Core) (x : ℕ) → IsCore c → is_marked c x ≡ true → x < c.shape.cells
marked_below c x k e = bit-below c.shape (words_of c.shape c.words).marks x k.formed.shaped (region-length (region_sizes c.shape) 5 c.words (omega (arith, k.formed.words))) e

-- when the cycle ends, the cells in use are those that the sweep kept
ended : (D : ℕ → Type 0) (c : Core) (i : ℕ) (s : SeatState) (x : ℕ) → Taken c i s (StorePhase Idle) → CoreShuns D c → UsedAfter c i s (StorePhase Idle) x ≡ true → Spares D x
ended D c i s x t a u =
    let w : Words = words_of c.shape c.words in
    let used : Used c x ≡ true = ⊎_elim (λ (b : Used c x ≡ true). b) (λ (m : ⊥). absurd m) (used-back c i s (StorePhase Idle) x t u) in
    let caches : All (HasCache c.shape) (makers c.seats) = all-makers c.shape c.seats (λ j d g. (t.core.formed.seats j d g).cache) in
    let h : x < c.shape.cells = in_use-below c.shape w.allocs (makers c.seats) x t.core.formed.shaped (allocs-length c t.core) caches used in
    a.kept (eqb-true w.phase 3 t.ok.0) x h (kept-last c i s x t h ∙ used)

-- the event that ends the cycle, by its step
ended_by : (D : ℕ → Type 0) (c : Core) (i : ℕ) (s : SeatState) (step : Step) (x : ℕ) → Taken c i s step → CoreShuns D c → ends_cycle step ≡ true → UsedAfter c i s step x ≡ true → Spares D x
ended_by D c i s (StorePhase Idle) x t a e u = ended D c i s x t a u
ended_by D c i s step x t a e u = absurd (false≢true e)

freed_by : (D : ℕ → Type 0) (c : Core) (e : Event) (x : ℕ) → Goes D c → failing_part c e ≡ None → IsTrue (ends_cycle e.step) → is_used (after_event c e) x ≡ true → Spares D x
freed_by D c e x g f ends =
    kept-after (λ sh w seats. in_use w.allocs (makers seats) x ≡ true → Spares D x) c e g.0 f (λ s acted t. ended_by D c e.seat s e.step x t g.1 ends)

-- an object whose cell isn't in use any more is gone
gone_from : (c : Core) (id x : ℕ) → IsAt c id x → is_used c x ≡ false → IsGone c id
gone_from c id x a n =
    record {
      given = a.given;
      seated = a.seated;
      only = λ y h u e. true≢false (sym (subst (λ (z : ℕ). is_used c z ≡ true) (a.only y h u e) u) ∙ n);
    }

-- the object that was garbage is in its cell as long as it is anywhere
garbage_at : (c : Core) (found : List ℕ) (es : List Event) (e : Event) (x : ℕ) → IsCycle c found es → IsGarbage c found x → IsCore (run_of es c) → failing_part (run_of es c) e ≡ None → IsAt (after_event (run_of es c) e) (identity_in c x) x
garbage_at c found es e x k g core f =
    places-kept (run_of es c) e (identity_in c x) x core f (weak_stays.places (identity_in c x) x c es k.core k.fit (weak_is_made.used c x k.core g.used))

-- the cell isn't in use after the event that ends the cycle
free_at : (c : Core) (found : List ℕ) (es : List Event) (e : Event) (x : ℕ) → IsCycle c found es → IsGarbage c found x → IsTrue (ends_cycle e.step) → failing_part (run_of es c) e ≡ None → is_used (after_event (run_of es c) e) x ≡ false
free_at c found es e x k g ends f = false_from_ne_true (is_used (after_event (run_of es c) e) x) (λ u. freed_by (IsGarbage c found) (run_of es c) e x (cycle_shuns c found es k) f ends u g)

-- garbage goes
pub garbage_goes : GarbageGoes
garbage_goes =
    record {
      white =
          λ c found es x k g.
          let end = cycle_shuns c found es k in
          false_from_ne_true (is_marked (run_of es c) x) (λ e. end.1.marks x (marked_below (run_of es c) x end.0 e) e g);
      freed = free_at;
      gone =
          λ c found es e x k g ends f.
          gone_from (after_event (run_of es c) e) (identity_in c x) x (garbage_at c found es e x k g (cycle_shuns c found es k).0 f) (free_at c found es e x k g ends f);
    }
