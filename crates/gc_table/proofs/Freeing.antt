-- On a run of the core no reachable cell is freed.
use Rattle.std.proofs.Common.{◌≡◌, ◌+◌, ◌<◌, ℕ, zero, suc, List, [], ◌∷◌, length, take, ap, sym, ◌∙◌, subst, arith}
use Rattle.std.specs.Prelude.{IsTrue, None}
use Rattle.mark_core.specs.Steps.{Core, after_event, run_of, start_core, first_refused}
use Rattle.mark_core.specs.Laws.{IsCore}
use Rattle.mark_core.specs.Closed.{IsReachableIn, is_published}
use Rattle.mark_core.specs.declared.kinds.Event.{Event}
use Rattle.mark_core.proofs.CoreKept.{core-starts}
use Rattle.mark_core.proofs.Consequences.Closing.{reachable_stay}
use Rattle.gc_table.proofs.History.Past.{run-first, run-sound, first-allowed, closed_ran}
use Rattle.gc_table.specs.Runs.{AreAllowed, NoneFreed}
use Rattle.gc_table.specs.Threads.{ThreadsFreeNone}

-- what is so in one state stays in another
abbrev Stays : Core → Core → ℕ → Type 0
Stays c d x = IsReachableIn c x → IsTrue (is_published c x) → IsTrue (is_published d x)

-- after k events of a run and after one more, if each state meets the rule of the core
pub stays : (c : Core) (es : List Event) → ((n : ℕ) → IsCore (run_of (take n es) c)) → AreAllowed c es → (k x : ℕ) → k < length es → Stays (run_of (take k es) c) (run_of (take (k + 1) es) c) x
stays c [] core ok k x below = absurd (omega (arith, below))
stays c (e ∷ es) core ok k x below =
    go k below (stays (after_event c e) es (λ n. subst IsCore (run-first c e (take n es) ok.0) (core (suc n))) ok.1)
  where
    more : (k : ℕ) → run_of (take (suc k + 1) (e ∷ es)) c ≡ run_of (e ∷ take (k + 1) es) c
    more k = let plus : suc k + 1 ≡ suc (k + 1) = omega arith in ap (λ (n : ℕ). run_of (take n (e ∷ es)) c) plus

    go : (k : ℕ) → k < length (e ∷ es) → ((j y : ℕ) → j < length es → Stays (run_of (take j es) (after_event c e)) (run_of (take (j + 1) es) (after_event c e)) y)
        → Stays (run_of (take k (e ∷ es)) c) (run_of (take (k + 1) (e ∷ es)) c) x
    go zero below later = subst (λ (d : Core). Stays c d x) (sym (run-first c e [] ok.0)) (reachable_stay c e (core 0) ok.0 x)
    go (suc k) below later =
        let now : run_of (take (suc k) (e ∷ es)) c ≡ run_of (take k es) (after_event c e) = run-first c e (take k es) ok.0 in
        let then : run_of (take (suc k + 1) (e ∷ es)) c ≡ run_of (take (k + 1) es) (after_event c e) = more k ∙ run-first c e (take (k + 1) es) ok.0 in
        subst (λ (d : Core). Stays d (run_of (take (suc k + 1) (e ∷ es)) c) x) (sym now)
        (subst (λ (d : Core). Stays (run_of (take k es) (after_event c e)) d x) (sym then)
        (later k x (omega arith)))

pub none_freed : NoneFreed
none_freed sh n es run k x below = stays (start_core sh n) es (λ m. run-sound m es (start_core sh n) (core-starts sh n run.shape run.seats.0 run.seats.1) run.fit) run.allowed k x below

-- What threads do is a run of the core.
pub allowed : (i : ℕ) (es : List Event) (c : Core) → first_refused i es c ≡ None → AreAllowed c es
allowed i [] c h = tt
allowed i (e ∷ es) c h = let first = first-allowed i e es c h in (first.0, allowed (i + 1) es _ first.1)

pub threads_free_none : ThreadsFreeNone
threads_free_none sh seats w end =
    let ran = closed_ran sh seats w end in
    (ran.0, ran.1, λ k x below. stays (start_core sh 1) ran.0 ran.1.sound (allowed 0 ran.0 (start_core sh 1) ran.1.allowed) k x below)
