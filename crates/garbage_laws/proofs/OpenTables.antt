-- What threads have done with an open table is a run of the core, so the law holds of it.
use Rattle.std.proofs.Common.{ℕ, ◌≡◌, ◌+◌, List, [], ◌∷◌, ◌++◌, length, arith, refl, sym, ap, ◌∙◌, subst, Option, None}
use Rattle.std.specs.Prelude.{IsTrue, IsFalse}
use Rattle.std.proofs.lemmas.List.{length-append, get_or-append-add, get_or_append_left}
use Rattle.mark_core.specs.Layout.{words_of}
use Rattle.mark_core.specs.Seats.{is_phase}
use Rattle.mark_core.specs.Steps.{Core, failing_part, after_event, run_of, start_core, first_refused, refused_with}
use Rattle.mark_core.specs.Kinds.{kind_of}
use Rattle.mark_core.specs.Weak.{IsGone}
use Rattle.mark_core.specs.Laws.{NumbersFit, AllNumbersFit}
use Rattle.mark_core.specs.declared.kinds.Event.{Event}
use Rattle.mark_core.specs.declared.kinds.Shape.{Shape}
use Rattle.mark_core.specs.declared.kinds.Phase.TheVariants.{Idle}
use Rattle.mark_core.specs.declared.kinds.Step.{Step}
use Rattle.mark_core.specs.declared.kinds.Step.TheVariants.{StorePhase}
use Rattle.mark_core.proofs.Pool.PoolsKept.{shape-kept}
use Rattle.mark_core.proofs.CoreKept.{runs_sound}
use Rattle.gc_table.specs.Taking.{Finds}
use Rattle.gc_table.specs.declared.view.View.{View}
use Rattle.gc_table.proofs.History.Past.{first-allowed, run-first}
use Rattle.garbage_laws.specs.Garbage.{identity_in, is_marked, is_used, IsCycle}
use Rattle.garbage_laws.specs.OpenTables.{IsSinceIdle, TableGarbageGoes}
use Rattle.garbage_laws.proofs.Goes.{garbage_goes}

-- a run in two parts, each event of which is allowed
run_on : (k : ℕ) (es fs : List Event) (c : Core) → first_refused k (es ++ fs) c ≡ None → run_of (es ++ fs) c ≡ run_of fs (run_of es c)
run_on k [] fs c h = refl
run_on k (e ∷ es) fs c h =
    let q = first-allowed k e (es ++ fs) c h in
    run-first c e (es ++ fs) q.0 ∙ (run_on (k + 1) es fs (after_event c e) q.1 ∙ ap (run_of fs) (sym (run-first c e es q.0)))

-- what holds of each event holds of those of each part
first_fit : (es fs : List Event) → AllNumbersFit (es ++ fs) → AllNumbersFit es
first_fit es fs a k d h = subst (λ (e : Event). NumbersFit e.step) (get_or_append_left es fs d k h) (a k d (omega (arith, h, length-append es fs)))

last_fit : (es fs : List Event) → AllNumbersFit (es ++ fs) → AllNumbersFit fs
last_fit es fs a k d h = subst (λ (e : Event). NumbersFit e.step) (get_or-append-add es fs k d) (a (length es + k) d (omega (arith, h, length-append es fs)))

-- a run keeps the shape
same_shape : (k : ℕ) (es : List Event) (c : Core) → first_refused k es c ≡ None → (run_of es c).shape ≡ c.shape
same_shape k [] c h = refl
same_shape k (e ∷ es) c h =
    let q = first-allowed k e es c h in
    ap (λ (d : Core). d.shape) (run-first c e es q.0) ∙ (same_shape (k + 1) es (after_event c e) q.1 ∙ shape-kept c e)

first_allowed : (k : ℕ) (es fs : List Event) (c : Core) → first_refused k (es ++ fs) c ≡ None → first_refused k es c ≡ None
first_allowed k [] fs c h = refl
first_allowed k (e ∷ es) fs c h =
    let q = first-allowed k e (es ++ fs) c h in
    ap (λ (o : Option ℕ). refused_with k (kind_of e.step) o (first_refused (k + 1) es (after_event c e))) q.0 ∙ first_allowed (k + 1) es fs (after_event c e) q.1

-- the events since are a cycle of the core
cycle : (step : Step) (n : ℕ) (v : View) (f : Finds step n v) (before since : List Event) (found : List ℕ) → IsSinceIdle step n v f before since found → IsCycle (run_of before (start_core f.state.core.shape 1)) found since
cycle step n v f before since found s =
    let sh : Shape = f.state.core.shape in
    let start : Core = start_core sh 1 in
    let fit : AllNumbersFit (before ++ since) = subst AllNumbersFit (sym s.parts) f.led.fit in
    let ok : first_refused 0 (before ++ since) start ≡ None = subst (λ (es : List Event). first_refused 0 es start ≡ None) (sym s.parts) f.led.allowed in
    let shape : (run_of before start).shape ≡ sh = same_shape 0 before start (first_allowed 0 before since start ok) in
    record {
      core = runs_sound sh 1 before f.whole.core.formed.shaped (omega arith) (omega arith) (first_fit before since fit);
      idle = subst (λ (z : Shape). IsTrue (is_phase (words_of z (run_of before start).words).phase Idle)) (sym shape) s.idle;
      fit = last_fit before since fit;
      goes_on = s.goes_on;
      finds = s.finds;
    }

-- their run ends in the state in which the step is taken
ends_here : (step : Step) (n : ℕ) (v : View) (f : Finds step n v) (before since : List Event) (found : List ℕ) → IsSinceIdle step n v f before since found → run_of since (run_of before (start_core f.state.core.shape 1)) ≡ f.state.core
ends_here step n v f before since found s =
    let start : Core = start_core f.state.core.shape 1 in
    let ok : first_refused 0 (before ++ since) start ≡ None = subst (λ (es : List Event). first_refused 0 es start ≡ None) (sym s.parts) f.led.allowed in
    sym (run_on 0 before since start ok) ∙ (ap (λ (es : List Event). run_of es start) s.parts ∙ f.led.leads)

pub table_garbage_goes : TableGarbageGoes
table_garbage_goes =
    record {
      white =
          λ step n v f before since found x s g.
          subst (λ (c : Core). IsFalse (is_marked c x)) (ends_here step n v f before since found s) (garbage_goes.white (run_of before (start_core f.state.core.shape 1)) found since x (cycle step n v f before since found s) g);
      freed =
          λ n v f before since found x s g.
          let step : Step = StorePhase Idle in
          let e : Event = record { seat = f.index; step = step } in
          let here : run_of since (run_of before (start_core f.state.core.shape 1)) ≡ f.state.core = ends_here step n v f before since found s in
          subst (λ (c : Core). IsFalse (is_used (after_event c e) x)) here
          (garbage_goes.freed (run_of before (start_core f.state.core.shape 1)) found since e x (cycle step n v f before since found s) g refl
          (subst (λ (c : Core). failing_part c e ≡ None) (sym here) f.allowed));
      gone =
          λ n v f before since found x s g.
          let step : Step = StorePhase Idle in
          let e : Event = record { seat = f.index; step = step } in
          let then : Core = run_of before (start_core f.state.core.shape 1) in
          let here : run_of since then ≡ f.state.core = ends_here step n v f before since found s in
          subst (λ (c : Core). IsGone (after_event c e) (identity_in then x)) here
          (garbage_goes.gone then found since e x (cycle step n v f before since found s) g refl (subst (λ (c : Core). failing_part c e ≡ None) (sym here) f.allowed));
    }
