-- The same of every run, and of what has happened on an open table.
use Rattle.std.proofs.Common.{ℕ, ◌≡◌, List, [], ◌∷◌, ◌++◌, arith, subst}
use Rattle.std.proofs.lemmas.List.Elements.{All-cons, All-head, All-nil, All-tail}
use Rattle.mark_core.specs.Steps.{run_of, start_core}
use Rattle.mark_core.specs.Laws.{IsCore, AllNumbersFit, NumbersFit}
use Rattle.mark_core.specs.declared.kinds.Event.{Event}
use Rattle.mark_core.specs.declared.kinds.Shape.{Shape}
use Rattle.mark_core.specs.declared.kinds.Step.{Step}
use Rattle.mark_core.proofs.CoreKept.{runs_sound}
use Rattle.gc_table.specs.Taking.{Finds}
use Rattle.gc_table.specs.declared.view.View.{View}
use Rattle.work_laws.specs.Cycles.{CyclesAreBounded, IsBoundedCycle, IsIdle}
use Rattle.work_laws.proofs.Cycles.{cycle-bounded}

-- what holds of all events holds of a part of them
first_fit : (es fs : List Event) → AllNumbersFit (es ++ fs) → AllNumbersFit es
first_fit [] fs a = All-nil (λ (x : Event). NumbersFit x.step)
first_fit (e ∷ es) fs a = All-cons (λ (x : Event). NumbersFit x.step) e es (All-head (λ (x : Event). NumbersFit x.step) e (es ++ fs) a) (first_fit es fs (All-tail (λ (x : Event). NumbersFit x.step) e (es ++ fs) a))

last_fit : (es fs : List Event) → AllNumbersFit (es ++ fs) → AllNumbersFit fs
last_fit [] fs a = a
last_fit (e ∷ es) fs a = last_fit es fs (All-tail (λ (x : Event). NumbersFit x.step) e (es ++ fs) a)

since_idle : (step : Step) (n : ℕ) (v : View) (f : Finds step n v) (before after : List Event) → f.past ≡ before ++ after → IsIdle (run_of before (start_core f.state.core.shape 1)) → IsBoundedCycle (run_of before (start_core f.state.core.shape 1)) after
since_idle step n v f before after e idle =
    let sh : Shape = f.state.core.shape in
    let fit : AllNumbersFit (before ++ after) = subst AllNumbersFit e f.led.fit in
    let sound : IsCore (run_of before (start_core sh 1)) = runs_sound sh 1 before f.whole.core.formed.shaped (omega arith) (omega arith) (first_fit before after fit) in
    cycle-bounded (run_of before (start_core sh 1)) after sound (last_fit before after fit) idle

pub cycles_bounded : CyclesAreBounded
cycles_bounded = record { runs = cycle-bounded; tables = since_idle }
