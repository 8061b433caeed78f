-- What a run costs is bounded, if each event pays for its own by what it takes from a fund.
use Rattle.std.proofs.Common.{ℕ, ◌≡◌, ◌+◌, ◌*◌, ◌≤◌, List, [], ◌∷◌, arith, refl, ap, ◌∙◌, cond, Option, None, Some}
use Rattle.std.specs.Prelude.{is_none, slice_get}
use Rattle.std.proofs.lemmas.List.Elements.{All-head, All-tail}
use Rattle.mark_core.specs.Steps.{Core, failing_part, after_event, run_of}
use Rattle.mark_core.specs.Laws.{IsCore, NumbersFit, AllNumbersFit}
use Rattle.mark_core.specs.declared.kinds.Event.{Event}
use Rattle.mark_core.specs.declared.kinds.Shape.{Shape}
use Rattle.mark_core.specs.declared.seat.SeatState.{SeatState}
use Rattle.mark_core.proofs.Pool.PoolsKept.{shape-kept}
use Rattle.mark_core.proofs.CoreKept.{core_kept}
use Rattle.mark_core.proofs.Count.CountMoves.{bit}
use Rattle.work_laws.specs.Counting.{Sort, one_of, one_in, sum_events}

-- each allowed event of a heap of these sizes costs no more than it gains and takes from the fund
abbrev pub Pays : (Core → Event → ℕ) → (Core → Event → ℕ) → (Core → ℕ) → Shape → Type 0
Pays cost gain fund sh = (c : Core) (e : Event) → IsCore c → c.shape ≡ sh → failing_part c e ≡ None → cost c e + fund (after_event c e) ≤ fund c + gain c e

-- by whether the first event is allowed
paid_by : (cost gain : Core → Event → ℕ) (fund : Core → ℕ) (e : Event) (es : List Event) (c : Core)
    → (failing_part c e ≡ None → cost c e + sum_events cost es (after_event c e) + fund (run_of es (after_event c e)) ≤ fund c + (gain c e + sum_events gain es (after_event c e))) → (o : Option ℕ) → failing_part c e ≡ o
    → cond (is_none o) (cost c e + sum_events cost es (after_event c e)) 0 + fund (cond (is_none o) (run_of es (after_event c e)) c) ≤ fund c + cond (is_none o) (gain c e + sum_events gain es (after_event c e)) 0
paid_by cost gain fund e es c later None f = later f
paid_by cost gain fund e es c later (Some part) f = omega arith

-- so does each run
pub paid : (cost gain : Core → Event → ℕ) (fund : Core → ℕ) (sh : Shape) → Pays cost gain fund sh → (es : List Event) (c : Core) → IsCore c → c.shape ≡ sh → AllNumbersFit es
    → sum_events cost es c + fund (run_of es c) ≤ fund c + sum_events gain es c
paid cost gain fund sh pays [] c k is fit = omega arith
paid cost gain fund sh pays (e ∷ es) c k is fit =
    let later : failing_part c e ≡ None → cost c e + sum_events cost es (after_event c e) + fund (run_of es (after_event c e)) ≤ fund c + (gain c e + sum_events gain es (after_event c e)) =
    λ f.
    let now = pays c e k is f in
    let kept : IsCore (after_event c e) = core_kept c e k (All-head (λ (x : Event). NumbersFit x.step) e es fit) f in
    let rest = paid cost gain fund sh pays es (after_event c e) kept (shape-kept c e ∙ is) (All-tail (λ (x : Event). NumbersFit x.step) e es fit) in
    omega (arith, now, rest) in
    paid_by cost gain fund e es c later (failing_part c e) refl

times_by : (n : ℕ) (cost : Core → Event → ℕ) (e : Event) (es : List Event) (c : Core) → sum_events (λ d f. n * cost d f) es (after_event c e) ≡ n * sum_events cost es (after_event c e) → (o : Option ℕ) → failing_part c e ≡ o
    → cond (is_none o) (n * cost c e + sum_events (λ d f. n * cost d f) es (after_event c e)) 0 ≡ n * cond (is_none o) (cost c e + sum_events cost es (after_event c e)) 0
times_by n cost e es c later None f = grind (arith, later)
times_by n cost e es c later (Some part) f = omega arith

-- a factor
pub times : (n : ℕ) (cost : Core → Event → ℕ) (es : List Event) (c : Core) → sum_events (λ d f. n * cost d f) es c ≡ n * sum_events cost es c
times n cost [] c = omega arith
times n cost (e ∷ es) c = times_by n cost e es c (times n cost es (after_event c e)) (failing_part c e) refl

plus_by : (a b : Core → Event → ℕ) (e : Event) (es : List Event) (c : Core) → sum_events (λ d f. a d f + b d f) es (after_event c e) ≡ sum_events a es (after_event c e) + sum_events b es (after_event c e) → (o : Option ℕ) → failing_part c e ≡ o
    → cond (is_none o) (a c e + b c e + sum_events (λ d f. a d f + b d f) es (after_event c e)) 0 ≡ cond (is_none o) (a c e + sum_events a es (after_event c e)) 0 + cond (is_none o) (b c e + sum_events b es (after_event c e)) 0
plus_by a b e es c later None f = omega (arith, later)
plus_by a b e es c later (Some part) f = omega arith

-- a sum of two
pub plus : (a b : Core → Event → ℕ) (es : List Event) (c : Core) → sum_events (λ d f. a d f + b d f) es c ≡ sum_events a es c + sum_events b es c
plus a b [] c = omega arith
plus a b (e ∷ es) c = plus_by a b e es c (plus a b es (after_event c e)) (failing_part c e) refl

-- an event of a seat with this record
pub one-is : (sort : Sort) (c : Core) (e : Event) (s : SeatState) → slice_get c.seats e.seat ≡ Some s → one_in sort c e ≡ bit (sort c s e.step)
one-is sort c e s g = ap (λ (o : Option SeatState). one_of sort c o e.step) g

shape_by : (e : Event) (es : List Event) (c : Core) → (run_of es (after_event c e)).shape ≡ c.shape → (o : Option ℕ) → (cond (is_none o) (run_of es (after_event c e)) c).shape ≡ c.shape
shape_by e es c later None = later
shape_by e es c later (Some part) = refl

-- a run keeps the shape
pub same-shape : (es : List Event) (c : Core) → (run_of es c).shape ≡ c.shape
same-shape [] c = refl
same-shape (e ∷ es) c = shape_by e es c (same-shape es (after_event c e) ∙ shape-kept c e) (failing_part c e)
