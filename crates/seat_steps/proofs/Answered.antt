-- What a stepper's call answers, by where the stepper was.
use Rattle.std.proofs.Common.{ℕ, Bool, ◌≡◌, ◌∙◌, ap, refl, sym, subst, true}
use Rattle.plain_heap.specs.declared.operation.Op.{Op}
use Rattle.gc_table.specs.Seats.{Across, view_of}
use Rattle.gc_table.specs.declared.seat.Heap.{Heap}
use Rattle.gc_table.specs.declared.seat.HeapSeat.{HeapSeat}
use Rattle.seat_turns.specs.Standing.{IsMutatorOutside}
use Rattle.seat_turns.proofs.Leaving.{leaves-none}
use Rattle.seat_steps.specs.Causes.{EntersBy, EntersFreely, MakesBy, PassesBy}
use Rattle.seat_steps.specs.Arriving.{Arrives, MakesOne}
use Rattle.seat_steps.specs.declared.came.Came.{Came}
use Rattle.seat_steps.specs.declared.came.Came.TheVariants as cames
use Rattle.seat_steps.specs.Stepping.{Entered, EntersFrom, KeepsAll, KeepsCycle, KeepsHeap, KeepsPlace, Passed, StepperMakes, heap_of_stepper, is_collecting}
use Rattle.seat_steps.specs.declared.stepper.Stage.{Stage}
use Rattle.seat_steps.specs.declared.stepper.Stage.TheVariants as stages
use Rattle.seat_steps.specs.declared.stepper.Stepper.{Stepper}

-- what a stepper tells of its last collection
abbrev Told : Type 0
Told = Bool × Bool × Bool × Bool × ℕ × ℕ × ℕ × ℕ × ℕ × ℕ

abbrev told_of : Stepper → Told
told_of x = (x.precise, x.exact, x.again, x.shared, x.freed, x.traced, x.cleaned, x.rescanned, x.counted, x.next)

pub cycle-kept : (x y : Stepper) → told_of y ≡ told_of x → KeepsCycle x y
cycle-kept x y e =
    record {
      precise = ap (λ (t : Told). t.0) e;
      exact = ap (λ (t : Told). t.1) e;
      again = ap (λ (t : Told). t.2) e;
      shared = ap (λ (t : Told). t.3) e;
      freed = ap (λ (t : Told). t.4) e;
      traced = ap (λ (t : Told). t.5) e;
      cleaned = ap (λ (t : Told). t.6) e;
      rescanned = ap (λ (t : Told). t.7) e;
      counted = ap (λ (t : Told). t.8) e;
      next = ap (λ (t : Told). t.9) e;
    }

keeps-same : (x : Stepper) → KeepsAll x x
keeps-same x = record { heap = refl; leaves = leaves-none (view_of x.seat); world = refl; name_is = refl; stops = refl; search = record { paid_is = refl; block = refl; seen = refl }; cycle = cycle-kept x x refl }

-- who is neither outside nor inside collects
pub collects-now : (stage : Stage) → (stage ≡ stages.Outside → ⊥) → (stage ≡ stages.Inside → ⊥) → is_collecting stage ≡ true
collects-now stages.Outside out in_world = absurd (out refl)
collects-now stages.Inside out in_world = absurd (in_world refl)
collects-now stage out in_world = refl

-- and of the same one as it told before
pub cycle-join : (x y z : Stepper) → KeepsCycle x y → KeepsCycle y z → KeepsCycle x z
cycle-join x y z a b =
    record {
      precise = b.precise ∙ a.precise;
      exact = b.exact ∙ a.exact;
      again = b.again ∙ a.again;
      shared = b.shared ∙ a.shared;
      freed = b.freed ∙ a.freed;
      traced = b.traced ∙ a.traced;
      cleaned = b.cleaned ∙ a.cleaned;
      rescanned = b.rescanned ∙ a.rescanned;
      counted = b.counted ∙ a.counted;
      next = b.next ∙ a.next;
    }

-- entering
enters-inside : (x : Stepper) → x.stage ≡ stages.Inside → EntersFrom x.stage x x
enters-inside x e = subst (λ (a : Stage). EntersFrom a x x) (sym e) refl

pub enters-same : (x y : Stepper) → x.stage ≡ stages.Inside → y ≡ x → Entered cames.Done x y
enters-same x y e same = subst (λ (z : Stepper). Entered cames.Done x z) (sym same) (enters-inside x e, e, keeps-same x)

pub enters-outside : (x y : Stepper) → x.stage ≡ stages.Outside → Across EntersFreely x.seat y.seat → EntersFrom x.stage x y
enters-outside x y e p = subst (λ (a : Stage). EntersFrom a x y) (sym e) p

pub enters-out : (came : Came) (h : Heap) (x y : Stepper) → (came ≡ cames.Done → ⊥) → Arrives came h y.seat → Across (EntersBy came) x.seat y.seat → x.stage ≡ stages.Outside → y.stage ≡ stages.Outside → KeepsAll x y → Entered came x y
enters-out cames.Done h x y other a p e f k = absurd (other refl)
enters-out cames.Stopped h x y other a p e f k = (p, e, f, k)
enters-out cames.Full h x y other a p e f k = (p, e, f, k)
enters-out came h x y other a p e f k = absurd a

-- a safe point after which it is outside
pub passes-out : (came : Came) (h : Heap) (x y : Stepper) → (came ≡ cames.Done → ⊥) → Arrives came h y.seat → Across (PassesBy came) x.seat y.seat → x.stage ≡ stages.Inside → y.stage ≡ stages.Outside → KeepsAll x y → Passed came x y
passes-out cames.Done h x y other a p e f k = absurd (other refl)
passes-out cames.Stopped h x y other a p e f k = (p, e, f, k)
passes-out cames.Full h x y other a p e f k = (p, e, f, k)
passes-out came h x y other a p e f k = absurd a

-- who was to make an object and left
pub makes-out :
    (came : Came) (op : Op) (h : Heap) (x y : Stepper) → (came ≡ cames.Done → ⊥) → (came ≡ cames.NoCell → ⊥) → MakesOne came op h x.seat y.seat → Across (MakesBy came) x.seat y.seat → x.stage ≡ stages.Inside → y.stage ≡ stages.Outside
    → (heap_of_stepper y ≡ heap_of_stepper x → KeepsHeap x y) → KeepsPlace x y → StepperMakes came op x y
makes-out cames.Done op h x y other some m p e f k q = absurd (other refl)
makes-out cames.NoCell op h x y other some m p e f k q = absurd (some refl)
makes-out cames.Stopped op h x y other some m p e f k q = (p, e, f, k m.1, q)
makes-out cames.Full op h x y other some m p e f k q = (p, e, f, k m.1, q)
makes-out came op h x y other some m p e f k q = absurd m.0

-- who tried to come to its turn and hasn't is outside
pub arrives-out : (came : Came) (h : Heap) (s : HeapSeat) → (came ≡ cames.Done → ⊥) → Arrives came h s → IsMutatorOutside h s
arrives-out cames.Done h s other a = absurd (other refl)
arrives-out cames.Stopped h s other a = a
arrives-out cames.Full h s other a = a.0
arrives-out came h s other a = absurd a
