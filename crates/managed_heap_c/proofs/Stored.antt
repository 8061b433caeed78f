-- What a store came to, by what the mutator's call came to and whether the variable refers to nothing.
use Rattle.std.proofs.Common.{ℕ, ◌≡◌, ◌<◌, List, [], ◌∷◌, Bool, true, false, refl, sym, ap, ◌∙◌, subst}
use Rattle.std.proofs.lemmas.Bool.{false≢true}
use Rattle.std.specs.Prelude.{Result, Ok, Err, IfOk, IfErr, IsTrue, IsFalse, None}
use Rattle.mark_core.specs.Steps.MutatorSteps.{seat_variable as word_in}
use Rattle.gc_table.specs.Log.{steps_of}
use Rattle.gc_table.specs.Seats.{did, state_of, view_of}
use Rattle.gc_table.specs.declared.view.Entry.{Entry}
use Rattle.plain_heap.specs.PlainHeap.{heap_variables, variable}
use Rattle.plain_heap.specs.declared.object.Ref.TheVariants.{Nil}
use Rattle.plain_heap.specs.PlainStep.{IsInRange, heap_after}
use Rattle.plain_heap.specs.declared.operation.Op.{Op}
use Rattle.plain_heap.specs.declared.operation.Op.TheVariants as ops
use Rattle.seat_steps.specs.Doing.{DoesShared, RefersToNothing, TakesOwn}
use Rattle.seat_steps.specs.declared.came.Came.{Came}
use Rattle.seat_steps.specs.declared.came.Came.TheVariants as cames
use Rattle.seat_steps.specs.Asking.{DeclinesToTell}
use Rattle.seat_steps.specs.Stepping.{KeepsSearch, Operates, StepperDoes, fields_in, heap_of_stepper, is_collecting, shares}
use Rattle.seat_steps.specs.declared.stepper.Stage.{Stage}
use Rattle.seat_steps.specs.declared.stepper.Stage.TheVariants.{Inside, Outside}
use Rattle.seat_steps.specs.declared.stepper.Stepper.{Stepper}
use Rattle.managed_heap_c.specs.Asking.{IsNil}
use Rattle.managed_heap_c.specs.Storing.{Stores, StoresNothing, TellsNil}

abbrev is_out : Stage → Bool
is_out Outside = true
is_out stage = false

-- whoever is inside is told of its variables
refused : (why : Came) (v : ℕ) (x : Stepper) → v < heap_variables → x.stage ≡ Inside → DeclinesToTell why (ops.Say v) x → ⊥
refused cames.OutOfRange v x low was told = told low
refused cames.Outside v x low was out = false≢true (sym (ap is_out was) ∙ ap is_out out)
refused cames.Collecting v x low was e = false≢true (sym (ap is_collecting was) ∙ e)
refused why v x low was told = told

-- no step is no event
no_events : (es : List Entry) → steps_of es ≡ [] → es ≡ []
no_events [] e = refl
no_events (x ∷ xs) e = absurd (cc)

-- a store through a variable that refers to nothing changes nothing of the plain heap, and takes no step
pub record Spares (v : ℕ) (op : Op) (x y : Stepper) : Type 0 where
  pub own : variable (heap_of_stepper x) v ≡ Nil → heap_after (heap_of_stepper x) None op ≡ heap_of_stepper x
  pub takes : variable (heap_of_stepper x) v ≡ Nil → TakesOwn op (view_of x.seat) (view_of y.seat) → steps_of (did x.seat y.seat) ≡ []
  pub shared : word_in (state_of x.seat) v ≡ 0 → DoesShared op (view_of x.seat) (view_of y.seat) → steps_of (did x.seat y.seat) ≡ []

nothing : (v : ℕ) (op : Op) (x y : Stepper) → StepperDoes op x y → KeepsSearch x y → IsNil v x → Spares v op x y → StoresNothing v op x y
nothing v op x y d search nil same =
    record {
      nil = nil;
      range = d.range;
      was = d.was;
      inside = d.inside;
      own = λ f.
          let s = d.does.own f in
          let still = same.own (subst (λ (b : Bool). RefersToNothing b v x.seat) f nil) in
          (s.objects ∙ ap (λ h. h.objects) still, s.variables ∙ ap (λ h. h.variables) still);
      none = no_events (did x.seat y.seat) (no_step (shares x) refl);
      world = d.world;
      name_is = d.name_is;
      stops = d.stops;
      search = search;
      cycle = d.cycle;
    }
  where
    no_step : (b : Bool) → shares x ≡ b → steps_of (did x.seat y.seat) ≡ []
    no_step false f = same.takes (subst (λ (b : Bool). RefersToNothing b v x.seat) f nil) (d.does.takes f)
    no_step true t = same.shared (subst (λ (b : Bool). RefersToNothing b v x.seat) t nil) (d.does.shared t)

pub stored :
    (v : ℕ) (op : Op) (told came : Came) (nil : Result Bool Came) (x y : Stepper) → (IsInRange (fields_in x) op → v < heap_variables) → Spares v op x y
    → IfOk nil (λ n. IsTrue n → IsNil v x) → IfOk nil (λ n. IsFalse n → IsNil v x → ⊥) → IfErr nil (λ why. DeclinesToTell why (ops.Say v) x) → Operates came op x y → TellsNil told came nil → Stores v op told x y
stored v op told cames.Done (Ok true) x y low same is not none d t = subst (λ r. Stores v op r x y) (sym t) (nothing v op x y d.0 d.2 (is refl) same)
stored v op told cames.Done (Ok false) x y low same is not none d t = subst (λ r. Stores v op r x y) (sym t) (d.0, d.1, not refl, d.2)
stored v op told cames.Done (Err why) x y low same is not none d t = subst (λ r. Stores v op r x y) (sym t) (d.0, d.1, (λ _. refused why v x (low d.0.range) d.0.was none), d.2)
stored v op told cames.Nil nil x y low same is not none d t = absurd d
stored v op told came nil x y low same is not none d t = subst (λ r. Stores v op r x y) (sym t) d
