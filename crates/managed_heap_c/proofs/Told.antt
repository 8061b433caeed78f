-- What is told of a collection's course, of a mutator's work and of a tracer's count, by a handle that no other call uses.
use Rattle.std.proofs.Common.{ℕ, ◌≡◌, Option, None, true, false, refl, sym, ap, ◌∙◌, subst, inl, inr}
use Rattle.std.proofs.lemmas.Bool.{false≢true}
use Rattle.std.specs.Prelude.{IsFalse, IsTrue}
use Rattle.seat_turns.specs.declared.background.Tracer.{Tracer}
use Rattle.managed_heap_c.specs.Telling.{TellsTraced, TellsTracedOnce}
use Rattle.managed_heap_c.specs.declared.hands.Hand.{Hand}
use Rattle.managed_heap_c.specs.declared.hands.TracerHand.{TracerHand}
use Rattle.managed_heap_c.proofs.Used.{Begun, has}

pub spared : {X : Type 0} (before after : X) {x m b : Hand} → m ≡ x → Begun m b → (b.stepper ≡ None → after ≡ before) → (IsTrue x.busy → after ≡ before) × (x.stepper ≡ None → after ≡ before)
spared before after lent begun s =
    (λ used. absurd (false≢true (sym (subst (λ (h : Hand). IsFalse h.busy) lent begun.0) ∙ used)), λ none. s (has lent begun ∙ none))

-- a tracer's handle was free, and a call has it now
abbrev pub TurnBegun : TracerHand → TracerHand → Type 0
TurnBegun m b = IsFalse m.busy × (b ≡ record m { busy = true })

turn-has : {x m b : TracerHand} → m ≡ x → TurnBegun m b → b.tracer ≡ x.tracer
turn-has lent begun = ap (λ (h : TracerHand). h.tracer) begun.1 ∙ ap (λ (h : TracerHand). h.tracer) lent

pub told-traced : (n : ℕ) (y : TracerHand) (before after : ℕ) {x m b e : TracerHand} → m ≡ x → TurnBegun m b → e ≡ record y { busy = false } → TellsTraced n b.tracer y.tracer before after → TellsTracedOnce n x e before after
told-traced n y before after {x} {m} {b} {e} lent begun ended a =
    inl (subst (λ (h : TracerHand). IsFalse h.busy) lent begun.0, ap (λ (h : TracerHand). h.busy) ended, subst (λ (q : Option Tracer). TellsTraced n q e.tracer before after) (turn-has lent begun) (subst (λ (q : Option Tracer). TellsTraced n b.tracer q before after) (sym (ap (λ (h : TracerHand). h.tracer) ended)) a))

pub told-in-use : (before : ℕ) {x m b : TracerHand} → m ≡ x → IsTrue m.busy × (b ≡ m) → TellsTracedOnce 12 x b before before
told-in-use before lent used = inr ((refl, subst (λ (h : TracerHand). IsTrue h.busy) lent used.0, used.1 ∙ lent), refl)
