-- What a call answers by a handle that no other call uses, and by one that another uses.
use Rattle.std.proofs.Common.{ℕ, ◌≡◌, Option, Some, None, true, false, refl, sym, ap, ◌∙◌, subst, inl, inr}
use Rattle.std.proofs.lemmas.Bool.{false≢true}
use Rattle.std.specs.Prelude.{IsFalse, IsTrue}
use Rattle.seat_steps.specs.declared.came.Came.{Came}
use Rattle.seat_steps.specs.declared.stepper.Stepper.{Stepper}
use Rattle.managed_heap_c.specs.Answering.{Answers, AnswersOnce, SparesGone, SparesUnused}
use Rattle.managed_heap_c.specs.declared.hands.Hand.{Hand}

-- the handle was free, and a call has it now
abbrev pub Begun : Hand → Hand → Type 0
Begun m b = IsFalse m.busy × (b ≡ record m { busy = true })

pub has : {x m b : Hand} → m ≡ x → Begun m b → b.stepper ≡ x.stepper
has lent begun = ap (λ (h : Hand). h.stepper) begun.1 ∙ ap (λ (h : Hand). h.stepper) lent

-- the handle has what the call had, before and after
pub once : (P : Came → Stepper → Stepper → Type 0) (n : ℕ) (y : Hand) {x m b e : Hand} → m ≡ x → Begun m b → e ≡ record y { busy = false } → Answers P n b.stepper y.stepper → AnswersOnce P n x e
once P n y {x} {m} {b} {e} lent begun ended a =
    inl (subst (λ (h : Hand). IsFalse h.busy) lent begun.0, ap (λ (h : Hand). h.busy) ended, subst (λ (q : Option Stepper). Answers P n q e.stepper) (has lent begun) (subst (λ (q : Option Stepper). Answers P n b.stepper q) (sym (ap (λ (h : Hand). h.stepper) ended)) a))

pub once-in-use : (P : Came → Stepper → Stepper → Type 0) {x m b : Hand} → m ≡ x → IsTrue m.busy × (b ≡ m) → AnswersOnce P 12 x b
once-in-use P lent used = inr (refl, subst (λ (h : Hand). IsTrue h.busy) lent used.0, used.1 ∙ lent)

pub spared : {X : Type 0} (before after : X) {x m b : Hand} → m ≡ x → Begun m b → SparesGone b.stepper before after → SparesUnused x before after
spared before after lent begun s = (λ used. absurd (false≢true (sym (subst (λ (h : Hand). IsFalse h.busy) lent begun.0) ∙ used)), subst (λ (q : Option Stepper). SparesGone q before after) (has lent begun) s)

unwritten : {X : Type 0} (o : Option Stepper) (before : X) → SparesGone o before before
unwritten None before = refl
unwritten (Some s) before = tt

pub spared-in-use : {X : Type 0} (x : Hand) (before : X) → SparesUnused x before before
spared-in-use x before = (λ _. refl, unwritten x.stepper before)
