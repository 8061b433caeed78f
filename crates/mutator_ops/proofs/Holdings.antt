-- Whose object it is, by its identity, and what a store through a variable does to the plain heap.
use Rattle.std.proofs.Common.{ℕ, ◌≡◌, ◌+◌, ◌/◌, ◌%◌, zero, suc, arith, refl, sym, ap, ◌∙◌, Bool, true, false, Some, None, Option}
use Rattle.std.specs.Prelude.{◌==◌, if◌then◌else◌, slice_get}
use Rattle.std.proofs.lemmas.Bool.{eqb-true, eq-eqb, true≢false}
use Rattle.mark_core.specs.Numbers.{section_span}
use Rattle.mark_core.specs.declared.kinds.Step.TheVariants.{ReadIdent}
use Rattle.plain_heap.specs.Paths.{Names}
use Rattle.plain_heap.specs.PlainHeap.{Heap}
use Rattle.plain_heap.specs.PlainStep.{stored_at, replaced_by}
use Rattle.plain_heap.specs.declared.object.Object.{Object}
use Rattle.plain_heap.specs.declared.object.Ref.{Ref}
use Rattle.plain_heap.specs.declared.object.Ref.TheVariants as refs
use Rattle.gc_table.specs.Seats.{Found}
use Rattle.gc_table.specs.declared.view.View.{View}
use Rattle.gc_table.proofs.History.Log.{only-after}
use Rattle.gc_table.proofs.Running.{ran-found}
use Rattle.mutator_ops.specs.declared.objects.Holds.TheVariants.{Nothing, OwnObject, LentObject}
use Rattle.mutator_ops.specs.Doing.{with_dropped, Looks, reads_ident}
use Rattle.mutator_ops.specs.Holding.{held_kind}

-- the section in the identity of an object is the own one, or it is the catalogue's
pub named-holding : (w n : ℕ) (ref : Ref) (own : Bool) → Names w ref (record { section = n / section_span; number = n % section_span }) → (w == n / section_span) ≡ own → held_kind ref ≡ (if own then OwnObject else LentObject)
named-holding w n refs.Nil own names e = absurd names
named-holding w n (refs.Own k) true names e = refl
named-holding w n (refs.Own k) false names e = absurd (true≢false (sym (eq-eqb w (n / section_span) (sym names.0)) ∙ e))
named-holding zero n (refs.Cat k) own names e = absurd names
named-holding (suc w) n (refs.Cat k) true names e = absurd (omega (arith, names.0, eqb-true (suc w) (n / section_span) e))
named-holding (suc w) n (refs.Cat k) false names e = refl

-- nothing changed when the identity was read
pub looked : (c n : ℕ) (v w : View) → Found (ReadIdent c) n v w → Looks v w
looked c n v w f = record { ran = ran-found v w (ReadIdent c) n refl f; only = only-after reads_ident v w (ReadIdent c) n refl f.0; state = ap (λ (x : View). x.state) f.0; own = ap (λ (x : View). x.own) f.0 }

-- what a variable holds, by the answer
pub holds-nothing : (ref : Ref) → Nothing ≡ held_kind ref → ref ≡ refs.Nil
holds-nothing refs.Nil e = refl
holds-nothing (refs.Own n) e = absurd (cc)
holds-nothing (refs.Cat n) e = absurd (cc)

-- a store through it
pub stored-nothing : (d : ℕ) (heap : Heap) (ref : Ref) (change : Object → Object) → Nothing ≡ held_kind ref → with_dropped (d + 0) heap ≡ stored_at (with_dropped d heap) ref change
stored-nothing d heap ref change e = (let none : d + 0 ≡ d = omega arith in ap (λ k. with_dropped k heap) none) ∙ ap (λ r. stored_at (with_dropped d heap) r change) (sym (holds-nothing ref e))

pub stored-lent : (d : ℕ) (heap : Heap) (ref : Ref) (change : Object → Object) → LentObject ≡ held_kind ref → with_dropped (d + 1) heap ≡ stored_at (with_dropped d heap) ref change
stored-lent d heap refs.Nil change e = absurd (cc)
stored-lent d heap (refs.Own n) change e = absurd (cc)
stored-lent d heap (refs.Cat n) change e = refl

replaced-dropped : (d : ℕ) (heap : Heap) (n : ℕ) (change : Object → Object) (o : Option Object) → with_dropped d (replaced_by heap n change o) ≡ replaced_by (with_dropped d heap) n change o
replaced-dropped d heap n change None = refl
replaced-dropped d heap n change (Some x) = refl

pub stored-own : (d : ℕ) (heap : Heap) (ref : Ref) (change : Object → Object) → OwnObject ≡ held_kind ref → with_dropped (d + 0) (stored_at heap ref change) ≡ stored_at (with_dropped d heap) ref change
stored-own d heap refs.Nil change e = absurd (cc)
stored-own d heap (refs.Own n) change e = (let none : d + 0 ≡ d = omega arith in ap (λ k. with_dropped k (stored_at heap (refs.Own n) change)) none) ∙ replaced-dropped d heap n change (slice_get heap.objects n)
stored-own d heap (refs.Cat n) change e = absurd (cc)

replaced-undropped : (heap : Heap) (n : ℕ) (change : Object → Object) (o : Option Object) → (replaced_by heap n change o).dropped ≡ heap.dropped
replaced-undropped heap n change None = refl
replaced-undropped heap n change (Some x) = refl

-- a store through a variable that holds an own object isn't dropped
pub own-undropped : (heap : Heap) (ref : Ref) (change : Object → Object) → OwnObject ≡ held_kind ref → (stored_at heap ref change).dropped ≡ heap.dropped
own-undropped heap refs.Nil change e = absurd (cc)
own-undropped heap (refs.Own n) change e = replaced-undropped heap n change (slice_get heap.objects n)
own-undropped heap (refs.Cat n) change e = absurd (cc)
