-- How many objects commands add to a heap, whose number they keep.
use Rattle.std.proofs.Common.{◌≡◌, ℕ, ◌+◌, List, [], ◌∷◌, length, refl, ◌∙◌, arith, length-append, ◌<◌, ◌≤◌, ap, ◌++◌, take, cond}
use Rattle.std.proofs.Math.ListN.{length-set}
use Rattle.std.proofs.lemmas.List.Sums.{sum_by-cons, sum_by-append, sum_by-take-le}
use Rattle.std.specs.Prelude.{Option, Some, None, slice_get, if◌then◌else◌}
use Rattle.plain_heap.specs.declared.object.Ref.{Ref}
use Rattle.plain_heap.specs.declared.object.Ref.TheVariants as refs
use Rattle.plain_heap.specs.declared.object.Object.{Object}
use Rattle.plain_heap.specs.declared.operation.Op.{Op}
use Rattle.plain_heap.specs.declared.operation.Op.TheVariants as ops
use Rattle.plain_heap.specs.PlainHeap.{Heap, variable, empty_heap}
use Rattle.plain_heap.specs.PlainStep.{heap_after, stored_at, replaced_by, with_field, with_value, new_object}
use Rattle.plain_heap.specs.Sections.{Execution, makes_object, made_by, Sections, parts_of, joined, first_of, executed_of, IsNext}
use Rattle.plain_heap.specs.PlainRun.{heap_from, ops_of, plain, heap_after_parts, seen_catalogue}
use Rattle.std.proofs.lemmas.Option.{slice_get_within}
use Rattle.plain_heap.proofs.Parts.{joined-first, among-all}

replaced-objects : (h : Heap) (n : ℕ) (change : Object → Object) (o : Option Object) → length (replaced_by h n change o).objects ≡ length h.objects
replaced-objects h n change None = refl
replaced-objects h n change (Some object) = length-set h.objects n (change object)

stored-objects : (h : Heap) (r : Ref) (change : Object → Object) → length (stored_at h r change).objects ≡ length h.objects
stored-objects h refs.Nil change = refl
stored-objects h (refs.Cat n) change = refl
stored-objects h (refs.Own n) change = replaced-objects h n change (slice_get h.objects n)

replaced-section : (h : Heap) (n : ℕ) (change : Object → Object) (o : Option Object) → (replaced_by h n change o).section ≡ h.section
replaced-section h n change None = refl
replaced-section h n change (Some object) = refl

stored-section : (h : Heap) (r : Ref) (change : Object → Object) → (stored_at h r change).section ≡ h.section
stored-section h refs.Nil change = refl
stored-section h (refs.Cat n) change = refl
stored-section h (refs.Own n) change = replaced-section h n change (slice_get h.objects n)

pub objects_after : (h : Heap) (catalogue : Option Heap) (op : Op) → length (heap_after h catalogue op).objects ≡ (if makes_object op then 1 else 0) + length h.objects
objects_after h catalogue (ops.New v n) = omega (arith, length-append h.objects (new_object n ∷ []))
objects_after h catalogue (ops.Let v w) = omega arith
objects_after h catalogue (ops.Nil v) = omega arith
objects_after h catalogue (ops.Set v i w) = omega (arith, stored-objects h (variable h v) (λ object. with_field object i (variable h w)))
objects_after h catalogue (ops.Get v w i) = omega arith
objects_after h catalogue (ops.Cat v c) = omega arith
objects_after h catalogue (ops.Put v n) = omega (arith, stored-objects h (variable h v) (λ object. with_value object n))
objects_after h catalogue (ops.Say v) = omega arith
objects_after h catalogue (ops.Sum v i limit) = omega arith
objects_after h catalogue ops.Collect = omega arith

pub section_after : (h : Heap) (catalogue : Option Heap) (op : Op) → (heap_after h catalogue op).section ≡ h.section
section_after h catalogue (ops.New v n) = refl
section_after h catalogue (ops.Let v w) = refl
section_after h catalogue (ops.Nil v) = refl
section_after h catalogue (ops.Set v i w) = stored-section h (variable h v) (λ object. with_field object i (variable h w))
section_after h catalogue (ops.Get v w i) = refl
section_after h catalogue (ops.Cat v c) = refl
section_after h catalogue (ops.Put v n) = stored-section h (variable h v) (λ object. with_value object n)
section_after h catalogue (ops.Say v) = refl
section_after h catalogue (ops.Sum v i limit) = refl
section_after h catalogue ops.Collect = refl

-- the objects after commands are those before and those that the commands make
pub objects_from : (catalogue : Option Heap) (h : Heap) (es : List Execution) → length (heap_from catalogue h (ops_of es)).objects ≡ made_by es + length h.objects
objects_from catalogue h [] = omega arith
objects_from catalogue h (e ∷ es) =
    let one : made_by (e ∷ es) ≡ (if makes_object e.op then 1 else 0) + made_by es = sum_by-cons (λ (x : Execution). if makes_object x.op then 1 else 0) e es in
    let here : made_by es + length (heap_after h catalogue e.op).objects ≡ made_by (e ∷ es) + length h.objects = omega (arith, one, objects_after h catalogue e.op) in
    objects_from catalogue (heap_after h catalogue e.op) es ∙ here

pub section_from : (catalogue : Option Heap) (h : Heap) (os : List Op) → (heap_from catalogue h os).section ≡ h.section
section_from catalogue h [] = refl
section_from catalogue h (op ∷ os) = section_from catalogue (heap_after h catalogue op) os ∙ section_after h catalogue op

-- How many objects a section has after the first this many of its commands, and that it keeps its number.
-- the next command among all of its section
pub next-executed : (s : Sections) (w k z : ℕ) (e : Execution) → IsNext s w k z e → slice_get (executed_of s w) k ≡ Some e
next-executed s w k z e next = ap (slice_get (executed_of s w)) next.before ∙ among-all (parts_of s w) _ next.place e next.there

pub next-before : (s : Sections) (w k z : ℕ) (e : Execution) → IsNext s w k z e → k < length (executed_of s w)
next-before s w k z e next = slice_get_within (executed_of s w) k e (next-executed s w k z e next)

-- the objects after parts are those before and those that the parts make
objects-in : (s : Sections) (w z : ℕ) (h : Heap) (parts : List (List Execution)) → length (heap_after_parts s w z h parts).objects ≡ made_by (joined parts) + length h.objects
objects-in s w z h [] = omega arith
objects-in s w z h (part ∷ parts) =
    let after : Heap = heap_from (seen_catalogue s w z) h (ops_of part) in
    let all : made_by (part ++ joined parts) ≡ made_by part + made_by (joined parts) = sum_by-append (λ (e : Execution). cond (makes_object e.op) 1 0) part (joined parts) in
    omega (arith, all, objects_from (seen_catalogue s w z) h part, objects-in s w (z + 1) after parts)

-- the objects after the first k commands
pub plain-objects : (s : Sections) (w k : ℕ) → length (plain s w k).objects ≡ made_by (take k (executed_of s w))
plain-objects s w k =
    omega (arith, objects-in s w 1 (empty_heap s.fields w) (first_of k (parts_of s w)), ap made_by (joined-first k (parts_of s w)))

pub objects-most : (s : Sections) (w k : ℕ) → length (plain s w k).objects ≤ made_by (executed_of s w)
objects-most s w k = omega (arith, plain-objects s w k, sum_by-take-le (λ (e : Execution). cond (makes_object e.op) 1 0) (executed_of s w) k)

-- a section keeps its number
section-in : (s : Sections) (w z : ℕ) (h : Heap) (parts : List (List Execution)) → (heap_after_parts s w z h parts).section ≡ h.section
section-in s w z h [] = refl
section-in s w z h (part ∷ parts) = section-in s w (z + 1) (heap_from (seen_catalogue s w z) h (ops_of part)) parts ∙ section_from (seen_catalogue s w z) h (ops_of part)

pub plain-section : (s : Sections) (w k : ℕ) → (plain s w k).section ≡ w
plain-section s w k = section-in s w 1 (empty_heap s.fields w) (first_of k (parts_of s w))
