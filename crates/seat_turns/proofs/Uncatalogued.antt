-- Without a plan there is no object of a catalogue, and an operation does what it does without a catalogue.
use Rattle.std.proofs.Common.{ℕ, zero, suc, ◌≡◌, ◌+◌, List, [], refl, ap, ◌∙◌, false, Option, Some, None}
use Rattle.std.specs.Prelude.{◌/◌, slice_get}
use Rattle.std.proofs.Math.Seq.{take-nil}
use Rattle.std.proofs.lemmas.Bool.{true≢false}
use Rattle.mark_core.specs.declared.kinds.Shape.{Shape}
use Rattle.plain_heap.specs.PlainHeap.{Heap, empty_heap, variable}
use Rattle.plain_heap.specs.PlainRun.{heap_from}
use Rattle.plain_heap.specs.PlainStep.{assigned, field_of, followed, heap_after, lent, object_of}
use Rattle.plain_heap.specs.Sections.{joined, lends}
use Rattle.plain_heap.specs.declared.object.Object.{Object}
use Rattle.plain_heap.specs.declared.object.Ref.{Ref}
use Rattle.plain_heap.specs.declared.object.Ref.TheVariants as refs
use Rattle.plain_heap.specs.declared.operation.Op.{Op}
use Rattle.plain_heap.specs.declared.operation.Op.TheVariants as ops
use Rattle.gc_table.specs.Sections.{planned, seen_of}
use Rattle.gc_table.specs.declared.view.View.{View}
use Rattle.mutator_ops.specs.Doing.{seen}

-- the objects of a catalogue, if there is one
abbrev pub objects_of : Option Heap → List Object
objects_of None = []
objects_of (Some heap) = heap.objects

planned-none : (sh : Shape) (season : ℕ) → (planned sh [] season).objects ≡ []
planned-none sh season = ap (λ (xs : List (List Op)). (heap_from None (empty_heap sh.fields 0) (joined xs)).objects) (take-nil ((season + 1) / 2))

seen-none : (sh : Shape) (o : Option ℕ) (season : ℕ) → objects_of (seen_of sh [] o season) ≡ []
seen-none sh None season = refl
seen-none sh (Some zero) season = refl
seen-none sh (Some (suc w)) season = planned-none sh season

-- a seat without a plan sees no object of a catalogue
pub sees-none : (v : View) → v.plan ≡ [] → objects_of (seen v) ≡ []
sees-none v e = ap (λ (plan : List (List Op)). objects_of (seen (record v { plan = plan }))) e ∙ seen-none v.shape v.state.section _

pub object-none : (heap : Heap) (catalogue : Option Heap) → objects_of catalogue ≡ [] → (ref : Ref) → object_of heap catalogue ref ≡ object_of heap None ref
object-none heap catalogue e refs.Nil = refl
object-none heap catalogue e (refs.Own n) = refl
object-none heap None e (refs.Cat n) = refl
object-none heap (Some c) e (refs.Cat n) = ap (λ (xs : List Object). slice_get xs n) e

follow-none : (heap : Heap) (catalogue : Option Heap) → objects_of catalogue ≡ [] → (ref : Ref) (i : ℕ) → followed heap catalogue ref i ≡ followed heap None ref i
follow-none heap catalogue e refs.Nil i = refl
follow-none heap catalogue e (refs.Own n) i = refl
follow-none heap catalogue e (refs.Cat n) i = ap (λ (o : Option Object). lent (field_of o i)) (object-none heap catalogue e (refs.Cat n))

-- an operation that lends nothing does what it does without a catalogue
pub after-none : (heap : Heap) (catalogue : Option Heap) → objects_of catalogue ≡ [] → (op : Op) → lends op ≡ false → heap_after heap catalogue op ≡ heap_after heap None op
after-none heap catalogue e (ops.New v n) l = refl
after-none heap catalogue e (ops.Let v w) l = refl
after-none heap catalogue e (ops.Nil v) l = refl
after-none heap catalogue e (ops.Set v i w) l = refl
after-none heap catalogue e (ops.Get v w i) l = ap (assigned heap v) (follow-none heap catalogue e (variable heap w) i)
after-none heap catalogue e (ops.Cat v c) l = absurd (true≢false l)
after-none heap catalogue e (ops.Put v n) l = refl
after-none heap catalogue e (ops.Say v) l = refl
after-none heap catalogue e (ops.Sum v i limit) l = refl
after-none heap catalogue e ops.Collect l = refl
