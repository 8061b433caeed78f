-- What each operation does to a heap that never forgets an object.
use Rattle.std.specs.Prelude.{ℕ, ◌+◌, ◌<◌, ◌≤◌, ◌^◌, zero, suc, [], ◌∷◌, ◌++◌, length, slice_get, slice_set, slice_index_or, replicate, Option, Some, None}
use Rattle.plain_heap.specs.declared.object.Ref.{Ref}
use Rattle.plain_heap.specs.declared.object.Ref.TheVariants as refs
use Rattle.plain_heap.specs.declared.object.Object.{Object}
use Rattle.plain_heap.specs.declared.operation.Op.{Op}
use Rattle.plain_heap.specs.declared.operation.Op.TheVariants as ops
use Rattle.plain_heap.specs.declared.operation.Line.{Line}
use Rattle.plain_heap.specs.declared.operation.Line.TheVariants as lines
use Rattle.plain_heap.specs.PlainHeap.{Heap, heap_variables, variable}

-- the object that a reference names: an own one stands in the heap, the others in the catalogue
abbrev pub object_of : Heap → Option Heap → Ref → Option Object
object_of heap catalogue refs.Nil = None
object_of heap catalogue (refs.Own n) = slice_get heap.objects n
object_of heap None (refs.Cat n) = None
object_of heap (Some catalogue) (refs.Cat n) = slice_get catalogue.objects n

-- a reference of the catalogue, as a warehouse sees it
abbrev pub lent : Ref → Ref
lent (refs.Own n) = refs.Cat n
lent refs.Nil = refs.Nil
lent (refs.Cat n) = refs.Cat n

-- what a field of an object refers to, as the heap sees it that the reference is in
abbrev pub field_of : Option Object → ℕ → Ref
field_of None i = refs.Nil
field_of (Some object) i = slice_index_or object.refs i refs.Nil

-- what field i of the object of a reference refers to, as this heap sees it
abbrev pub followed : Heap → Option Heap → Ref → ℕ → Ref
followed heap catalogue refs.Nil i = refs.Nil
followed heap catalogue (refs.Own n) i = field_of (slice_get heap.objects n) i
followed heap catalogue (refs.Cat n) i = lent (field_of (object_of heap catalogue (refs.Cat n)) i)

-- the heap in which a variable is changed
abbrev pub assigned : Heap → ℕ → Ref → Heap
assigned heap v ref = record heap { variables = slice_set heap.variables v ref }

-- the heap in which an object is changed
abbrev pub replaced : Heap → ℕ → Object → Heap
replaced heap n object = record heap { objects = slice_set heap.objects n object }

-- an object with another reference in field i
abbrev pub with_field : Object → ℕ → Ref → Object
with_field object i ref = record object { refs = slice_set object.refs i ref }

-- an object with another value
abbrev pub with_value : Object → ℕ → Object
with_value object n = record object { value = n }

-- a walk with one object more before it
abbrev pub onto : ℕ → ℕ × ℕ → ℕ × ℕ
onto value w = (1 + w.0, value + w.1)

-- an object after a change, if there is one
abbrev pub replaced_by : Heap → ℕ → (Object → Object) → Option Object → Heap
replaced_by heap n change None = heap
replaced_by heap n change (Some object) = replaced heap n (change object)

-- a store through a reference: nothing at nil, dropped at an object of the catalogue
abbrev pub stored_at : Heap → Ref → (Object → Object) → Heap
stored_at heap refs.Nil change = heap
stored_at heap (refs.Cat n) change = record heap { dropped = heap.dropped + 1 }
stored_at heap (refs.Own n) change = replaced_by heap n change (slice_get heap.objects n)

-- an object's value, as a line
abbrev pub value_line : Option Object → Line
value_line None = lines.Nil
value_line (Some object) = lines.Value object.value

-- the value of an object that a reference names
abbrev pub value_of : Option Object → ℕ
value_of None = 0
value_of (Some object) = object.value

-- at most this many objects from a reference on along a field, each visit counted: how many, and the sum of their values
abbrev pub walk : Heap → Option Heap → ℕ → ℕ → Ref → ℕ × ℕ
walk heap catalogue i zero ref = (0, 0)
walk heap catalogue i (suc limit) refs.Nil = (0, 0)
walk heap catalogue i (suc limit) (refs.Own n) =
    onto (value_of (object_of heap catalogue (refs.Own n))) (walk heap catalogue i limit (followed heap catalogue (refs.Own n) i))
walk heap catalogue i (suc limit) (refs.Cat n) =
    onto (value_of (object_of heap catalogue (refs.Cat n))) (walk heap catalogue i limit (followed heap catalogue (refs.Cat n) i))

-- the line that `sum` prints of a walk
abbrev pub walk_line : ℕ × ℕ → Line
walk_line w = lines.Walk w.0 w.1

-- what a catalogue's variable is, for a warehouse
abbrev pub lent_variable : Option Heap → ℕ → Ref
lent_variable None c = refs.Nil
lent_variable (Some catalogue) c = lent (variable catalogue c)

-- the object that `new` makes, with room for the greatest number of fields
abbrev pub new_object : ℕ → Object
new_object n = record { value = n; refs = replicate 16 refs.Nil }

-- the new object gets the next number, and the variable refers to it
abbrev pub with_new : Heap → ℕ → ℕ → Heap
with_new heap v n = record (assigned heap v (refs.Own (length heap.objects))) { objects = heap.objects ++ new_object n ∷ [] }

-- the heap after an operation
abbrev pub heap_after : Heap → Option Heap → Op → Heap
heap_after heap catalogue (ops.New v n) = with_new heap v n
heap_after heap catalogue (ops.Let v w) = assigned heap v (variable heap w)
heap_after heap catalogue (ops.Nil v) = assigned heap v refs.Nil
heap_after heap catalogue (ops.Set v i w) = stored_at heap (variable heap v) (λ object. with_field object i (variable heap w))
heap_after heap catalogue (ops.Get v w i) = assigned heap v (followed heap catalogue (variable heap w) i)
heap_after heap catalogue (ops.Cat v c) = assigned heap v (lent_variable catalogue c)
heap_after heap catalogue (ops.Put v n) = stored_at heap (variable heap v) (λ object. with_value object n)
heap_after heap catalogue (ops.Say v) = heap
heap_after heap catalogue (ops.Sum v i limit) = heap
heap_after heap catalogue ops.Collect = heap

-- what an operation prints
abbrev pub line_of : Heap → Option Heap → Op → Option Line
line_of heap catalogue (ops.Say v) = Some (value_line (object_of heap catalogue (variable heap v)))
line_of heap catalogue (ops.Sum v i limit) = Some (walk_line (walk heap catalogue i limit (variable heap v)))
line_of heap catalogue (ops.New v n) = None
line_of heap catalogue (ops.Let v w) = None
line_of heap catalogue (ops.Nil v) = None
line_of heap catalogue (ops.Set v i w) = None
line_of heap catalogue (ops.Get v w i) = None
line_of heap catalogue (ops.Cat v c) = None
line_of heap catalogue (ops.Put v n) = None
line_of heap catalogue ops.Collect = None

-- variables are below their number, fields below theirs, a walk has at most 65,536 objects
abbrev pub IsInRange : ℕ → Op → Type 0
IsInRange fields (ops.New v n) = (v < heap_variables) × (n < 2 ^ 32)
IsInRange fields (ops.Let v w) = (v < heap_variables) × (w < heap_variables)
IsInRange fields (ops.Nil v) = v < heap_variables
IsInRange fields (ops.Set v i w) = (v < heap_variables) × (i < fields) × (w < heap_variables)
IsInRange fields (ops.Get v w i) = (v < heap_variables) × (w < heap_variables) × (i < fields)
IsInRange fields (ops.Cat v c) = (v < heap_variables) × (c < heap_variables)
IsInRange fields (ops.Put v n) = (v < heap_variables) × (n < 2 ^ 32)
IsInRange fields (ops.Say v) = v < heap_variables
IsInRange fields (ops.Sum v i limit) = (v < heap_variables) × (i < fields) × (limit ≤ 65536)
IsInRange fields ops.Collect = Unit {0}

-- the one operation that takes memory
abbrev pub MakesObject : Op → Type 0
MakesObject (ops.New v n) = Unit {0}
MakesObject op = ⊥
