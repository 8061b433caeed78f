-- What one operation makes of a plain heap, if there is no catalogue.
use Rattle.std.specs.Prelude.{ℕ, ◌≡◌, length, Option, Some, None}
use Rattle.mark_core.specs.Numbers.{section_variables}
use Rattle.plain_heap.specs.declared.object.Object.{Object}
use Rattle.plain_heap.specs.declared.operation.Op.{Op}
use Rattle.plain_heap.specs.PlainHeap.{Heap, variable}
use Rattle.plain_heap.specs.PlainStep.{heap_after, object_of}

-- one operation was done: what it makes of the objects and of the variables
pub record Steps (op : Op) (x y : Heap) : Type 0 where
  pub objects : y.objects ≡ (heap_after x None op).objects
  pub variables : y.variables ≡ (heap_after x None op).variables
  -- there are as many variables as a mutator has
  pub count : length x.variables ≡ section_variables

-- the value of an object, if there is one
abbrev pub value_of_some : Option Object → Option ℕ
value_of_some None = None
value_of_some (Some object) = Some object.value

-- the value of the object that a variable refers to
abbrev pub value_in : Heap → ℕ → Option ℕ
value_in heap v = value_of_some (object_of heap None (variable heap v))
