-- A heap that never forgets an object.
use Rattle.std.specs.Prelude.{ℕ, List, slice_index_or, replicate, [], Bool, true, false}
use Rattle.plain_heap.specs.declared.object.Ref.{Ref}
use Rattle.plain_heap.specs.declared.object.Ref.TheVariants.{Nil, Own, Cat}
use Rattle.plain_heap.specs.declared.object.Object.{Object}

-- a section number, how many fields an object has, the objects by their numbers, the variables by theirs, and how many stores were dropped
pub record Heap : Type 0 where
  pub section : ℕ
  pub fields : ℕ
  pub objects : List Object
  pub variables : List Ref
  pub dropped : ℕ

-- how many variables a heap has, numbered from 0
abbrev pub heap_variables : ℕ
heap_variables = 32

-- how a section begins
abbrev pub empty_heap : ℕ → ℕ → Heap
empty_heap fields section = record { section = section; fields = fields; objects = []; variables = replicate heap_variables Nil; dropped = 0 }

-- what a variable holds
abbrev pub variable : Heap → ℕ → Ref
variable heap v = slice_index_or heap.variables v Nil

-- the reference is to an object of the own section
abbrev pub is_own : Ref → Bool
is_own Nil = false
is_own (Own n) = true
is_own (Cat n) = false
