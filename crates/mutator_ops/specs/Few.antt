-- How many steps a call takes at most. A step is one atomic operation on one word.
use Rattle.std.specs.Prelude.{ℕ, ◌≤◌, ◌+◌, ◌*◌, length}
use Rattle.plain_heap.specs.declared.operation.Op.{Op}
use Rattle.plain_heap.specs.declared.operation.Op.TheVariants as ops
use Rattle.gc_table.specs.declared.view.View.{View}
use Rattle.gc_table.specs.Log.{events}

-- the call took this many steps at most
abbrev pub AtMost : ℕ → View → View → Type 0
AtMost k v w = length (events v w) ≤ k

-- the steps that a command takes at most, in a heap whose objects have this many fields
abbrev pub most_steps : ℕ → Op → ℕ
most_steps fields (ops.New v n) = fields + 3
most_steps fields (ops.Let v w) = 1
most_steps fields (ops.Nil v) = 1
most_steps fields (ops.Set v i w) = 4
most_steps fields (ops.Get v w i) = 2
most_steps fields (ops.Cat v c) = 2
most_steps fields (ops.Put v n) = 2
most_steps fields (ops.Say v) = 1
most_steps fields (ops.Sum v i limit) = 2 * limit + 1
most_steps fields ops.Collect = 0
