-- What section 0 of a shared world does.
use Rattle.std.specs.Prelude.{[], ◌∷◌, List}
use Rattle.plain_heap.specs.declared.operation.Op.{Op}
use Rattle.plain_heap.specs.declared.operation.Op.TheVariants as ops

-- what section 0 does: it makes the root, in its variable 0
abbrev pub root_plan : List (List Op)
root_plan = (ops.New 0 0 ∷ []) ∷ []
