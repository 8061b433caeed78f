use Rattle.std.proofs.Common.{ℕ, ◌<◌, get_or}
use Rattle.managed_heap_c.specs.Making.{IsGiven}
use Rattle.managed_heap_c.proofs.making.are_given.Given as goal

abbrev pub invariant-loop-i : goal.invariant-loop-i
invariant-loop-i l = (k : ℕ) → k < l.i → IsGiven (get_or l.fields k 0)
