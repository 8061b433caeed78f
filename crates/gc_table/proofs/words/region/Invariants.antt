use Rattle.std.proofs.Common.{◌≡◌, ◌-◌, take, drop}
use Rattle.std.specs.Vec.{vec_capacity}
use Rattle.std.specs.Slots.{slots_items}
use Rattle.gc_table.proofs.words.region.Given as goal

abbrev pub invariant-loop-i : goal.invariant-loop-i
invariant-loop-i l = (l.words.items ≡ take (l.i - l.fn.from) (drop l.fn.from (slots_items l.fn.closed.words))) × (vec_capacity l.words ≡ vec_capacity l.fn.room)
