use Rattle.std.proofs.Common.{subst}
use Rattle.gc_table.specs.declared.seat.Heap.{Heap}
use Rattle.seat_turns.proofs.Held.{turn-holds}
use Rattle.seat_turns.specs.Standing.{HoldsTurn}
use Rattle.shared_heap.proofs.mutator.SharedMutator.enter.Goals as goal

pub invariant_of-self-clause-inside : goal.invariant_of-self-clause-inside
invariant_of-self-clause-inside g c = λ _. subst (λ (h : Heap). HoldsTurn h c.enter_turn.new.seat) c.deref.ensures (turn-holds _ c.enter_turn.new.seat c.in-Ok.ensures.ok)
