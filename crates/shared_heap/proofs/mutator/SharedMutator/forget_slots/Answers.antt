use Rattle.seat_steps.proofs.Few.{cleared-few}
use Rattle.shared_heap.proofs.mutator.SharedMutator.forget_slots.Goals as goal

pub returns-in-Inside-clause-few : goal.returns-in-Inside-clause-few
returns-in-Inside-clause-few c = cleared-few _ _ _ _ c.clear_slots_shared.ensures.takes
