use Rattle.seat_steps.proofs.Few.{found-one}
use Rattle.shared_heap.proofs.mutator.SharedMutator.number.Goals as goal

pub returns-else-word_of-eq0-clause-few : goal.returns-else-word_of-eq0-clause-few
returns-else-word_of-eq0-clause-few c = found-one _ _ _ _ c.identity_shared.ensures.found
