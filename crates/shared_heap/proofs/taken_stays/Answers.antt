use Rattle.shared_heap.proofs.Deaths.{taken-stays}
use Rattle.shared_heap.proofs.taken_stays.Goals as goal

pub returns : goal.returns
returns c = taken-stays
