use Rattle.shared_heap.proofs.Deaths.{death-received}
use Rattle.shared_heap.proofs.death_received.Goals as goal

pub returns : goal.returns
returns c = death-received
