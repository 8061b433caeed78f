use Rattle.managed_heap.proofs.Threads.{words_stand}
use Rattle.managed_heap.proofs.words_stand.Goals as goal

pub returns : goal.returns
returns c = words_stand
