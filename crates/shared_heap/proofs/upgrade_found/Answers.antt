use Rattle.shared_heap.proofs.Lost.{upgrade-found}
use Rattle.shared_heap.proofs.upgrade_found.Goals as goal

pub returns : goal.returns
returns c = upgrade-found
