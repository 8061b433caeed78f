use Rattle.queue_laws.proofs.LentNumbers.{queue_by_lending}
use Rattle.queue_laws.proofs.queue_by_lending.Goals as goal

pub returns : goal.returns
returns c = queue_by_lending
