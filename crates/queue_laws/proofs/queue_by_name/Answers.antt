use Rattle.queue_laws.proofs.Queues.{queue_by_name}
use Rattle.queue_laws.proofs.queue_by_name.Goals as goal

pub returns : goal.returns
returns c = queue_by_name
