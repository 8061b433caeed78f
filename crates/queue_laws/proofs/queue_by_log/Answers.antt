use Rattle.queue_laws.proofs.LogQueues.{queue_by_log}
use Rattle.queue_laws.proofs.queue_by_log.Goals as goal

pub returns : goal.returns
returns c = queue_by_log
