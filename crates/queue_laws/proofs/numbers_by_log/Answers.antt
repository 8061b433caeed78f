use Rattle.queue_laws.proofs.NumberQueues.{numbers_by_log}
use Rattle.queue_laws.proofs.numbers_by_log.Goals as goal

pub returns : goal.returns
returns c = numbers_by_log
