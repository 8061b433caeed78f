use Rattle.queue_laws.proofs.KindLogs.{kinds_by_log}
use Rattle.queue_laws.proofs.kinds_by_log.Goals as goal

pub returns : goal.returns
returns c = kinds_by_log
