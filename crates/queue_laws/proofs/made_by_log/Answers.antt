use Rattle.queue_laws.proofs.KindLogs.{made_by_log}
use Rattle.queue_laws.proofs.made_by_log.Goals as goal

pub returns : goal.returns
returns c = made_by_log
