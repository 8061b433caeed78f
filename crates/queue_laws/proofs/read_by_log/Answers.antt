use Rattle.queue_laws.proofs.KindLogs.{read_by_log}
use Rattle.queue_laws.proofs.read_by_log.Goals as goal

pub returns : goal.returns
returns c = read_by_log
