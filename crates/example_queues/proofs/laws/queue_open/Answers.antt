use Rattle.example_queues.proofs.Opened.{queue-open}
use Rattle.example_queues.proofs.laws.queue_open.Goals as goal

pub returns : goal.returns
returns c = queue-open c.seats_share_run.ensures c.queue_by_lending.ensures c.queue_by_name.ensures
