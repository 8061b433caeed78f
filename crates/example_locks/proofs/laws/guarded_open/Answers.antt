use Rattle.example_locks.proofs.Opened.{guarded-open}
use Rattle.example_locks.proofs.laws.guarded_open.Goals as goal

pub returns : goal.returns
returns c = guarded-open c.seats_share_run.ensures c.lock_by_log.ensures c.pair_by_log.ensures
