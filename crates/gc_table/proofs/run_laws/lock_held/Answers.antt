use Rattle.gc_table.proofs.Locked.{lock-held}
use Rattle.gc_table.proofs.run_laws.lock_held.Goals as goal

pub returns : goal.returns
returns c = lock-held
