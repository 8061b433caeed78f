use Rattle.gc_table.proofs.Telling.{reads-tell}
use Rattle.gc_table.proofs.run_laws.reads_tell.Goals as goal

pub returns : goal.returns
returns c = reads-tell
