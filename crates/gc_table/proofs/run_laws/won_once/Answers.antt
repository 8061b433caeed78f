use Rattle.gc_table.proofs.Winning.{won-once}
use Rattle.gc_table.proofs.run_laws.won_once.Goals as goal

pub returns : goal.returns
returns c = won-once
