use Rattle.gc_table.proofs.Winning.{field-won-once}
use Rattle.gc_table.proofs.run_laws.field_won_once.Goals as goal

pub returns : goal.returns
returns c = field-won-once
