use Rattle.gc_table.proofs.State.StateKept.{rule_kept_by}
use Rattle.gc_table.proofs.laws.rule_is_kept.Goals as goal

pub returns : goal.returns
returns c = rule_kept_by
