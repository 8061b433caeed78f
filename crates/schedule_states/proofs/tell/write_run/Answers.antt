use Rattle.play_report.proofs.Turns.{then_writes, stops_writes}
use Rattle.schedule_states.proofs.tell.write_run.Goals as goal

pub returns-in-Ok-clause-writes : goal.returns-in-Ok-clause-writes
returns-in-Ok-clause-writes g c = then_writes _ _ _ _ _ _ _ _ _ c.in-Ok.ensures.0 c.in-Ok.ensures.1 c.write_turns.ensures.writes

pub returns-in-Err-clause-writes : goal.returns-in-Err-clause-writes
returns-in-Err-clause-writes g c = stops_writes _ _ _ _ _ _ c.in-Err.ensures
