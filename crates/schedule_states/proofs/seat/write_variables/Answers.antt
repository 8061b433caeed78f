use Rattle.play_report.proofs.Turns.{turn_ok, turn_err}
use Rattle.schedule_states.specs.Rows.{number_text}
use Rattle.schedule_states.proofs.seat.write_variables.Goals as goal

pub loop-r-preserved : goal.loop-r-preserved
loop-r-preserved g c = turn_ok number_text _ _ _ _ _ _ _ _ _ _ c.loop-r-test.true c.from.ensures c.loop-r.invariant c.in-Ok.ensures

pub returns-in-Err : goal.returns-in-Err
returns-in-Err g c = turn_err number_text _ _ _ _ _ _ _ _ _ _ c.loop-r-test.true c.from.ensures c.loop-r.invariant c.in-Err.ensures
