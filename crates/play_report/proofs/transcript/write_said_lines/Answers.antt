use Rattle.play_report.proofs.Turns.{turn_ok, turn_err}
use Rattle.play_report.proofs.transcript.write_said_lines.Goals as goal

pub loop-line-preserved : goal.loop-line-preserved
loop-line-preserved g c = turn_ok _ _ _ _ _ _ _ _ _ _ _ c.loop-line-test.true c.line-item.is c.loop-line.invariant c.in-Ok.ensures

pub returns-in-Err : goal.returns-in-Err
returns-in-Err g c = turn_err _ _ _ _ _ _ _ _ _ _ _ c.loop-line-test.true c.line-item.is c.loop-line.invariant c.in-Err.ensures
