use Rattle.std.proofs.Common.{refl}
use Rattle.play_report.proofs.Turns.{turn_ok, turn_err}
use Rattle.schedule_states.specs.Rows.{number_text}
use Rattle.schedule_states.proofs.row.write_numbers.Goals as goal

pub loop-n-preserved : goal.loop-n-preserved
loop-n-preserved g c = turn_ok number_text _ _ _ _ _ _ _ _ _ _ c.loop-n-test.true refl c.loop-n.invariant c.in-Ok.ensures

pub returns-in-Err : goal.returns-in-Err
returns-in-Err g c = turn_err number_text _ _ _ _ _ _ _ _ _ _ c.loop-n-test.true refl c.loop-n.invariant c.in-Err.ensures
