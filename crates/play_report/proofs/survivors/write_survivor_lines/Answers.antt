use Rattle.std.proofs.Common.{refl}
use Rattle.play_report.proofs.Turns.{turn_ok, turn_err}
use Rattle.play_report.proofs.survivors.write_survivor_lines.Goals as goal

pub loop-s-preserved : goal.loop-s-preserved
loop-s-preserved g c = turn_ok _ _ _ _ _ _ _ _ _ _ _ c.loop-s-test.true refl c.loop-s.invariant c.in-Ok.ensures

pub returns-in-Err : goal.returns-in-Err
returns-in-Err g c = turn_err _ _ _ _ _ _ _ _ _ _ _ c.loop-s-test.true refl c.loop-s.invariant c.in-Err.ensures
