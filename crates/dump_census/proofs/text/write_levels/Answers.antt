use Rattle.std.proofs.Common.{refl, arith}
use Rattle.play_report.proofs.Turns.{numbered_ok, numbered_err}
use Rattle.dump_census.specs.Text.{level_text}
use Rattle.dump_census.proofs.text.write_levels.Goals as goal

pub loop-n-preserved : goal.loop-n-preserved
loop-n-preserved g c = numbered_ok level_text 0 _ _ _ _ _ _ _ _ _ _ _ c.loop-n-test.true (omega arith) refl c.loop-n.invariant c.in-Ok.ensures

pub returns-in-Err : goal.returns-in-Err
returns-in-Err g c = numbered_err level_text 0 _ _ _ _ _ _ _ _ _ _ _ c.loop-n-test.true (omega arith) refl c.loop-n.invariant c.in-Err.ensures
