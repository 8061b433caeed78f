use Rattle.std.proofs.Common.{refl}
use Rattle.play_report.proofs.Turns.{turn_ok, turn_err}
use Rattle.dump_census.specs.Text.{value_text}
use Rattle.dump_census.proofs.text.write_values.Goals as goal

pub loop-v-preserved : goal.loop-v-preserved
loop-v-preserved g c = turn_ok value_text _ _ _ _ _ _ _ _ _ _ c.loop-v-test.true refl c.loop-v.invariant c.in-Ok.ensures

pub returns-in-Err : goal.returns-in-Err
returns-in-Err g c = turn_err value_text _ _ _ _ _ _ _ _ _ _ c.loop-v-test.true refl c.loop-v.invariant c.in-Err.ensures
