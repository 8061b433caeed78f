use Rattle.std.proofs.Common.{refl, arith}
use Rattle.play_report.specs.Text.{triple_text}
use Rattle.play_report.proofs.Turns.{numbered_ok, numbered_err}
use Rattle.play_report.proofs.placed.write_cells.Goals as goal

pub loop-number-preserved : goal.loop-number-preserved
loop-number-preserved g c =
    numbered_ok (triple_text c.args.section) 0 _ _ _ _ _ _ _ _ _ _ _ c.loop-number-test.true (omega arith) refl c.loop-number.invariant c.in-Ok.ensures

pub returns-in-Err : goal.returns-in-Err
returns-in-Err g c =
    numbered_err (triple_text c.args.section) 0 _ _ _ _ _ _ _ _ _ _ _ c.loop-number-test.true (omega arith) refl c.loop-number.invariant c.in-Err.ensures
