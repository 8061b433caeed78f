use Rattle.std.proofs.Common.{refl, arith, codes}
use Rattle.play_report.specs.Text.{pair_text}
use Rattle.play_report.proofs.Turns.{numbered_ok, numbered_err}
use Rattle.play_report.proofs.full.write_positions.Goals as goal

pub loop-section-preserved : goal.loop-section-preserved
loop-section-preserved g c =
    numbered_ok (pair_text (codes "position ")) 0 _ _ _ _ _ _ _ _ _ _ _ c.loop-section-test.true (omega arith) refl c.loop-section.invariant c.in-Ok.ensures

pub returns-in-Err : goal.returns-in-Err
returns-in-Err g c =
    numbered_err (pair_text (codes "position ")) 0 _ _ _ _ _ _ _ _ _ _ _ c.loop-section-test.true (omega arith) refl c.loop-section.invariant c.in-Err.ensures
