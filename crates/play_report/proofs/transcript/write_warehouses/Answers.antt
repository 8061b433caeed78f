use Rattle.std.proofs.Common.{arith, ℕ}
use Rattle.play_report.specs.declared.report.Part.{Part}
use Rattle.play_report.specs.Report.{outcome_of}
use Rattle.play_report.specs.Text.{outcome_text}
use Rattle.play_report.proofs.Turns.{numbered_ok, numbered_err}
use Rattle.play_report.proofs.transcript.write_warehouses.Goals as goal

pub loop-i-preserved : goal.loop-i-preserved
loop-i-preserved g c =
    numbered_ok (λ (w : ℕ) (p : Part). outcome_text w (outcome_of p)) 1 _ _ _ _ _ _ _ _ _ _ _ c.loop-i-test.true (omega arith) c.index-parts-i.is c.loop-i.invariant c.in-Ok.ensures

pub returns-in-Err : goal.returns-in-Err
returns-in-Err g c =
    numbered_err (λ (w : ℕ) (p : Part). outcome_text w (outcome_of p)) 1 _ _ _ _ _ _ _ _ _ _ _ c.loop-i-test.true (omega arith) c.index-parts-i.is c.loop-i.invariant c.in-Err.ensures
