use Rattle.std.proofs.Common.{arith, ℕ}
use Rattle.play_report.specs.declared.report.Part.{Part}
use Rattle.play_report.specs.Text.{cells_text}
use Rattle.play_report.proofs.Turns.{numbered_ok, numbered_err}
use Rattle.play_report.proofs.placed.write_places.Goals as goal

pub loop-section-preserved : goal.loop-section-preserved
loop-section-preserved g c =
    numbered_ok (λ (w : ℕ) (p : Part). cells_text w p.places.items) 0 _ _ _ _ _ _ _ _ _ _ _ c.loop-section-test.true (omega arith) c.index-parts-section.is c.loop-section.invariant (rw c.as_slice.ensures.value at c.in-Ok.ensures)

pub returns-in-Err : goal.returns-in-Err
returns-in-Err g c =
    numbered_err (λ (w : ℕ) (p : Part). cells_text w p.places.items) 0 _ _ _ _ _ _ _ _ _ _ _ c.loop-section-test.true (omega arith) c.index-parts-section.is c.loop-section.invariant (rw c.as_slice.ensures.value at c.in-Err.ensures)
