use Rattle.std.proofs.Common.{◌≡◌, ◌++◌, List, ℕ, ap, codes}
use Rattle.play_report.specs.Text.{named_text, positions_text, full_text}
use Rattle.play_report.proofs.Turns.{then_writes, stops_writes, same_writes}
use Rattle.play_report.proofs.full.write_full.Goals as goal

pieces : (section : ℕ) (done items : List ℕ) → done ≡ items → named_text (codes "full section ") section ++ positions_text done ≡ full_text section items
pieces section done items e = ap (full_text section) e

pub returns-in-Ok : goal.returns-in-Ok
returns-in-Ok g c = same_writes _ _ _ _ _ _ _ (pieces c.args.positions.now.section _ _ c.as_slice.ensures.value) (then_writes _ _ _ _ _ _ _ _ _ c.in-Ok.ensures.0 c.in-Ok.ensures.1 c.write_positions.ensures)

pub returns-in-Err : goal.returns-in-Err
returns-in-Err g c = stops_writes _ _ _ _ _ _ c.in-Err.ensures
