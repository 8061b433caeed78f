use Rattle.std.proofs.Common.{◌≡◌, ◌++◌, List, ℕ, ap, map}
use Rattle.play_report.specs.declared.report.Part.{Part}
use Rattle.play_report.specs.Report.{outcome_of}
use Rattle.play_report.specs.Text.{warehouses_text}
use Rattle.play_report.proofs.Turns.{stops_writes, same_stops}
use Rattle.play_report.proofs.status.write_ends.Goals as goal

pieces : (xs ys : List Part) (rest : List ℕ) → xs ≡ ys → warehouses_text (map outcome_of xs) ++ rest ≡ warehouses_text (map outcome_of ys) ++ rest
pieces xs ys rest e = ap (λ (l : List Part). warehouses_text (map outcome_of l) ++ rest) e

pub returns-in-Err : goal.returns-in-Err
returns-in-Err g c = same_stops _ _ _ _ _ _ (pieces _ _ _ c.as_slice.ensures.value) (stops_writes _ _ _ _ _ _ c.in-Err.ensures)
