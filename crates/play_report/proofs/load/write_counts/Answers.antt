use Rattle.std.proofs.Common.{◌≡◌, ◌++◌, List, ℕ, ap, map}
use Rattle.play_report.specs.declared.report.Part.{Part}
use Rattle.play_report.specs.declared.report.Survivor.{Survivor}
use Rattle.play_report.specs.Report.{outcome_of, survivor_of}
use Rattle.play_report.specs.Text.{made_text, kept_text}
use Rattle.play_report.proofs.Turns.{then_writes, stops_writes, same_writes, same_stops}
use Rattle.play_report.proofs.load.write_counts.Goals as goal

pieces : (ps qs : List Part) (rest : List ℕ) → ps ≡ qs → made_text (map outcome_of ps) ++ rest ≡ made_text (map outcome_of qs) ++ rest
pieces ps qs rest e = ap (λ (l : List Part). made_text (map outcome_of l) ++ rest) e

ends : (front : List ℕ) (ss ts : List Survivor) → ss ≡ ts → front ++ kept_text (map survivor_of ss) ≡ front ++ kept_text (map survivor_of ts)
ends front ss ts e = ap (λ (l : List Survivor). front ++ kept_text (map survivor_of l)) e

pub returns-in-Ok : goal.returns-in-Ok
returns-in-Ok g c =
    same_writes _ _ _ _ _ _ _ (pieces _ _ _ c.as_slice.ensures.value)
    (same_writes _ _ _ _ _ _ _ (ends _ _ _ c.as_slice-in-Ok.ensures.value) (then_writes _ _ _ _ _ _ _ _ _ c.in-Ok.ensures.0 c.in-Ok.ensures.1 c.write_kept.ensures))

pub returns-in-Err : goal.returns-in-Err
returns-in-Err g c = same_stops _ _ _ _ _ _ (pieces _ _ _ c.as_slice.ensures.value) (stops_writes _ _ _ _ _ _ c.in-Err.ensures)
