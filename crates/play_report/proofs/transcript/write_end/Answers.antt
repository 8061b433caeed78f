use Rattle.std.proofs.Common.{◌≡◌, ◌++◌, List, ℕ, ap, codes}
use Rattle.std.specs.List.{flat_map}
use Rattle.play_report.specs.declared.report.Said.{Said}
use Rattle.play_report.specs.Report.{printed_of}
use Rattle.play_report.specs.Text.{named_text, printed_text}
use Rattle.play_report.proofs.Turns.{then_writes, stops_writes, same_writes, same_stops}
use Rattle.play_report.proofs.transcript.write_end.Goals as goal

pieces : (said items : List Said) (n : ℕ) → said ≡ items
    → flat_map (λ (s : Said). printed_text (printed_of s)) said ++ named_text (codes "dropped ") n ≡ flat_map (λ (s : Said). printed_text (printed_of s)) items ++ named_text (codes "dropped ") n
pieces said items n e = ap (λ (l : List Said). flat_map (λ (s : Said). printed_text (printed_of s)) l ++ named_text (codes "dropped ") n) e

pub returns-in-Ok : goal.returns-in-Ok
returns-in-Ok g c = same_writes _ _ _ _ _ _ _ (pieces _ _ c.args.part.now.dropped c.as_slice.ensures.value) (then_writes _ _ _ _ _ _ _ _ _ c.in-Ok.ensures.0 c.in-Ok.ensures.1 c.write_named.ensures)

pub returns-in-Err : goal.returns-in-Err
returns-in-Err g c = same_stops _ _ _ _ _ _ (pieces _ _ c.args.part.now.dropped c.as_slice.ensures.value) (stops_writes _ _ _ _ _ _ c.in-Err.ensures)
