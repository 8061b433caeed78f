use Rattle.std.proofs.Common.{◌≡◌, ◌++◌, List, ℕ, ap, sym, map, codes, sum_by, length, refl, ◌∙◌}
use Rattle.std.proofs.lemmas.List.{length-map}
use Rattle.play_report.specs.declared.report.Survivor.{Survivor}
use Rattle.play_report.specs.Report.{survivor_of}
use Rattle.play_report.specs.Text.{named_text, kept_text}
use Rattle.play_report.proofs.Counts.{values_added}
use Rattle.play_report.proofs.Turns.{then_writes, stops_writes, same_writes, same_stops}
use Rattle.play_report.proofs.load.write_kept.Goals as goal

pieces : (n : ℕ) (ss : List Survivor) → n ≡ sum_by (λ (s : Survivor). s.value) ss
    → named_text (codes "survivors ") (length ss) ++ named_text (codes "total ") n ≡ kept_text (map survivor_of ss)
pieces n ss e =
    ap (λ (k : ℕ). named_text (codes "survivors ") k ++ named_text (codes "total ") n) (sym (length-map ss survivor_of))
    ∙ ap (λ (k : ℕ). named_text (codes "survivors ") (length (map survivor_of ss)) ++ named_text (codes "total ") k) (e ∙ values_added ss)

pub returns-in-Ok : goal.returns-in-Ok
returns-in-Ok g c =
    same_writes _ _ _ _ _ _ _ (pieces _ c.args.survivors.now c.add_values.ensures)
    (then_writes _ _ _ _ _ _ _ _ _ c.in-Ok.ensures.0 c.in-Ok.ensures.1 c.write_named-in-Ok.ensures)

pub returns-in-Err : goal.returns-in-Err
returns-in-Err g c = same_stops _ _ _ _ _ _ (pieces _ c.args.survivors.now refl) (stops_writes _ _ _ _ _ _ c.in-Err.ensures)
