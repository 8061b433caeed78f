use Rattle.std.proofs.Common.{◌≡◌, ◌++◌, List, ℕ, ap, map, codes, sum_by, length, refl, ◌∙◌}
use Rattle.play_report.specs.declared.report.Part.{Part}
use Rattle.play_report.specs.Report.{outcome_of}
use Rattle.play_report.specs.Text.{named_text, made_text, placed_count}
use Rattle.play_report.proofs.Counts.{places_counted, lines_counted}
use Rattle.play_report.proofs.Turns.{then_writes, stops_writes, same_writes, same_stops}
use Rattle.play_report.proofs.load.write_made.Goals as goal

pieces : (n m : ℕ) (ps : List Part) → n ≡ sum_by (λ (p : Part). length p.places.items) ps → m ≡ sum_by (λ (p : Part). length p.said.items) ps
    → named_text (codes "objects ") n ++ named_text (codes "lines ") m ≡ made_text (map outcome_of ps)
pieces n m ps e f =
    ap (λ (k : ℕ). named_text (codes "objects ") k ++ named_text (codes "lines ") m) (e ∙ places_counted ps)
    ∙ ap (λ (k : ℕ). named_text (codes "objects ") (placed_count (map outcome_of ps)) ++ named_text (codes "lines ") k) (f ∙ lines_counted ps)

pub returns-in-Ok : goal.returns-in-Ok
returns-in-Ok g c =
    same_writes _ _ _ _ _ _ _ (pieces _ _ c.args.parts.now c.count_places.ensures c.count_lines.ensures)
    (then_writes _ _ _ _ _ _ _ _ _ c.in-Ok.ensures.0 c.in-Ok.ensures.1 c.write_named-in-Ok.ensures)

pub returns-in-Err : goal.returns-in-Err
returns-in-Err g c = same_stops _ _ _ _ _ _ (pieces _ _ c.args.parts.now c.count_places.ensures refl) (stops_writes _ _ _ _ _ _ c.in-Err.ensures)
