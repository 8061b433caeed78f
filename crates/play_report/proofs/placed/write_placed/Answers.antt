use Rattle.std.proofs.Common.{◌≡◌, ◌++◌, List, ℕ, length, ap, sym, map, codes, ◌∙◌, sum_by}
use Rattle.play_report.specs.declared.report.Part.{Part}
use Rattle.play_report.specs.Report.{Outcome, outcome_of}
use Rattle.play_report.specs.Text.{named_text, numbered_texts, cells_text, placed_count, placed_text}
use Rattle.play_report.proofs.Counts.{places_counted}
use Rattle.play_report.proofs.Turns.{numbered-map, then_writes, stops_writes, same_writes, same_stops}
use Rattle.play_report.proofs.placed.write_placed.Goals as goal

pieces : (n : ℕ) (ps : List Part) → n ≡ sum_by (λ (p : Part). length p.places.items) ps
    → named_text (codes "placed ") n ++ numbered_texts (λ w (p : Part). cells_text w p.places.items) 0 ps ≡ placed_text (map outcome_of ps)
pieces n ps e =
    ap (λ (k : ℕ). named_text (codes "placed ") k ++ numbered_texts (λ w (p : Part). cells_text w p.places.items) 0 ps) (e ∙ places_counted ps)
    ∙ ap (λ (l : List ℕ). named_text (codes "placed ") (placed_count (map outcome_of ps)) ++ l) (sym (numbered-map (λ w (o : Outcome). cells_text w o.places) outcome_of 0 ps))

pub returns-in-Ok : goal.returns-in-Ok
returns-in-Ok g c = same_writes _ _ _ _ _ _ _ (pieces _ c.args.parts.now c.count_places.ensures) (then_writes _ _ _ _ _ _ _ _ _ c.in-Ok.ensures.0 c.in-Ok.ensures.1 c.write_places.ensures)

pub returns-in-Err : goal.returns-in-Err
returns-in-Err g c = same_stops _ _ _ _ _ _ (pieces _ c.args.parts.now c.count_places.ensures) (stops_writes _ _ _ _ _ _ c.in-Err.ensures)
