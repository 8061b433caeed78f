use Rattle.std.proofs.Common.{◌≡◌, ◌++◌, List, ℕ, ap, sym, map, codes, ◌∙◌, append_assoc}
use Rattle.std.proofs.lemmas.List.Folds.{flat_map-map}
use Rattle.std.specs.List.{flat_map}
use Rattle.play_report.specs.declared.report.Part.{Part}
use Rattle.play_report.specs.declared.report.Said.{Said}
use Rattle.play_report.specs.Report.{outcome_of, printed_of}
use Rattle.play_report.specs.Text.{outcome_text, named_text, printed_text}
use Rattle.play_report.proofs.Turns.{then_writes, stops_writes, same_writes, same_stops}
use Rattle.play_report.proofs.transcript.write_part.Goals as goal

pieces : (n : ℕ) (p : Part) → named_text (codes "warehouse ") n ++ (flat_map (λ (s : Said). printed_text (printed_of s)) p.said.items ++ named_text (codes "dropped ") p.dropped) ≡ outcome_text n (outcome_of p)
pieces n p =
    ap (λ (l : List ℕ). named_text (codes "warehouse ") n ++ (l ++ named_text (codes "dropped ") p.dropped)) (sym (flat_map-map printed_text printed_of p.said.items))
    ∙ sym (append_assoc (named_text (codes "warehouse ") n) (flat_map printed_text (map printed_of p.said.items)) (named_text (codes "dropped ") p.dropped))

pub returns-in-Ok : goal.returns-in-Ok
returns-in-Ok g c = same_writes _ _ _ _ _ _ _ (pieces c.args.number c.args.part.now) (then_writes _ _ _ _ _ _ _ _ _ c.in-Ok.ensures.0 c.in-Ok.ensures.1 c.write_end.ensures)

pub returns-in-Err : goal.returns-in-Err
returns-in-Err g c = same_stops _ _ _ _ _ _ (pieces c.args.number c.args.part.now) (stops_writes _ _ _ _ _ _ c.in-Err.ensures)
