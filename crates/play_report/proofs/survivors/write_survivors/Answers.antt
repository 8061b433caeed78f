use Rattle.std.proofs.Common.{◌≡◌, ◌++◌, List, ℕ, ap, sym, map, codes, ◌∙◌, length}
use Rattle.std.proofs.lemmas.List.Folds.{flat_map-map}
use Rattle.std.proofs.lemmas.List.{length-map}
use Rattle.std.specs.List.{flat_map}
use Rattle.play_report.specs.declared.report.Survivor.{Survivor}
use Rattle.play_report.specs.Report.{survivor_of}
use Rattle.play_report.specs.Text.{survivor_text, survivors_text, named_text}
use Rattle.play_report.proofs.Turns.{then_writes, stops_writes, same_writes, same_stops}
use Rattle.play_report.proofs.survivors.write_survivors.Goals as goal

pieces : (ss : List Survivor) → named_text (codes "survivors ") (length ss) ++ flat_map (λ s. survivor_text (survivor_of s)) ss ≡ survivors_text (map survivor_of ss)
pieces ss =
    ap (λ (n : ℕ). named_text (codes "survivors ") n ++ flat_map (λ s. survivor_text (survivor_of s)) ss) (sym (length-map ss survivor_of))
    ∙ ap (λ (l : List ℕ). named_text (codes "survivors ") (length (map survivor_of ss)) ++ l) (sym (flat_map-map survivor_text survivor_of ss))

pub returns-in-Ok : goal.returns-in-Ok
returns-in-Ok g c = same_writes _ _ _ _ _ _ _ (pieces _) (then_writes _ _ _ _ _ _ _ _ _ c.in-Ok.ensures.0 c.in-Ok.ensures.1 c.write_survivor_lines.ensures)

pub returns-in-Err : goal.returns-in-Err
returns-in-Err g c = same_stops _ _ _ _ _ _ (pieces _) (stops_writes _ _ _ _ _ _ c.in-Err.ensures)
