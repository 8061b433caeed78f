-- What a report counts, as its outcomes have it.
use Rattle.std.proofs.Common.{◌≡◌, ℕ, ◌+◌, List, [], ◌∷◌, length, map, refl, ap, sym, ◌∙◌, sum_by}
use Rattle.std.proofs.lemmas.List.{length-map}
use Rattle.std.proofs.lemmas.List.Folds.{fold-map}
use Rattle.std.specs.List.{fold}
use Rattle.plain_heap.specs.Paths.{Survivor}
use Rattle.play_report.specs.declared.report.Part.{Part}
use Rattle.play_report.specs.declared.report.Survivor.{Survivor as Kept}
use Rattle.play_report.specs.Report.{Outcome, outcome_of, printed_of, survivor_of}
use Rattle.play_report.specs.Text.{placed_count, printed_count, total_value}

pub places_counted : (ps : List Part) → sum_by (λ (p : Part). length p.places.items) ps ≡ placed_count (map outcome_of ps)
places_counted ps = sym (fold-map (λ n (o : Outcome). n + length o.places) outcome_of 0 ps)

lines_from : (a : ℕ) (ps : List Part) → fold (λ n (p : Part). n + length p.said.items) a ps ≡ fold (λ n (o : Outcome). n + length o.said) a (map outcome_of ps)
lines_from a [] = refl
lines_from a (p ∷ ps) =
    ap (λ (n : ℕ). fold (λ m (q : Part). m + length q.said.items) (a + n) ps) (sym (length-map p.said.items printed_of))
    ∙ lines_from (a + length (map printed_of p.said.items)) ps

pub lines_counted : (ps : List Part) → sum_by (λ (p : Part). length p.said.items) ps ≡ printed_count (map outcome_of ps)
lines_counted ps = lines_from 0 ps

pub values_added : (ss : List Kept) → sum_by (λ (s : Kept). s.value) ss ≡ total_value (map survivor_of ss)
values_added ss = sym (fold-map (λ n (s : Survivor). n + s.value) survivor_of 0 ss)
