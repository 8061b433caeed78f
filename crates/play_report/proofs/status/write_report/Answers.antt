use Rattle.std.proofs.Common.{◌≡◌, ◌++◌, [], List, ℕ, Bool, ap, map, cond}
use Rattle.play_report.specs.declared.report.Part.{Part}
use Rattle.play_report.specs.Report.{outcome_of}
use Rattle.play_report.specs.Text.{placed_text}
use Rattle.play_report.proofs.Turns.{then_writes, stops_writes, same_writes}
use Rattle.play_report.proofs.status.write_report.Goals as goal

pieces : (xs ys : List Part) (front : List ℕ) (place : Bool) → xs ≡ ys → front ++ cond place (placed_text (map outcome_of xs)) [] ≡ front ++ cond place (placed_text (map outcome_of ys)) []
pieces xs ys front place e = ap (λ (l : List Part). front ++ cond place (placed_text (map outcome_of l)) []) e

pub returns-in-Ok : goal.returns-in-Ok
returns-in-Ok g c =
    same_writes _ _ _ _ _ _ _ (pieces _ _ _ c.args.place c.as_slice.ensures.value) (then_writes _ _ _ _ _ _ _ _ _ c.in-Ok.ensures.0 c.in-Ok.ensures.1 c.write_asked_places.ensures)

pub returns-in-Err : goal.returns-in-Err
returns-in-Err g c = stops_writes _ _ _ _ _ _ c.in-Err.ensures
