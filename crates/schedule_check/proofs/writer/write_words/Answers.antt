use Rattle.std.proofs.Common.{◌≡◌, ◌++◌, List, ℕ, ap, codes}
use Rattle.play_report.specs.Text.{named_text}
use Rattle.play_report.proofs.Turns.{then_writes, stops_writes, same_writes, same_stops}
use Rattle.schedule_check.proofs.writer.write_words.Goals as goal

number : (n m : ℕ) (rest : List ℕ) → n ≡ m → named_text (codes "phase ") n ++ rest ≡ named_text (codes "phase ") m ++ rest
number n m rest e = ap (λ (k : ℕ). named_text (codes "phase ") k ++ rest) e

pub returns-in-Ok : goal.returns-in-Ok
returns-in-Ok g c =
    same_writes _ _ _ _ _ _ _ (number _ _ _ c.phase_number.ensures)
    (then_writes _ _ _ _ _ _ _ _ _ c.in-Ok.ensures.0 c.in-Ok.ensures.1 c.write_named-in-Ok.ensures)

pub returns-in-Err : goal.returns-in-Err
returns-in-Err g c = same_stops _ _ _ _ _ _ (number _ _ _ c.phase_number.ensures) (stops_writes _ _ _ _ _ _ c.in-Err.ensures)
