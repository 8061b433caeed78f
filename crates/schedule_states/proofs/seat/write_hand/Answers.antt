use Rattle.play_report.proofs.Turns.{then_writes, stops_writes, same_writes, same_stops}
use Rattle.schedule_states.proofs.Fronts.{front}
use Rattle.schedule_states.proofs.seat.write_hand.Goals as goal

pub returns-in-Ok : goal.returns-in-Ok
returns-in-Ok g c = same_writes _ _ _ _ _ _ _ (front _ _ _ _ c.hand.ensures) (then_writes _ _ _ _ _ _ _ _ _ c.in-Ok.ensures.0 c.in-Ok.ensures.1 c.write_cleaning.ensures)

pub returns-in-Err : goal.returns-in-Err
returns-in-Err g c = same_stops _ _ _ _ _ _ (front _ _ _ _ c.hand.ensures) (stops_writes _ _ _ _ _ _ c.in-Err.ensures)
