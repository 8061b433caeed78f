use Rattle.play_report.proofs.Turns.{then_writes, stops_writes}
use Rattle.schedule_states.proofs.seat.write_memory.Goals as goal

pub returns-in-Ok : goal.returns-in-Ok
returns-in-Ok g c = then_writes _ _ _ _ _ _ _ _ _ c.in-Ok.ensures.0 c.in-Ok.ensures.1 c.write_making.ensures

pub returns-in-Err : goal.returns-in-Err
returns-in-Err g c = stops_writes _ _ _ _ _ _ c.in-Err.ensures
