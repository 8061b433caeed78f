use Rattle.std.proofs.Common.{refl}
use Rattle.play_report.proofs.Turns.{turn_ok, turn_err}
use Rattle.schedule_states.specs.Rows.{numbers_text}
use Rattle.schedule_states.specs.Seats.{packet_numbers}
use Rattle.schedule_states.proofs.Fronts.{same_numbers, short_numbers}
use Rattle.schedule_states.proofs.seat.write_packets.Goals as goal

pub loop-slot-preserved : goal.loop-slot-preserved
loop-slot-preserved g c =
    turn_ok (λ h. numbers_text (packet_numbers h)) _ _ _ _ _ _ _ _ _ _ c.loop-slot-test.true refl c.loop-slot.invariant (same_numbers _ _ _ _ _ _ c.packet.ensures c.in-Ok.ensures)

pub returns-in-Err : goal.returns-in-Err
returns-in-Err g c =
    turn_err (λ h. numbers_text (packet_numbers h)) _ _ _ _ _ _ _ _ _ _ c.loop-slot-test.true refl c.loop-slot.invariant (short_numbers _ _ _ _ _ _ c.packet.ensures c.in-Err.ensures)
