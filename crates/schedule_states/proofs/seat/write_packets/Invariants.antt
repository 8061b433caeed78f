use Rattle.std.proofs.Common.{◌≡◌, take}
use Rattle.std.specs.List.{flat_map}
use Rattle.std.specs.Io.KnownBytes.{Appends}
use Rattle.schedule_states.specs.Rows.{numbers_text}
use Rattle.schedule_states.specs.Seats.{packet_numbers}
use Rattle.schedule_states.proofs.seat.write_packets.Given as goal

abbrev pub invariant-loop-slot : goal.invariant-loop-slot
invariant-loop-slot g l =
    Appends (g.K.Sink.written l.initial.sink) (g.K.Sink.written l.sink) (flat_map (λ h. numbers_text (packet_numbers h)) (take l.slot-index l.held))
    × (g.K.Sink.faults l.sink ≡ g.K.Sink.faults l.initial.sink)
