use Rattle.std.proofs.Common.{◌≡◌, take}
use Rattle.std.specs.List.{flat_map}
use Rattle.std.specs.Io.KnownBytes.{Appends}
use Rattle.schedule_states.specs.Rows.{number_text}
use Rattle.schedule_states.proofs.seat.write_variables.Given as goal

abbrev pub invariant-loop-r : goal.invariant-loop-r
invariant-loop-r g l =
    Appends (g.K.Sink.written l.initial.sink) (g.K.Sink.written l.sink) (flat_map (number_text) (take l.r-index l.env))
    × (g.K.Sink.faults l.sink ≡ g.K.Sink.faults l.initial.sink)
