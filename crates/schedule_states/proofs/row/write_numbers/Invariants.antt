use Rattle.std.proofs.Common.{◌≡◌, take}
use Rattle.std.specs.List.{flat_map}
use Rattle.std.specs.Io.KnownBytes.{Appends}
use Rattle.schedule_states.specs.Rows.{number_text}
use Rattle.schedule_states.proofs.row.write_numbers.Given as goal

abbrev pub invariant-loop-n : goal.invariant-loop-n
invariant-loop-n g l =
    Appends (g.K.Sink.written l.initial.sink) (g.K.Sink.written l.sink) (flat_map (number_text) (take l.n-index l.numbers))
    × (g.K.Sink.faults l.sink ≡ g.K.Sink.faults l.initial.sink)
