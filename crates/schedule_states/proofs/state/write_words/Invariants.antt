use Rattle.std.proofs.Common.{◌≡◌, take}
use Rattle.std.specs.List.{flat_map}
use Rattle.std.specs.Io.KnownBytes.{Appends}
use Rattle.schedule_states.specs.Rows.{number_text}
use Rattle.schedule_states.proofs.state.write_words.Given as goal

abbrev pub invariant-loop-i : goal.invariant-loop-i
invariant-loop-i g l =
    Appends (g.K.Sink.written l.initial.sink) (g.K.Sink.written l.sink) (flat_map number_text (take l.i l.state.words))
    × (g.K.Sink.faults l.sink ≡ g.K.Sink.faults l.initial.sink)
