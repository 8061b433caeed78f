use Rattle.std.proofs.Common.{◌≡◌, take}
use Rattle.std.specs.Io.KnownBytes.{Appends}
use Rattle.play_report.specs.Text.{positions_text}
use Rattle.play_report.proofs.full.write_positions.Given as goal

abbrev pub invariant-loop-section : goal.invariant-loop-section
invariant-loop-section g l =
    Appends (g.K.Sink.written l.initial.sink) (g.K.Sink.written l.sink) (positions_text (take l.section l.done))
    × (g.K.Sink.faults l.sink ≡ g.K.Sink.faults l.initial.sink)
