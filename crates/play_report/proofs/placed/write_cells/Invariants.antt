use Rattle.std.proofs.Common.{◌≡◌, take}
use Rattle.std.specs.Io.KnownBytes.{Appends}
use Rattle.play_report.specs.Text.{cells_text}
use Rattle.play_report.proofs.placed.write_cells.Given as goal

abbrev pub invariant-loop-number : goal.invariant-loop-number
invariant-loop-number g l =
    Appends (g.K.Sink.written l.initial.sink) (g.K.Sink.written l.sink) (cells_text l.section (take l.number l.cells))
    × (g.K.Sink.faults l.sink ≡ g.K.Sink.faults l.initial.sink)
