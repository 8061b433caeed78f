use Rattle.std.proofs.Common.{◌≡◌, take}
use Rattle.std.specs.List.{flat_map}
use Rattle.std.specs.Io.KnownBytes.{Appends}
use Rattle.play_report.specs.Report.{survivor_of}
use Rattle.play_report.specs.Text.{survivor_text}
use Rattle.play_report.proofs.survivors.write_survivor_lines.Given as goal

abbrev pub invariant-loop-s : goal.invariant-loop-s
invariant-loop-s g l =
    Appends (g.K.Sink.written l.initial.sink) (g.K.Sink.written l.sink) (flat_map (λ s. survivor_text (survivor_of s)) (take l.s-index l.survivors))
    × (g.K.Sink.faults l.sink ≡ g.K.Sink.faults l.initial.sink)
