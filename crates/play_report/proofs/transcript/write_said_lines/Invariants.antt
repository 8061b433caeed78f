use Rattle.std.proofs.Common.{◌≡◌, take}
use Rattle.std.specs.List.{flat_map}
use Rattle.std.specs.Io.KnownBytes.{Appends}
use Rattle.play_report.specs.declared.report.Said.{Said}
use Rattle.play_report.specs.Report.{printed_of}
use Rattle.play_report.specs.Text.{printed_text}
use Rattle.play_report.proofs.transcript.write_said_lines.Given as goal

abbrev pub invariant-loop-line : goal.invariant-loop-line
invariant-loop-line g l =
    Appends (g.K.Sink.written l.initial.sink) (g.K.Sink.written l.sink) (flat_map (λ (s : Said). printed_text (printed_of s)) (take l.line-index l.said))
    × (g.K.Sink.faults l.sink ≡ g.K.Sink.faults l.initial.sink)
