use Rattle.std.proofs.Common.{◌≡◌, take}
use Rattle.std.specs.Io.KnownBytes.{Appends}
use Rattle.play_report.specs.declared.report.Part.{Part}
use Rattle.play_report.specs.Report.{outcome_of}
use Rattle.play_report.specs.Text.{numbered_texts, outcome_text}
use Rattle.play_report.proofs.transcript.write_warehouses.Given as goal

abbrev pub invariant-loop-i : goal.invariant-loop-i
invariant-loop-i g l =
    Appends (g.K.Sink.written l.initial.sink) (g.K.Sink.written l.sink) (numbered_texts (λ w (p : Part). outcome_text w (outcome_of p)) 1 (take l.i l.parts))
    × (g.K.Sink.faults l.sink ≡ g.K.Sink.faults l.initial.sink)
