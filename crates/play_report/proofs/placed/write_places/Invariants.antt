use Rattle.std.proofs.Common.{◌≡◌, take}
use Rattle.std.specs.Io.KnownBytes.{Appends}
use Rattle.play_report.specs.declared.report.Part.{Part}
use Rattle.play_report.specs.Text.{numbered_texts, cells_text}
use Rattle.play_report.proofs.placed.write_places.Given as goal

abbrev pub invariant-loop-section : goal.invariant-loop-section
invariant-loop-section g l =
    Appends (g.K.Sink.written l.initial.sink) (g.K.Sink.written l.sink) (numbered_texts (λ w (p : Part). cells_text w p.places.items) 0 (take l.section l.parts))
    × (g.K.Sink.faults l.sink ≡ g.K.Sink.faults l.initial.sink)
