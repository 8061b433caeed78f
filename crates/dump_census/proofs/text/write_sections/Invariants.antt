use Rattle.std.proofs.Common.{◌≡◌, take}
use Rattle.std.specs.Io.KnownBytes.{Appends}
use Rattle.play_report.specs.Text.{numbered_texts}
use Rattle.dump_census.specs.Text.{section_text}
use Rattle.dump_census.proofs.text.write_sections.Given as goal

abbrev pub invariant-loop-w : goal.invariant-loop-w
invariant-loop-w g l =
    Appends (g.K.Sink.written l.initial.sink) (g.K.Sink.written l.sink) (numbered_texts section_text 0 (take l.w l.sections))
    × (g.K.Sink.faults l.sink ≡ g.K.Sink.faults l.initial.sink)
