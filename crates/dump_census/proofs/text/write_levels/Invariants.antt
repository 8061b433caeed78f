use Rattle.std.proofs.Common.{◌≡◌, take}
use Rattle.std.specs.Io.KnownBytes.{Appends}
use Rattle.play_report.specs.Text.{numbered_texts}
use Rattle.dump_census.specs.Text.{level_text}
use Rattle.dump_census.proofs.text.write_levels.Given as goal

abbrev pub invariant-loop-n : goal.invariant-loop-n
invariant-loop-n g l =
    Appends (g.K.Sink.written l.initial.sink) (g.K.Sink.written l.sink) (numbered_texts level_text 0 (take l.n l.levels))
    × (g.K.Sink.faults l.sink ≡ g.K.Sink.faults l.initial.sink)
