use Rattle.std.proofs.Common.{◌≡◌, take}
use Rattle.std.specs.Prelude.{flat_map}
use Rattle.std.specs.Io.KnownBytes.{Appends}
use Rattle.dump_census.specs.Text.{value_text}
use Rattle.dump_census.proofs.text.write_values.Given as goal

abbrev pub invariant-loop-v : goal.invariant-loop-v
invariant-loop-v g l =
    Appends (g.K.Sink.written l.initial.sink) (g.K.Sink.written l.sink) (flat_map value_text (take l.v-index l.values))
    × (g.K.Sink.faults l.sink ≡ g.K.Sink.faults l.initial.sink)
