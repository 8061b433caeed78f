use Rattle.std.proofs.Common.{◌≡◌, take}
use Rattle.std.specs.Prelude.{flat_map}
use Rattle.std.specs.Io.KnownBytes.{Appends}
use Rattle.heap_dump.specs.Reading.{heap_of_dump}
use Rattle.heap_dump.specs.Text.{object_text}
use Rattle.heap_dump.proofs.text.write_objects.Given as goal

abbrev pub invariant-loop-k : goal.invariant-loop-k
invariant-loop-k g l =
    Appends (g.K.Sink.written l.initial.sink) (g.K.Sink.written l.sink) (flat_map object_text (take l.k (heap_of_dump l.dump).records))
    × (g.K.Sink.faults l.sink ≡ g.K.Sink.faults l.initial.sink)
