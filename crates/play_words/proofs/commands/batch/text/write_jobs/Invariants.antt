use Rattle.std.proofs.Common.{◌≡◌, take}
use Rattle.std.specs.List.{flat_map}
use Rattle.std.specs.Io.KnownBytes.{Appends}
use Rattle.play_words.specs.Batching.{job_text}
use Rattle.play_words.proofs.commands.batch.text.write_jobs.Given as goal

abbrev pub invariant-loop-job : goal.invariant-loop-job
invariant-loop-job g l =
    Appends (g.K.Sink.written l.initial.sink) (g.K.Sink.written l.sink) (flat_map job_text (take l.job-index l.done))
    × (g.K.Sink.faults l.sink ≡ g.K.Sink.faults l.initial.sink)
