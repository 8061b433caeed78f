use Rattle.std.proofs.Common.{◌≡◌, ◌≤◌, ◌-◌, drop, length}
use Rattle.std.specs.Io.KnownBytes.{Keeps, append_known}
use Rattle.play_report.proofs.gathered.hand_on.Given as goal

abbrev pub invariant-loop-at : goal.invariant-loop-at
invariant-loop-at g l =
    (l.at ≤ length l.bytes)
    × Keeps (append_known (g.K.Sink.written l.initial.inner) (drop l.initial.at l.bytes)) (append_known (g.K.Sink.written l.inner) (drop l.at l.bytes))
    × (g.K.Sink.faults l.inner ≡ g.K.Sink.faults l.initial.inner)

abbrev pub decreases-loop-at : goal.decreases-loop-at
decreases-loop-at g l = length l.bytes - l.at
