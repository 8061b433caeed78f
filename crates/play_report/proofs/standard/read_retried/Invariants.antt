use Rattle.std.specs.Io.KnownBytes.{Keeps}
use Rattle.play_report.proofs.standard.read_retried.Given as goal

abbrev pub invariant-loop-i : goal.invariant-loop-i
invariant-loop-i g l = Keeps (g.R.Read.remaining l.initial.inner) (g.R.Read.remaining l.inner)
