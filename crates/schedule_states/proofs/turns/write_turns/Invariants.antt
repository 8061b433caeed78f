use Rattle.schedule_states.proofs.Runs.{HasTurned}
use Rattle.schedule_states.proofs.turns.write_turns.Given as goal

abbrev pub invariant-loop-line : goal.invariant-loop-line
invariant-loop-line g l =
    HasTurned l.lines l.line-index l.initial.state l.state (g.K.Sink.written l.initial.sink) (g.K.Sink.written l.sink) (g.K.Sink.faults l.initial.sink) (g.K.Sink.faults l.sink)
