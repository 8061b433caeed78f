use Rattle.play_report.proofs.Turns.{same_stops}
use Rattle.schedule_states.proofs.Runs.{went, stopped}
use Rattle.schedule_states.proofs.turns.turn.Goals as goal

pub returns-in-Err-write_event-clause-writes : goal.returns-in-Err-write_event-clause-writes
returns-in-Err-write_event-clause-writes g c =
    same_stops _ _ _ _ _ _ (went c.args.state.now c.apply.new.self c.args.line.now c.place-at.result c.in-Ok.ensures.allowed c.place-at.ensures c.in-Ok.ensures.after) c.in-Err-write_event.ensures

pub returns-in-Err-write_refused-clause-writes : goal.returns-in-Err-write_refused-clause-writes
returns-in-Err-write_refused-clause-writes g c =
    same_stops _ _ _ _ _ _ (stopped c.args.state.now c.args.line.now _ _ c.in-Err.ensures.refused.0 c.in-Err.ensures.refused.1) c.in-Err-write_refused.ensures
