use Rattle.std.proofs.Common.{◌≡◌, subst}
use Rattle.std.specs.Prelude.{IfOk}
use Rattle.play_report.proofs.Turns.{then_writes, stops_writes, same_writes, same_stops}
use Rattle.schedule_states.proofs.Fronts.{front}
use Rattle.schedule_states.proofs.Starts.{sizes_same, states_same, ends_same}
use Rattle.schedule_states.specs.declared.turns.Ended.{Ended}
use Rattle.schedule_states.proofs.tell.write_all_states.Goals as goal

pub returns-in-Ok-clause-writes : goal.returns-in-Ok-clause-writes
returns-in-Ok-clause-writes g c =
    let sizes = sizes_same c.args.schedule.now _ _ _ c.sizes.ensures c.shape.ensures.shape c.seats.ensures in
    same_writes _ _ _ _ _ _ _ (states_same c.args.schedule.now _ _ _ sizes c.lines.ensures c.requires)
    (then_writes _ _ _ _ _ _ _ _ _ c.in-Ok.ensures.0 c.in-Ok.ensures.1 c.write_run.ensures.writes)

pub returns-in-Ok-clause-told : goal.returns-in-Ok-clause-told
returns-in-Ok-clause-told g c =
    subst (λ (e : Ended). IfOk c.write_run.result (λ r. r ≡ e)) (ends_same c.args.schedule.now _ _ c.lines.ensures c.requires) c.write_run.ensures.told

pub returns-in-Err-clause-writes : goal.returns-in-Err-clause-writes
returns-in-Err-clause-writes g c =
    let sizes = sizes_same c.args.schedule.now _ _ _ c.sizes.ensures c.shape.ensures.shape c.seats.ensures in
    same_stops _ _ _ _ _ _ (front _ _ _ _ sizes) (stops_writes _ _ _ _ _ _ c.in-Err.ensures)
