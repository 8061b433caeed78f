use Rattle.play_report.proofs.Turns.{then_writes, stops_writes, same_writes, same_stops}
use Rattle.play_words.proofs.Roomy.{job_pieces}
use Rattle.play_words.proofs.commands.batch.text.write_job.Goals as goal

pub returns-in-Ok : goal.returns-in-Ok
returns-in-Ok g c = same_writes _ _ _ _ _ _ _ (job_pieces c.args.done.now _ c.bytes-text.ensures) (then_writes _ _ _ _ _ _ _ _ _ c.in-Ok.ensures.0 c.in-Ok.ensures.1 c.write_lines.ensures)

pub returns-in-Err : goal.returns-in-Err
returns-in-Err g c = same_stops _ _ _ _ _ _ (job_pieces c.args.done.now _ c.bytes-text.ensures) (stops_writes _ _ _ _ _ _ c.in-Err.ensures)
