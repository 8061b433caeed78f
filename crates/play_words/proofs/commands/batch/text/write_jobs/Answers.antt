use Rattle.play_report.proofs.Turns.{turn_ok, turn_err}
use Rattle.play_words.proofs.commands.batch.text.write_jobs.Goals as goal

pub loop-job-preserved : goal.loop-job-preserved
loop-job-preserved g c = turn_ok _ _ _ _ _ _ _ _ _ _ _ c.loop-job-test.true c.job-item.is c.loop-job.invariant c.in-Ok.ensures

pub returns-in-Err : goal.returns-in-Err
returns-in-Err g c = turn_err _ _ _ _ _ _ _ _ _ _ _ c.loop-job-test.true c.job-item.is c.loop-job.invariant c.in-Err.ensures
