use Rattle.command_words.specs.Commands.{options_of}
use Rattle.job_pool.specs.Batch.{batch, batch_fault_of}
use Rattle.play_words.specs.Batching.{BatchesTo, IsBatchAnswer, IsBatchFault}
use Rattle.play_words.proofs.Roomy.{fault_answer}
use Rattle.gc_play.proofs.Taking.{other_ends, read_ends}
use Rattle.play_words.proofs.commands.batch.batch_bytes.Goals as goal

pub returns-in-Err : goal.returns-in-Err
returns-in-Err g c =
    other_ends (IsBatchFault (batch_fault_of c.in-Err.fault)) (IsBatchAnswer (options_of c.args.options.now) c.args.bytes.now) _ _ _ _ _
    (fault_answer (options_of c.args.options.now) c.args.bytes.now (batch_fault_of c.in-Err.fault) c.in-Err.ensures.reads) c.tell_batch_fault.ensures

pub returns-in-Ok : goal.returns-in-Ok
returns-in-Ok g c = read_ends (BatchesTo (options_of c.args.options.now)) (batch c.args.bytes.now) c.in-Ok.batch _ _ _ _ _ c.in-Ok.ensures.reads c.play_jobs.ensures
