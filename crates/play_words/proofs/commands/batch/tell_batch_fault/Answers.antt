use Rattle.job_pool.specs.Batch.{batch_fault_of}
use Rattle.play_words.specs.Batching.{IsBatchFault}
use Rattle.play_words.proofs.Roomy.{fault_told}
use Rattle.gc_play.proofs.Taking.{text_ends}
use Rattle.play_words.proofs.commands.batch.tell_batch_fault.Goals as goal

pub returns : goal.returns
returns g c = text_ends (IsBatchFault (batch_fault_of c.args.fault.now)) _ _ _ _ _ _ _ _ c.after.ensures tt (fault_told c.args.fault.now c.requires) c.write_batch_fault.ensures
