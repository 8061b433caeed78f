use Rattle.command_words.specs.Commands.{options_of}
use Rattle.play_words.specs.Batching.{IsBatchAnswer}
use Rattle.gc_play.proofs.Taking.{source_ends, source_spent}
use Rattle.play_words.proofs.Dumped.{batch_of_whole}
use Rattle.play_words.proofs.commands.batch.play_batch.Goals as goal

pub returns-in-Ok-clause-ends : goal.returns-in-Ok-clause-ends
returns-in-Ok-clause-ends g c =
    source_ends 16777217 (IsBatchAnswer (options_of c.args.options.now)) _ _ _ c.in-Ok.bytes.items c.as_slice.result.now _ _ _ _ _ _ (batch_of_whole (options_of c.args.options.now)) c.in-Ok.ensures.reads c.as_slice.ensures.value c.batch_bytes.ensures

pub returns-in-Ok-clause-spent : goal.returns-in-Ok-clause-spent
returns-in-Ok-clause-spent g c l = source_spent 16777217 _ _ c.in-Ok.bytes.items c.in-Ok.ensures.reads
