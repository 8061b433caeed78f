use Rattle.std.proofs.Common.{Ok}
use Rattle.command_words.specs.Commands.{options_of}
use Rattle.play_words.specs.Batching.{BatchesTo}
use Rattle.play_words.proofs.Roomy.{jobs_answer}
use Rattle.gc_play.proofs.Taking.{text_ends}
use Rattle.play_words.proofs.commands.batch.play_jobs.Goals as goal

pub returns-in-Ok : goal.returns-in-Ok
returns-in-Ok g c =
    text_ends (BatchesTo (options_of c.args.options.now) (Ok c.args.batch)) _ _ _ _ _ _ _ _ c.after.ensures tt
    (jobs_answer (options_of c.args.options.now) c.args.batch c.in-Ok.done.items _ c.in-Ok.ensures c.as_slice.ensures.value) c.write_jobs.ensures
