use Rattle.gc_play.specs.RunAnswers.{IsRunAnswer, PlaysTo}
use Rattle.command_words.specs.Commands.{options_of}
use Rattle.gc_play.proofs.Taking.{source_ends, source_spent, script_of_whole}
use Rattle.gc_play.proofs.run.play_source.Goals as goal

pub returns-in-Ok-clause-ends : goal.returns-in-Ok-clause-ends
returns-in-Ok-clause-ends g c =
    source_ends 1048577 (IsRunAnswer (options_of c.args.options.now)) _ _ _ c.in-Ok.bytes.items c.as_slice.result.now _ _ _ _ _ _ (script_of_whole (PlaysTo (options_of c.args.options.now))) c.in-Ok.ensures.reads c.as_slice.ensures.value c.play_bytes.ensures

pub returns-in-Ok-clause-spent : goal.returns-in-Ok-clause-spent
returns-in-Ok-clause-spent g c l = source_spent 1048577 _ _ c.in-Ok.bytes.items c.in-Ok.ensures.reads
