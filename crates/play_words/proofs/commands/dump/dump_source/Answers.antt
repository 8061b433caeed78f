use Rattle.command_words.specs.Commands.{options_of}
use Rattle.play_words.specs.Dumping.{EndsDoneOrFull, IsDumpAnswer}
use Rattle.gc_play.proofs.Taking.{script_of_whole, source_ends, source_spent}
use Rattle.play_words.proofs.commands.dump.dump_source.Goals as goal

pub returns-in-Ok-clause-ends : goal.returns-in-Ok-clause-ends
returns-in-Ok-clause-ends g c =
    source_ends 1048577 (IsDumpAnswer (options_of c.args.options.now)) _ _ _ c.in-Ok.bytes.items c.as_slice.result.now _ _ _ _ _ _ (script_of_whole (EndsDoneOrFull (options_of c.args.options.now))) c.in-Ok.ensures.reads c.as_slice.ensures.value c.dump_bytes.ensures

pub returns-in-Ok-clause-spent : goal.returns-in-Ok-clause-spent
returns-in-Ok-clause-spent g c l = source_spent 1048577 _ _ c.in-Ok.bytes.items c.in-Ok.ensures.reads
