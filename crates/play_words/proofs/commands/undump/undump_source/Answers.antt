use Rattle.play_words.specs.Undumping.{IsUndumpAnswer}
use Rattle.gc_play.proofs.Taking.{source_ends, source_spent}
use Rattle.play_words.proofs.Dumped.{undump_of_whole}
use Rattle.play_words.proofs.commands.undump.undump_source.Goals as goal

pub returns-in-Ok-clause-ends : goal.returns-in-Ok-clause-ends
returns-in-Ok-clause-ends g c =
    source_ends 4984981 IsUndumpAnswer _ _ _ c.in-Ok.bytes.items c.as_slice.result.now _ _ _ _ _ _ undump_of_whole c.in-Ok.ensures.reads c.as_slice.ensures.value c.undump_bytes.ensures

pub returns-in-Ok-clause-spent : goal.returns-in-Ok-clause-spent
returns-in-Ok-clause-spent g c l = source_spent 4984981 _ _ c.in-Ok.bytes.items c.in-Ok.ensures.reads
