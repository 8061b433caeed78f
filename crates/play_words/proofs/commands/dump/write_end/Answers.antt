use Rattle.std.proofs.Common.{refl}
use Rattle.play_words.specs.Dumping.{IsEndAnswer}
use Rattle.gc_play.proofs.Taking.{kept, text_ends}
use Rattle.play_words.proofs.ReadDumps.{end_answer}
use Rattle.play_words.proofs.commands.dump.write_end.Goals as goal

pub returns-in-Ok : goal.returns-in-Ok
returns-in-Ok g c =
    text_ends (IsEndAnswer c.args.script.now) _ _ _ _ _ _ _ _ c.after.ensures tt
    (end_answer c.args.script.now c.in-Ok.heap c.in-Ok.ensures.heap c.in-Ok.ensures.legal) c.write_dump.ensures

pub returns-in-Err : goal.returns-in-Err
returns-in-Err g c = (kept (g.K.Sink.written c.args.sink.now), refl)
