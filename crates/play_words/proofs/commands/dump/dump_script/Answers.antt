use Rattle.std.proofs.Common.{inr}
use Rattle.play_words.specs.Dumping.{EndsDoneOrFull, IsEndAnswer}
use Rattle.gc_play.specs.Ending.{IsStopAnswer}
use Rattle.command_words.specs.Commands.{options_of}
use Rattle.gc_play.proofs.Taking.{other_ends}
use Rattle.gc_play.proofs.Plays.{stopped}
use Rattle.play_words.proofs.ReadDumps.{dump_answer}
use Rattle.play_words.proofs.commands.dump.dump_script.Goals as goal

pub write_end-requires : goal.write_end-requires
write_end-requires g c =
    let e = c.in-Ok.ensures.ends in
    record { shape = _; few = c.requires.cells.1; seats = e.seats; closed = e.closed; played = e.played; parts = e.parts; report = c.in-Ok.ensures.answers }

pub returns-in-Ok : goal.returns-in-Ok
returns-in-Ok g c =
    other_ends (IsEndAnswer c.args.script.now) (EndsDoneOrFull (options_of c.args.options.now) c.args.script.now) _ _ _ _ _
    (dump_answer (options_of c.args.options.now) c.args.script.now) c.write_end.ensures

pub returns-in-Err : goal.returns-in-Err
returns-in-Err g c =
    other_ends (IsStopAnswer c.in-Err.error) (EndsDoneOrFull (options_of c.args.options.now) c.args.script.now) _ _ _ _ _
    (λ status text a. inr (stopped c.args.script.now.sections c.args.options.now.cells c.in-Err.error c.in-Err.ensures.answers status text a)) c.tell_stop.ensures
