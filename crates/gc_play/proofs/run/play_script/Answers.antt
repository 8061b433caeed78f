use Rattle.std.proofs.Common.{inr}
use Rattle.gc_play.specs.RunAnswers.{PlaysTo}
use Rattle.command_words.specs.Commands.{options_of}
use Rattle.gc_play.specs.Ending.{IsStopAnswer}
use Rattle.gc_play.proofs.Taking.{other_ends, text_ends}
use Rattle.gc_play.proofs.Plays.{done_answer, stopped}
use Rattle.gc_play.proofs.run.play_script.Goals as goal

pub returns-in-Err : goal.returns-in-Err
returns-in-Err g c =
    other_ends (IsStopAnswer c.in-Err.error) (PlaysTo (options_of c.args.options.now) c.args.script.now) _ _ _ _ _
    (λ status text a. inr (stopped c.args.script.now.sections c.args.options.now.cells c.in-Err.error c.in-Err.ensures.answers status text a)) c.tell_stop.ensures

pub returns-in-Ok : goal.returns-in-Ok
returns-in-Ok g c =
    text_ends (PlaysTo (options_of c.args.options.now) c.args.script.now) _ _ _ _ _ _ _ _ c.after.ensures tt
    (done_answer (options_of c.args.options.now) c.args.script.now c.in-Ok.report c.in-Ok.ensures.answers) c.write_report.ensures
