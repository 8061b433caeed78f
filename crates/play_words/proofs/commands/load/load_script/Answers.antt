use Rattle.std.proofs.Common.{Ok, arith, inr}
use Rattle.play_words.specs.Loading.{LoadsTo}
use Rattle.command_words.specs.Commands.{options_of}
use Rattle.gc_play.specs.Ending.{IsStopAnswer}
use Rattle.gc_play.proofs.Taking.{other_ends, text_ends}
use Rattle.play_words.proofs.LoadFits.{lines_fit, few_survivors, five_answer}
use Rattle.gc_play.proofs.Plays.{stopped}
use Rattle.play_words.proofs.commands.load.load_script.Goals as goal

pub returns-in-Err : goal.returns-in-Err
returns-in-Err g c =
    other_ends (IsStopAnswer c.in-Err.error) (LoadsTo (options_of c.args.options.now) (Ok c.args.script.now)) _ _ _ _ _
    (λ status text a. inr (stopped c.args.script.now.sections c.args.options.now.cells c.in-Err.error c.in-Err.ensures.answers status text a)) c.tell_stop.ensures

pub returns-in-Ok : goal.returns-in-Ok
returns-in-Ok g c =
    text_ends (LoadsTo (options_of c.args.options.now) (Ok c.args.script.now)) _ _ _ _ _ _ _ _ c.after.ensures tt
    (five_answer (options_of c.args.options.now) c.args.script.now c.executed-commands.result c.in-Ok.report c.in-Ok.ensures.answers c.executed-commands.ensures) c.write_load.ensures

pub write_load-requires-clause-lines : goal.write_load-requires-clause-lines
write_load-requires-clause-lines g c = lines_fit _ _ _ c.executed-commands.result c.in-Ok.report c.in-Ok.ensures.answers c.executed-commands.ensures c.executed-commands.type_inv

pub write_load-requires-clause-survivors : goal.write_load-requires-clause-survivors
write_load-requires-clause-survivors g c = omega (arith, few_survivors _ _ c.in-Ok.report c.in-Ok.ensures.answers c.requires.few)
