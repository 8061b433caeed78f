use Rattle.gc_script.specs.Script.{script}
use Rattle.gc_script.specs.Shown.{fault_of}
use Rattle.gc_play.specs.RunAnswers.{IsRunAnswer, PlaysTo}
use Rattle.command_words.specs.Commands.{options_of}
use Rattle.gc_play.specs.Ending.{IsFaultAnswer}
use Rattle.gc_play.specs.Promise.{OfRead}
use Rattle.gc_play.proofs.Taking.{other_ends, read_ends}
use Rattle.gc_play.proofs.Faulted.{fault_answers}
use Rattle.gc_play.proofs.run.play_bytes.Goals as goal

pub returns-in-Err : goal.returns-in-Err
returns-in-Err g c =
    other_ends (IsFaultAnswer (fault_of c.in-Err.fault)) (IsRunAnswer (options_of c.args.options.now) c.args.bytes.now) _ _ _ _ _
    (fault_answers (PlaysTo (options_of c.args.options.now)) (fault_of c.in-Err.fault) (script c.args.bytes.now) c.in-Err.ensures.answers) c.tell_fault.ensures

pub returns-in-Ok : goal.returns-in-Ok
returns-in-Ok g c = read_ends (OfRead (PlaysTo (options_of c.args.options.now))) (script c.args.bytes.now) c.in-Ok.script _ _ _ _ _ c.in-Ok.ensures.answers c.play_script.ensures
