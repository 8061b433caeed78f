use Rattle.gc_script.specs.Script.{script}
use Rattle.play_words.specs.Loading.{LoadsTo}
use Rattle.command_words.specs.Commands.{options_of}
use Rattle.gc_play.proofs.Taking.{read_ends}
use Rattle.play_words.proofs.commands.load.load_bytes.Goals as goal

pub returns-in-Ok : goal.returns-in-Ok
returns-in-Ok g c = read_ends (LoadsTo (options_of c.args.options.now)) (script c.args.bytes.now) c.in-Ok.script _ _ _ _ _ c.in-Ok.ensures.answers c.load_script.ensures
