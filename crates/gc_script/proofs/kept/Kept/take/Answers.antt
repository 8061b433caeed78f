use Rattle.gc_script.specs.Said.{said_command}
use Rattle.gc_script.specs.Kept.{context_shown}
use Rattle.gc_script.proofs.Clear.{in_range}
use Rattle.gc_script.proofs.kept.Kept.take.Goals as goal

pub command-requires-clause-range : goal.command-requires-clause-range
command-requires-clause-range c = in_range (context_shown c.args.context.now) (said_command c.in-Command.spoken) c.requires.sane (rw c.in-Command.is at c.requires.clear)
