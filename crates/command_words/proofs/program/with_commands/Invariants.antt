use Rattle.std.proofs.Common.{◌≡◌, take}
use Rattle.clap.specs.Simple.{app_of}
use Rattle.command_words.specs.Building.{with_commands}
use Rattle.command_words.proofs.program.with_commands.Given as goal

abbrev pub invariant-loop-form : goal.invariant-loop-form
invariant-loop-form l = record { shape : app_of l.program ≡ with_commands (app_of l.initial.program) (take l.form-index l.forms) }
