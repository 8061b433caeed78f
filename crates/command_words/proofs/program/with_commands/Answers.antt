use Rattle.std.proofs.Common.{refl}
use Rattle.command_words.proofs.Builders.{all_commands, next_command}
use Rattle.command_words.proofs.program.with_commands.Goals as goal

pub loop-form-init : goal.loop-form-init
loop-form-init c = record { shape = refl }

pub loop-form-preserved : goal.loop-form-preserved
loop-form-preserved c = record {
  shape = next_command _ _ c.in_ok-command.field-0 _ c.args.forms.now c.loop-form.form-index _ c.loop-form-test.true c.loop-form.invariant.shape c.in_ok-command.ensures c.in_ok-program.ensures;
}

pub returns : goal.returns
returns c = all_commands _ c.loop-form.program c.args.forms.now c.loop-form.form-index c.loop-form-test.false c.loop-form.invariant.shape
