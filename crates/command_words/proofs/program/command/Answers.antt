use Rattle.command_words.proofs.Builders.{command_is, next_option, none_more}
use Rattle.command_words.proofs.program.command.Goals as goal

pub loop-name-init : goal.loop-name-init
loop-name-init c = record { more = none_more c.new-command.result }

pub loop-name-preserved : goal.loop-name-preserved
loop-name-preserved c = record {
  more = next_option _ _ _ c.args.options.now c.loop-name.name-index _ c.option.result c.loop-name-test.true c.loop-name.invariant.more c.in_ok-command.ensures c.option.ensures.rule c.option.ensures.local;
}

pub returns : goal.returns
returns c =
    command_is c.new-command.result c.loop-name.command c.args.name.now c.args.options.now c.loop-name.name-index c.new-command.ensures.app c.new-command.ensures.local c.loop-name-test.false
    c.loop-name.invariant.more
