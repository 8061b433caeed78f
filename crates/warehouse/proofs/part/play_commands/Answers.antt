use Rattle.std.proofs.Common.{◌∙◌, ap, sym}
use Rattle.play_end.specs.Done.{turn_word}
use Rattle.gc_script.specs.Shown.{execution_of}
use Rattle.warehouse.proofs.Going.{next-of, so-far-all, so-far-next, so-far-none, stops-within}
use Rattle.warehouse.proofs.part.play_commands.Goals as goal

pub loop-command-init : goal.loop-command-init
loop-command-init g c =
    so-far-none c.args.heap.now c.args.section.now c.args.season c.turn_of-turn.result c.into_iter-command-iterator.result c.args.mutator.now c.requires.playing (c.turn_of-turn.ensures ∙ ap (λ w. turn_word w c.args.season) c.number.ensures)
    (sym c.commands_of.ensures.commands ∙ sym c.lent-command-items.ensures ∙ sym c.into_iter-command-iterator.ensures.into_iter_gives)

pub play_command-requires : goal.play_command-requires
play_command-requires g c =
    record {
      playing = c.loop-command.invariant.playing;
      left =
          next-of c.args.heap.now c.args.section.now c.args.season c.turn_of-turn.result c.loop-command.cache (execution_of c.in-Some.command.now) c.loop-command.command-iterator c.next.new.self c.args.mutator.now c.loop-command.mutator
          c.in-Some.ensures.steps c.loop-command.invariant c.commands_of.ensures.range c.requires.before;
    }

pub spend_none-requires : goal.spend_none-requires
spend_none-requires g c = c.if-not-play_command.ensures.stops.1

pub returns-then-not-play_command : goal.returns-then-not-play_command
returns-then-not-play_command g c =
    stops-within c.args.heap.now c.args.section.now c.args.season c.turn_of-turn.result c.loop-command.cache (execution_of c.in-Some.command.now) c.loop-command.command-iterator c.next.new.self c.args.mutator.now c.loop-command.mutator
    c.in-Some.ensures.steps c.loop-command.invariant c.play_command.new.mutator c.if-not-play_command.ensures.stops.0

pub loop-command-preserved : goal.loop-command-preserved
loop-command-preserved g c =
    so-far-next c.args.heap.now c.args.section.now c.args.season c.turn_of-turn.result c.loop-command.cache (execution_of c.in-Some.command.now) c.loop-command.command-iterator c.next.new.self c.args.mutator.now c.loop-command.mutator
    c.in-Some.ensures.steps c.loop-command.invariant c.play_command.new.cache c.play_command.new.mutator c.requires.before.season c.if-not-play_command.ensures.plays

pub returns : goal.returns
returns g c =
    so-far-all c.args.heap.now c.args.section.now c.args.season c.turn_of-turn.result c.loop-command.cache c.loop-command.command-iterator c.args.mutator.now c.loop-command.mutator c.in-None.ensures.steps.0 c.loop-command.invariant
