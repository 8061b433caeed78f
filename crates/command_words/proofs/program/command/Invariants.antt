use Rattle.std.proofs.Common.{take}
use Rattle.command_words.specs.Building.{HasMore, texts_of}
use Rattle.command_words.proofs.program.command.Given as goal

abbrev pub invariant-loop-name : goal.invariant-loop-name
invariant-loop-name l = record { more : HasMore l.initial.command (texts_of (take l.name-index l.options)) l.command }
