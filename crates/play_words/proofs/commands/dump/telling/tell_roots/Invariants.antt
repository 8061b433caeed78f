use Rattle.std.proofs.Common.{◌≡◌, map, take}
use Rattle.play_words.specs.DumpTelling.{dumped_word}
use Rattle.play_words.proofs.commands.dump.telling.tell_roots.Given as goal

abbrev pub invariant-loop-word : goal.invariant-loop-word
invariant-loop-word l = l.told.items ≡ map (dumped_word l.numbers) (take l.word-index l.roots)
