use Rattle.play_words.specs.DumpTelling.{AreRecords}
use Rattle.play_words.proofs.commands.dump.telling.tell_survivors.Given as goal

abbrev pub invariant-loop-survivor : goal.invariant-loop-survivor
invariant-loop-survivor l = AreRecords l.numbers l.report l.words l.fields l.survivor-index l.told.items
