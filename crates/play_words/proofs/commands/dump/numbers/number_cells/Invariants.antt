use Rattle.std.proofs.Common.{◌≡◌, length}
use Rattle.play_words.proofs.FinalHeap.Loops.{NumbersTo}
use Rattle.play_words.proofs.commands.dump.numbers.number_cells.Given as goal

abbrev pub invariant-loop-k : goal.invariant-loop-k
invariant-loop-k l = record { count : length l.numbers.items ≡ l.cells; each : NumbersTo l.report l.k l.numbers.items }
