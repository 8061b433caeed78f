use Rattle.std.proofs.Common.{◌≡◌, ℕ, ◌<◌, ◌≤◌, length, get_or}
use Rattle.play_words.specs.DumpTelling.{field_word, dumped_word}
use Rattle.play_words.proofs.commands.dump.telling.tell_refs.Given as goal

-- the fields so far are told, and the others are nil
abbrev pub invariant-loop-i : goal.invariant-loop-i
invariant-loop-i l = record {
  count : length l.refs ≡ 16;
  each : (k : ℕ) → k < l.i → get_or l.refs k 0 ≡ dumped_word l.numbers (field_word l.words l.fields l.cell k);
  rest : (k : ℕ) → l.i ≤ k → get_or l.refs k 0 ≡ 0;
}
