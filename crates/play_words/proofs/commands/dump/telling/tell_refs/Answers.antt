use Rattle.std.proofs.Common.{◌≡◌, ◌*◌, ◌<◌, ◌≤◌, ◌+◌, ◌∙◌, arith, ap, sym, subst, ℕ, length, set, get_or}
use Rattle.std.proofs.lemmas.List.{get_or_default, length-set}
use Rattle.play_words.proofs.FinalHeap.Loops.{refs-more, refs-rest}
use Rattle.play_words.specs.DumpTelling.{field_word, dumped_word}
use Rattle.play_words.proofs.commands.dump.telling.tell_refs.Goals as goal

pub loop-i-preserved : goal.loop-i-preserved
loop-i-preserved c =
    let i : ℕ = c.loop-i.i in
    let words : ℕ → ℕ = field_word c.args.words.now c.args.fields c.args.cell in
    let at : ℕ = c.args.cell * c.args.fields + i in
    let inside : at < length c.args.words.now.fields.items = omega (arith, c.loop-i-test.true, c.requires.room) in
    let word : c.index.result.now ≡ words i = c.index.ensures ∙ get_or_default c.args.words.now.fields.items at c.index.result.now 0 inside in
    let told : dumped_word c.args.numbers.now (words i) ≡ c.number_of.result = sym (c.number_of.ensures ∙ ap (dumped_word c.args.numbers.now) word) in
    let room : i < length c.loop-i.refs = omega (arith, c.loop-i-test.true, c.requires.few, c.loop-i.invariant.count) in
    subst
    (λ (n : ℕ). record { count : length (set c.loop-i.refs i n) ≡ 16; each : (k : ℕ) → k < i + 1 → get_or (set c.loop-i.refs i n) k 0 ≡ dumped_word c.args.numbers.now (words k); rest : (k : ℕ) → i + 1 ≤ k → get_or (set c.loop-i.refs i n) k 0 ≡ 0 })
    told
    (record { count = length-set c.loop-i.refs i (dumped_word c.args.numbers.now (words i)) ∙ c.loop-i.invariant.count; each = refs-more c.args.numbers.now c.loop-i.refs words i room c.loop-i.invariant.each; rest = refs-rest c.loop-i.refs i (dumped_word c.args.numbers.now (words i)) c.loop-i.invariant.rest })
