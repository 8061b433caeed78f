use Rattle.std.proofs.Common.{◌≡◌, ℕ, ◌+◌, ◌≤◌, List, ◌++◌, length, take, drop, ap, sym, ◌∙◌, arith, take-append-drop}
use Rattle.std.proofs.lemmas.List.{take_all, take-append-le, length-take-le, drop-drop}
use Rattle.play_report.proofs.memory_source.take_next.Goals as goal

-- what is left, as the n bytes that were copied to the front of a buffer and the rest
copied_front : (bytes copied after : List ℕ) (at n : ℕ) → n ≤ length (drop at bytes) → copied ≡ take n (drop at bytes)
    → drop at bytes ≡ take n (copied ++ after) ++ drop (at + n) bytes
copied_front bytes copied after at n within is =
    let long : length copied ≡ n = ap length is ∙ length-take-le n (drop at bytes) within in
    let front : take n (copied ++ after) ≡ take n (drop at bytes) = take-append-le n copied after (omega arith) ∙ take_all n copied (omega arith) ∙ is in
    sym (take-append-drop n (drop at bytes))
    ∙ ap (λ (l : List ℕ). take n (drop at bytes) ++ l) (drop-drop n at bytes)
    ∙ ap (λ (l : List ℕ). l ++ drop (at + n) bytes) (sym front)

pub returns-clause-bytes : goal.returns-clause-bytes
returns-clause-bytes c =
    let long = ap length c.split_at.ensures.back in
    copied_front c.args.bytes.now c.copy_from_slice.new.self (drop c.min-n.result c.args.buf.now) c.args.at c.min-n.result (omega arith) (rw (c.copy_from_slice.ensures.after, c.split_at.ensures.back))
