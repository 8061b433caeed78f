use Rattle.std.proofs.Common.{◌≤◌, ◌∙◌, ◌+◌, ℕ, List, ◌++◌, length, take, ap, sym, append_assoc, rules, arith, length-append}
use Rattle.std.specs.Prelude.{Option, Some, None}
use Rattle.std.specs.Io.KnownBytes.{Consumes}
use Rattle.gc_play.proofs.source.read_source.Goals as goal

-- what was taken before, and then
consumed : (a b c : Option (List ℕ)) (xs ys : List ℕ) → Consumes a b xs → Consumes b c ys → Consumes a c (xs ++ ys)
consumed None b c xs ys before more = tt
consumed (Some old) None c xs ys before more = absurd before
consumed (Some old) (Some mid) None xs ys before more = absurd more
consumed (Some old) (Some mid) (Some new) xs ys before more = before ∙ ap (λ (l : List ℕ). xs ++ l) more ∙ sym (append_assoc xs ys new)

pub returns-then-is_err-clause-most : goal.returns-then-is_err-clause-most
returns-then-is_err-clause-most g c =
    let xs : List ℕ = c.loop-buf.bytes.items in
    let ys : List ℕ = take c.in-Ok.n c.read.new.buf in
    let few : length xs + length ys ≤ c.args.enough = search rules in
    (xs ++ ys, consumed _ _ _ xs ys c.loop-buf.invariant.0 c.in-Ok.ensures.bytes.0, omega (arith, few, length-append xs ys))
