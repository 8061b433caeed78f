use Rattle.std.proofs.Common.{arith}
use Rattle.std.proofs.lemmas.Bool.{OnTrue_at, OnTrue_from}
use Rattle.managed_heap_c.proofs.making.can_make_with.Goals as goal

pub returns-clause-can : goal.returns-clause-can
returns-clause-can c =
    let low = c.if-v-from.false in
    let few = c.if-fields.false in
    OnTrue_from c.are_given.result _ (λ e. (omega (arith, low), omega (arith, few, c.fields.ensures.fields), OnTrue_at e c.are_given.ensures.given))
