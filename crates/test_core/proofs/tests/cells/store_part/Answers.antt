use Rattle.std.proofs.Common.{ℕ, ◌≡◌, true, sym, ap, ◌∙◌}
use Rattle.std.specs.Prelude.{nat_le}
use Rattle.std.proofs.lemmas.Bool.{le-leb}
use Rattle.mark_core.specs.declared.kinds.Shape.{Shape}
use Rattle.test_core.proofs.Owned.{may-store, ready-part}
use Rattle.test_core.proofs.tests.cells.store_part.Goals as goal

pub store_new-requires-clause-may : goal.store_new-requires-clause-may
store_new-requires-clause-may c = may-store c.args.heap.now c.args.seat.now c.shape-shape.result c.args.c c.args.part c.args.word c.requires.0 c.shape-shape.ensures (sym c.may_store.ensures ∙ c.if-may_store.true)

pub returns-then-may_store : goal.returns-then-may_store
returns-then-may_store c =
    let early : nat_le c.args.part c.args.heap.now.shape.fields ≡ true = ap (λ (k : ℕ). nat_le k c.args.heap.now.shape.fields) (sym c.from.ensures) ∙ ap (λ (sh : Shape). nat_le c.from.result sh.fields) (sym c.shape-shape.ensures) ∙ le-leb _ _ c.if-from-shape.true in
    ready-part c.args.heap.now c.args.seat.now c.store_new.new.seat c.args.c c.args.part c.args.word _ early c.requires c.store_new.ensures.seat c.store_new.ensures.view
