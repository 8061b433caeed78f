use Rattle.std.proofs.Common.{sym, ◌∙◌}
use Rattle.test_core.proofs.Owned.{may-store}
use Rattle.test_core.proofs.tests.cells.store_identity.Goals as goal

pub store_new-requires-clause-may : goal.store_new-requires-clause-may
store_new-requires-clause-may c = may-store c.args.heap.now c.args.seat.now c.shape-shape.result c.args.c c.args.part c.args.word c.requires.0 c.shape-shape.ensures (sym c.may_store.ensures ∙ c.if-may_store.true)
