use Rattle.std.proofs.Common.{sym, ◌∙◌}
use Rattle.test_core.proofs.Owned.{may-link, asked-set, ready-linked, own-linked}
use Rattle.test_core.proofs.tests.barrier.link.Goals as goal

pub store_field-requires-clause-may : goal.store_field-requires-clause-may
store_field-requires-clause-may c =
    may-link c.args.heap.now c.args.seat.now c.shape-shape.result 0 c.args.i c.args.w c.requires.0.0 c.shape-shape.ensures c.requires.1 (sym c.may_link.ensures ∙ c.if-may_link.true)

pub store_field-requires-clause-asked : goal.store_field-requires-clause-asked
store_field-requires-clause-asked c = asked-set c.args.seat.now 0 c.args.i c.args.w (sym c.is_marking.ensures ∙ c.if-is_marking.true)

pub returns-then-is_marking : goal.returns-then-is_marking
returns-then-is_marking c = (
  ready-linked c.args.heap.now c.args.seat.now c.store_field.new.seat 0 c.args.i c.args.w _ c.requires.0 c.store_field.ensures.seat c.store_field.ensures.view,
  own-linked c.args.seat.now c.store_field.new.seat 0 c.args.i c.args.w 0 _ c.requires.1 c.store_field.ensures.view,
)
