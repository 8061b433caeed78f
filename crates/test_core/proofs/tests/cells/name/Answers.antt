use Rattle.std.proofs.Common.{sym, ◌∙◌}
use Rattle.gc_table.specs.Seats.{view_of}
use Rattle.test_core.proofs.Owned.{may-be-named, ready-named, made-last, below-variables, asked-new, own-named}
use Rattle.test_core.proofs.tests.cells.name.Goals as goal

pub store_root-requires-clause-may : goal.store_root-requires-clause-may
store_root-requires-clause-may c = may-be-named c.args.heap.now c.args.seat.now c.args.v c.args.r c.requires.0 (sym c.may_name.ensures ∙ c.if-may_name.true)

pub store_root-requires-clause-asked : goal.store_root-requires-clause-asked
store_root-requires-clause-asked c =
    asked-new c.args.heap.now c.args.seat.now c.args.v c.args.r c.requires (sym c.is_marking.ensures ∙ c.if-is_marking.true) (made-last (view_of c.args.seat.now).state c.args.v c.args.r (sym c.may_name.ensures ∙ c.if-may_name.true))

pub returns-then-is_marking : goal.returns-then-is_marking
returns-then-is_marking c =
    let may = sym c.may_name.ensures ∙ c.if-may_name.true in
    let last = made-last (view_of c.args.seat.now).state c.args.v c.args.r may in
    let below = below-variables (view_of c.args.seat.now).state c.args.v c.args.r may in (
      ready-named c.args.heap.now c.args.seat.now c.store_root.new.seat c.args.v c.args.r _ last c.requires c.store_root.ensures.seat c.store_root.ensures.view,
      own-named c.args.heap.now c.args.seat.now c.store_root.new.seat c.args.v c.args.r _ below last c.requires c.store_root.ensures.view,
    )
