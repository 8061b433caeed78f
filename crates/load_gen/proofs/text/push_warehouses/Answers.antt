use Rattle.std.specs.String.{string_bytes}
use Rattle.load_gen.proofs.Steps.{next_warehouse}
use Rattle.load_gen.proofs.text.push_warehouses.Goals as goal

pub loop-warehouse-preserved : goal.loop-warehouse-preserved
loop-warehouse-preserved c =
    next_warehouse (string_bytes c.loop-warehouse.text) (string_bytes c.push_warehouse.new.text) _ 4 c.loop-warehouse._warehouse c.args.size c.loop-warehouse.draws.state c.push_warehouse.new.draws.state
    c.loop-warehouse-test.true c.in_ok-push_warehouse.ensures.state c.in_ok-push_warehouse.ensures.text c.loop-warehouse.invariant
