use Rattle.std.proofs.Common.{◌≡◌, ◌-◌, ◌++◌}
use Rattle.std.specs.String.{string_bytes}
use Rattle.load_gen.specs.Generated.{generated_warehouses}
use Rattle.load_gen.proofs.text.push_warehouses.Given as goal

abbrev pub invariant-loop-warehouse : goal.invariant-loop-warehouse
invariant-loop-warehouse l = string_bytes l.text ++ generated_warehouses (4 - l._warehouse) l.size l.draws.state ≡ string_bytes l.initial.text ++ generated_warehouses 4 l.size l.initial.draws.state
