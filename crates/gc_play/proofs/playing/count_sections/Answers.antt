use Rattle.std.proofs.Common.{arith}
use Rattle.gc_play.proofs.Parts.{warehouse-count}
use Rattle.gc_play.proofs.playing.count_sections.Goals as goal

pub overflow_cast-result : goal.overflow_cast-result
overflow_cast-result c = omega (arith, c.requires.warehouses, warehouse-count c.args.script.now.sections c.warehouses.result.now c.warehouses.ensures.same)

pub overflow_add-result : goal.overflow_add-result
overflow_add-result c = omega (arith, c.requires.warehouses, warehouse-count c.args.script.now.sections c.warehouses.result.now c.warehouses.ensures.same)

pub returns-clause-count : goal.returns-clause-count
returns-clause-count c = omega (arith, warehouse-count c.args.script.now.sections c.warehouses.result.now c.warehouses.ensures.same)

pub returns-clause-few : goal.returns-clause-few
returns-clause-few c = omega (arith, c.requires.warehouses, warehouse-count c.args.script.now.sections c.warehouses.result.now c.warehouses.ensures.same)
