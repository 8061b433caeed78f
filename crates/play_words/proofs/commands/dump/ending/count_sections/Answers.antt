use Rattle.std.proofs.Common.{◌≡◌, ap, ◌∙◌, List, length, arith}
use Rattle.std.proofs.lemmas.List.{length-map}
use Rattle.plain_heap.specs.Sections.{Sections, Parts, section_of, warehouse_numbers, warehouse_sections}
use Rattle.plain_heap.proofs.Turns.{length-counted, section-count}
use Rattle.play_words.proofs.commands.dump.ending.count_sections.Goals as goal

-- How many sections there are.
warehouse-count : (s : Sections) (sections : List Parts) → sections ≡ warehouse_sections s → length sections ≡ length s.warehouses
warehouse-count s sections same = ap length same ∙ (length-map (warehouse_numbers s) (section_of s) ∙ length-counted 1 (length s.warehouses))

pub overflow_cast-result : goal.overflow_cast-result
overflow_cast-result c = omega (arith, warehouse-count c.args.script.now.sections c.warehouses.result.now c.warehouses.ensures.same, c.warehouses.ensures.few)

pub overflow_add-result : goal.overflow_add-result
overflow_add-result c = omega (arith, warehouse-count c.args.script.now.sections c.warehouses.result.now c.warehouses.ensures.same, c.warehouses.ensures.few)

pub returns-clause-same : goal.returns-clause-same
returns-clause-same c = omega (arith, warehouse-count c.args.script.now.sections c.warehouses.result.now c.warehouses.ensures.same, section-count c.args.script.now.sections)

pub returns-clause-few : goal.returns-clause-few
returns-clause-few c = omega (arith, warehouse-count c.args.script.now.sections c.warehouses.result.now c.warehouses.ensures.same, c.warehouses.ensures.few)
