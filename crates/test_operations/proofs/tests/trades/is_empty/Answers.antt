use Rattle.std.proofs.Common.{refl, ap, Bool, true, ◌&&◌}
use Rattle.mark_core.specs.declared.kinds.Step.TheVariants.{ReadLength}
use Rattle.gc_table.specs.SeatRecords.{holding}
use Rattle.gc_table.proofs.RecordSteps.{may-by, first-packet}
use Rattle.test_operations.proofs.tests.trades.is_empty.Goals as goal

pub read_length-requires-clause-may : goal.read_length-requires-clause-may
read_length-requires-clause-may c = let sh = c.args.heap.now.shape in may-by sh _ (holding sh c.args.k) (ReadLength 0) c.requires.0.1 c.requires.1 (λ w seats. (ap (λ (b : Bool). b && true) (first-packet sh c.args.heap.now.shaped), (refl, tt)))
