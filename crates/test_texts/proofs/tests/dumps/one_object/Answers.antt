use Rattle.std.proofs.Common.{refl, arith}
use Rattle.heap_dump.specs.First.{first_some}
use Rattle.heap_dump.specs.Reading.{heap_fault, record_fault, root_fault, ref_fault, refs_fault}
use Rattle.heap_dump.proofs.Found.{legal_tested, sized_one}
use Rattle.test_texts.proofs.tests.dumps.one_object.Goals as goal

pub make-requires-clause-legal : goal.make-requires-clause-legal
unfolding first_some heap_fault record_fault root_fault ref_fault refs_fault
make-requires-clause-legal c =
    legal_tested _ (record { some_fields = (omega arith, omega arith); some_sections = (omega arith, omega arith); few_records = omega arith }) refl (sized_one _ _ refl (omega arith) refl) refl
