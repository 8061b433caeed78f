use Rattle.heap_dump.specs.Text.{reference_fault_text}
use Rattle.heap_dump.proofs.text.write_reference_fault.Goals as goal

pub returns : goal.returns
unfolding reference_fault_text
returns g c =
    rw (c.push-3.ensures, c.push_number-2.ensures.number, c.from-2.ensures, c.push-2.ensures, c.push_number.ensures.number, c.from.ensures, c.push.ensures, c.new-line.ensures) at c.write.ensures
