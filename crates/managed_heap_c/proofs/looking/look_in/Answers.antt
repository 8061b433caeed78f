use Rattle.managed_heap_c.proofs.Looked.{unlooked, unread}
use Rattle.managed_heap_c.proofs.looking.look_in.Goals as goal

pub returns-in-Err : goal.returns-in-Err
returns-in-Err c = record { looks = unlooked c.in-Err.why c.args.v c.args.out.now c.args.stepper.now c.in-Err.ensures.refused }

pub returns-in_default : goal.returns-in_default
returns-in_default c = record { looks = unread c.value.result c.args.v c.value.new.out c.args.out.now c.args.stepper.now c.value.new.self c.in_default.not-Done c.value.ensures.reads }
