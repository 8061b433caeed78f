use Rattle.std.proofs.Common.{true}
use Rattle.seat_steps.specs.Bounds.{CollectsAtMost}
use Rattle.managed_heap_c.proofs.Answered.{answered}
use Rattle.managed_heap_c.proofs.collecting.collect_by.Goals as goal

pub returns-in-Some : goal.returns-in-Some
returns-in-Some c = record { answers = answered (CollectsAtMost true c.args.most) c.status.result c.args.hand.now.stepper c.in-Some.stepper c.collect_at_most.new.self c.collect_at_most.result c.in-Some.is c.status.ensures.number c.collect_at_most.ensures.collects }
