use Rattle.std.proofs.Common.{arith, subst, sym, Some}
use Rattle.plain_heap.specs.declared.operation.Op.{Op}
use Rattle.card_clean.specs.Barrier.{was_dirty}
use Rattle.gc_table.specs.Seats.{did, view_of}
use Rattle.mutator_ops.specs.Few.{AtMost, most_steps}
use Rattle.mutator_ops.proofs.Few.{at-most-events, at-most-steps, barrier-long, following-long, saying-long, storing-long}
use Rattle.mutator_ops.proofs.commands.command.Goals as goal

pub returns-in-Let-clause-few : goal.returns-in-Let-clause-few
returns-in-Let-clause-few c = subst (λ (op : Op). AtMost (most_steps c.args.heap.now.shape.fields op) (view_of c.args.seat.now) (view_of c.assign.new.seat)) (sym c.in-Let.is) (at-most-steps 1 (view_of c.args.seat.now) (view_of c.assign.new.seat) _ c.assign.ensures.steps (omega arith))

pub returns-in-Nil-clause-few : goal.returns-in-Nil-clause-few
returns-in-Nil-clause-few c = subst (λ (op : Op). AtMost (most_steps c.args.heap.now.shape.fields op) (view_of c.args.seat.now) (view_of c.clear.new.seat)) (sym c.in-Nil.is) (at-most-steps 1 (view_of c.args.seat.now) (view_of c.clear.new.seat) _ c.clear.ensures.steps (omega arith))

pub returns-in-Get-clause-few : goal.returns-in-Get-clause-few
returns-in-Get-clause-few c = subst (λ (op : Op). AtMost (most_steps c.args.heap.now.shape.fields op) (view_of c.args.seat.now) (view_of c.follow.new.seat)) (sym c.in-Get.is) (at-most-events 2 (view_of c.args.seat.now) (view_of c.follow.new.seat) _ c.follow.ensures.events.1 (following-long (view_of c.args.seat.now).state c.in-Get.v c.in-Get.w c.in-Get.i c.follow.ensures.events.0))

pub returns-in-Cat-clause-few : goal.returns-in-Cat-clause-few
returns-in-Cat-clause-few c = subst (λ (op : Op). AtMost (most_steps c.args.heap.now.shape.fields op) (view_of c.args.seat.now) (view_of c.lend.new.seat)) (sym c.in-Cat.is) (at-most-events 2 (view_of c.args.seat.now) (view_of c.lend.new.seat) _ c.lend.ensures.events.1 (omega arith))

pub returns-in-Set-clause-few : goal.returns-in-Set-clause-few
returns-in-Set-clause-few c = subst (λ (op : Op). AtMost (most_steps c.args.heap.now.shape.fields op) (view_of c.args.seat.now) (view_of c.set.new.seat)) (sym c.in-Set.is) (at-most-steps 4 (view_of c.args.seat.now) (view_of c.set.new.seat) _ c.set.ensures.steps (storing-long _ _ 3 _ (barrier-long (view_of c.args.seat.now).state c.in-Set.v c.in-Set.i (Some c.in-Set.w) (was_dirty (did c.args.seat.now c.set.new.seat)))))

pub returns-in-Put-clause-few : goal.returns-in-Put-clause-few
returns-in-Put-clause-few c = subst (λ (op : Op). AtMost (most_steps c.args.heap.now.shape.fields op) (view_of c.args.seat.now) (view_of c.put.new.seat)) (sym c.in-Put.is) (at-most-steps 2 (view_of c.args.seat.now) (view_of c.put.new.seat) _ c.put.ensures.steps (storing-long _ _ 1 _ (omega arith)))

pub returns-in-Say-clause-few : goal.returns-in-Say-clause-few
returns-in-Say-clause-few c = subst (λ (op : Op). AtMost (most_steps c.args.heap.now.shape.fields op) (view_of c.args.seat.now) (view_of c.say.new.seat)) (sym c.in-Say.is) (at-most-steps 1 (view_of c.args.seat.now) (view_of c.say.new.seat) _ c.say.ensures.steps (saying-long (view_of c.args.seat.now).state c.in-Say.v))

pub returns-in-Sum-clause-few : goal.returns-in-Sum-clause-few
returns-in-Sum-clause-few c = subst (λ (op : Op). AtMost (most_steps c.args.heap.now.shape.fields op) (view_of c.args.seat.now) (view_of c.sum.new.seat)) (sym c.in-Sum.is) (c.sum.ensures.few)
