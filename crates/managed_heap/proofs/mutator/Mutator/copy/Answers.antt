use Rattle.std.proofs.Common.{refl, rules}
use Rattle.plain_heap.specs.declared.operation.Op.TheVariants as ops
use Rattle.gc_table.specs.Seats.{view_of}
use Rattle.seat_turns.proofs.Done.{takes-spares}
use Rattle.managed_heap.proofs.Doing.{done, ready}
use Rattle.managed_heap.proofs.mutator.Mutator.copy.Goals as goal

pub assign-requires-clause-seat : goal.assign-requires-clause-seat
assign-requires-clause-seat c = ready c.args.self.now c.deref.result.now c.deref.ensures c.in-Inside.is

pub invariant_of-self-clause-inside : goal.invariant_of-self-clause-inside
invariant_of-self-clause-inside c = λ _. (done (ops.Let c.args.w c.args.v) 0 c.args.self.now c.deref.result.now c.assign.new.seat refl c.deref.ensures c.in-Inside.is c.assign.ensures.seat c.assign.ensures.does).turn

pub returns-in-Inside-clause-done : goal.returns-in-Inside-clause-done
returns-in-Inside-clause-done c =
    record {
      range = search rules;
      was = c.in-Inside.is;
      inside = c.in-Inside.is;
      steps = (done (ops.Let c.args.w c.args.v) 0 c.args.self.now c.deref.result.now c.assign.new.seat refl c.deref.ensures c.in-Inside.is c.assign.ensures.seat c.assign.ensures.does).steps;
      world = refl;
      name_is = refl;
      stops = refl;
    }

pub returns-in-Inside-clause-tracers : goal.returns-in-Inside-clause-tracers
returns-in-Inside-clause-tracers c = takes-spares (ops.Let c.args.w c.args.v) (view_of c.args.self.now.seat) (view_of c.assign.new.seat) c.assign.ensures.steps
