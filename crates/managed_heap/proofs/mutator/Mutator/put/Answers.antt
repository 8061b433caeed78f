use Rattle.std.proofs.Common.{refl, rules}
use Rattle.plain_heap.specs.declared.operation.Op.TheVariants as ops
use Rattle.gc_table.specs.Seats.{view_of}
use Rattle.seat_turns.proofs.Done.{takes-spares}
use Rattle.managed_heap.proofs.Doing.{done, ready}
use Rattle.managed_heap.proofs.mutator.Mutator.put.Goals as goal

pub put-requires-clause-seat : goal.put-requires-clause-seat
put-requires-clause-seat c = ready c.args.self.now c.deref.result.now c.deref.ensures c.in-Inside.is

pub invariant_of-self-clause-inside : goal.invariant_of-self-clause-inside
invariant_of-self-clause-inside c = λ _. (done (ops.Put c.args.v c.args.value) _ c.args.self.now c.deref.result.now c.put.new.seat refl c.deref.ensures c.in-Inside.is c.put.ensures.seat c.put.ensures.does).turn

pub returns-in-Inside-clause-done : goal.returns-in-Inside-clause-done
returns-in-Inside-clause-done c =
    record {
      range = search rules;
      was = c.in-Inside.is;
      inside = c.in-Inside.is;
      steps = (done (ops.Put c.args.v c.args.value) _ c.args.self.now c.deref.result.now c.put.new.seat refl c.deref.ensures c.in-Inside.is c.put.ensures.seat c.put.ensures.does).steps;
      world = refl;
      name_is = refl;
      stops = refl;
    }

pub returns-in-Inside-clause-tracers : goal.returns-in-Inside-clause-tracers
returns-in-Inside-clause-tracers c = takes-spares (ops.Put c.args.v c.args.value) (view_of c.args.self.now.seat) (view_of c.put.new.seat) c.put.ensures.steps
