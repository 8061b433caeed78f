use Rattle.std.proofs.Common.{refl, rules}
use Rattle.plain_heap.specs.declared.operation.Op.TheVariants as ops
use Rattle.gc_table.specs.Seats.{view_of}
use Rattle.seat_turns.proofs.Done.{takes-spares}
use Rattle.managed_heap.proofs.Doing.{done, ready}
use Rattle.managed_heap.proofs.mutator.Mutator.forget.Goals as goal

pub clear-requires-clause-seat : goal.clear-requires-clause-seat
clear-requires-clause-seat c = ready c.args.self.now c.deref.result.now c.deref.ensures c.in-Inside.is

pub invariant_of-self-clause-inside : goal.invariant_of-self-clause-inside
invariant_of-self-clause-inside c = λ _. (done (ops.Nil c.args.v) 0 c.args.self.now c.deref.result.now c.clear.new.seat refl c.deref.ensures c.in-Inside.is c.clear.ensures.seat c.clear.ensures.does).turn

pub returns-in-Inside-clause-done : goal.returns-in-Inside-clause-done
returns-in-Inside-clause-done c =
    record {
      range = search rules;
      was = c.in-Inside.is;
      inside = c.in-Inside.is;
      steps = (done (ops.Nil c.args.v) 0 c.args.self.now c.deref.result.now c.clear.new.seat refl c.deref.ensures c.in-Inside.is c.clear.ensures.seat c.clear.ensures.does).steps;
      world = refl;
      name_is = refl;
      stops = refl;
    }

pub returns-in-Inside-clause-tracers : goal.returns-in-Inside-clause-tracers
returns-in-Inside-clause-tracers c = takes-spares (ops.Nil c.args.v) (view_of c.args.self.now.seat) (view_of c.clear.new.seat) c.clear.ensures.steps
