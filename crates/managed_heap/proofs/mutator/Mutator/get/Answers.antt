use Rattle.std.proofs.Common.{refl, rules}
use Rattle.plain_heap.specs.declared.operation.Op.TheVariants as ops
use Rattle.gc_table.specs.Seats.{view_of}
use Rattle.seat_turns.proofs.Done.{takes-spares}
use Rattle.managed_heap.proofs.Doing.{done, ready}
use Rattle.managed_heap.proofs.mutator.Mutator.get.Goals as goal

pub follow-requires-clause-seat : goal.follow-requires-clause-seat
follow-requires-clause-seat c = ready c.args.self.now c.deref-in-Inside.result.now c.deref-in-Inside.ensures c.in-Inside.is

pub invariant_of-self-in-Inside-clause-inside : goal.invariant_of-self-in-Inside-clause-inside
invariant_of-self-in-Inside-clause-inside c = λ _. (done (ops.Get c.args.w c.args.v c.args.i) 0 c.args.self.now c.deref-in-Inside.result.now c.follow.new.seat refl c.deref-in-Inside.ensures c.in-Inside.is c.follow.ensures.seat c.follow.ensures.does).turn

pub returns-in-Inside-clause-done : goal.returns-in-Inside-clause-done
returns-in-Inside-clause-done c =
    record {
      range = search rules;
      was = c.in-Inside.is;
      inside = c.in-Inside.is;
      steps = (done (ops.Get c.args.w c.args.v c.args.i) 0 c.args.self.now c.deref-in-Inside.result.now c.follow.new.seat refl c.deref-in-Inside.ensures c.in-Inside.is c.follow.ensures.seat c.follow.ensures.does).steps;
      world = refl;
      name_is = refl;
      stops = refl;
    }

pub returns-in-Inside-clause-tracers : goal.returns-in-Inside-clause-tracers
returns-in-Inside-clause-tracers c = takes-spares (ops.Get c.args.w c.args.v c.args.i) (view_of c.args.self.now.seat) (view_of c.follow.new.seat) c.follow.ensures.events
