use Rattle.gc_table.specs.Seats.{view_of}
use Rattle.std.proofs.Common.{◌+◌, arith, Some}
use Rattle.seat_turns.proofs.Done.{plays-creates, steps-creates, creating-spares, only-steps}
use Rattle.seat_turns.proofs.Seats.{plays-turn, whole-cache}
use Rattle.mutator_ops.proofs.Few.{at-most-steps, creating-long}
use Rattle.seat_turns.specs.Sharing.{spares_tracers}
use Rattle.seat_turns.proofs.operations.make_in.Goals as goal

pub returns-clause-turn : goal.returns-clause-turn
returns-clause-turn c =
    let y = c.create.new.seat in
    let e = c.create.ensures in
    plays-turn c.args.heap.now y (plays-creates c.args.heap.now c.args.v c.args.value c.in-Some._cell c.args.seat.now y c.requires.plays e.seat.0 e.seat.1 c.in-Some.ensures.creates.1)
    (whole-cache (Some c.create.new.cache) (view_of y) e.cache)

pub returns-clause-steps : goal.returns-clause-steps
returns-clause-steps c = steps-creates c.args.v c.args.value c.in-Some._cell c.args.heap.now c.args.seat.now c.create.new.seat c.requires.plays c.requires.owned c.in-Some.ensures.creates.1

pub returns-clause-ran : goal.returns-clause-ran
returns-clause-ran c = c.in-Some.ensures.creates.1.ran

pub returns-clause-few : goal.returns-clause-few
returns-clause-few c =
    let long = creating-long c.args.heap.now.shape.fields (view_of c.args.seat.now).state c.args.v c.args.value c.in-Some._cell in
    at-most-steps (c.args.heap.now.shape.fields + 3) (view_of c.args.seat.now) (view_of c.create.new.seat) _ c.in-Some.ensures.steps (omega (arith, long))

pub returns-clause-tracers : goal.returns-clause-tracers
returns-clause-tracers c =
    let v = view_of c.args.seat.now in
    only-steps spares_tracers v (view_of c.create.new.seat) _ c.in-Some.ensures.steps (creating-spares c.args.heap.now.shape.fields v.state c.args.v c.args.value c.in-Some._cell)

pub returns-clause-takes : goal.returns-clause-takes
returns-clause-takes c = (c.in-Some._cell, c.in-Some.ensures.steps)
