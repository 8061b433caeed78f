use Rattle.std.proofs.Common.{refl, sym, ap, ◌∙◌}
use Rattle.plain_heap.specs.declared.operation.Op.TheVariants as ops
use Rattle.gc_table.specs.Seats.{view_of}
use Rattle.mutator_ops.specs.Doing.{seen}
use Rattle.seat_turns.specs.Standing.{plain_of}
use Rattle.seat_turns.proofs.Done.{alone-there, same-does, turn-does, turn-ready, value-read, value_said, only-steps, saying-spares}
use Rattle.seat_turns.proofs.Uncatalogued.{sees-none}
use Rattle.mutator_ops.proofs.Few.{at-most-steps, saying-long}
use Rattle.seat_turns.specs.Sharing.{spares_tracers}
use Rattle.seat_turns.proofs.operations.read_value.Goals as goal

pub say-requires-clause-seat : goal.say-requires-clause-seat
say-requires-clause-seat c = turn-ready c.args.heap.now c.args.seat.now c.requires.turn c.requires.owned

pub returns-in-Value-clause-turn : goal.returns-in-Value-clause-turn
returns-in-Value-clause-turn c = let e = c.say.ensures in turn-does c.args.heap.now (ops.Say c.args.v) 0 c.args.seat.now c.say.new.seat c.requires.turn e.seat.0 e.seat.1 e.does

pub returns-in-Value-clause-same : goal.returns-in-Value-clause-same
returns-in-Value-clause-same c = same-does (ops.Say c.args.v) (view_of c.args.seat.now) (view_of c.say.new.seat) (λ x. refl) c.say.ensures.does

pub returns-in-Value-clause-value : goal.returns-in-Value-clause-value
returns-in-Value-clause-value c =
    let v = view_of c.args.seat.now in
    sym (ap value_said c.in-Value.is) ∙ value-read (plain_of c.args.seat.now) c.args.v (seen v) c.say.result (sees-none v (c.requires.turn.works.mutator.uncatalogued (alone-there c.args.heap.now c.args.seat.now c.requires.turn.works.sits c.requires.owned))) c.say.ensures.line

pub returns-in-Nil : goal.returns-in-Nil
returns-in-Nil c =
    let v = view_of c.args.seat.now in
    let e = c.say.ensures in
    record {
      turn = turn-does c.args.heap.now (ops.Say c.args.v) 0 c.args.seat.now c.say.new.seat c.requires.turn e.seat.0 e.seat.1 e.does;
      same = same-does (ops.Say c.args.v) v (view_of c.say.new.seat) (λ x. refl) e.does;
      value = sym (ap value_said c.in-Nil.is) ∙ value-read (plain_of c.args.seat.now) c.args.v (seen v) c.say.result (sees-none v (c.requires.turn.works.mutator.uncatalogued (alone-there c.args.heap.now c.args.seat.now c.requires.turn.works.sits c.requires.owned))) e.line;
      few = at-most-steps 1 (view_of c.args.seat.now) (view_of c.say.new.seat) _ c.say.ensures.steps (saying-long (view_of c.args.seat.now).state c.args.v);
      ran = e.does.ran;
      tracers = only-steps spares_tracers v (view_of c.say.new.seat) _ e.steps (saying-spares v.state c.args.v);
      takes = e.steps;
    }

pub returns-in-Walk : goal.returns-in-Walk
returns-in-Walk c =
    let v = view_of c.args.seat.now in
    let e = c.say.ensures in
    record {
      turn = turn-does c.args.heap.now (ops.Say c.args.v) 0 c.args.seat.now c.say.new.seat c.requires.turn e.seat.0 e.seat.1 e.does;
      same = same-does (ops.Say c.args.v) v (view_of c.say.new.seat) (λ x. refl) e.does;
      value = sym (ap value_said c.in-Walk.is) ∙ value-read (plain_of c.args.seat.now) c.args.v (seen v) c.say.result (sees-none v (c.requires.turn.works.mutator.uncatalogued (alone-there c.args.heap.now c.args.seat.now c.requires.turn.works.sits c.requires.owned))) e.line;
      few = at-most-steps 1 (view_of c.args.seat.now) (view_of c.say.new.seat) _ c.say.ensures.steps (saying-long (view_of c.args.seat.now).state c.args.v);
      ran = e.does.ran;
      tracers = only-steps spares_tracers v (view_of c.say.new.seat) _ e.steps (saying-spares v.state c.args.v);
      takes = e.steps;
    }

pub returns-in-Value-clause-few : goal.returns-in-Value-clause-few
returns-in-Value-clause-few c = at-most-steps 1 (view_of c.args.seat.now) (view_of c.say.new.seat) _ c.say.ensures.steps (saying-long (view_of c.args.seat.now).state c.args.v)

pub returns-in-Value-clause-ran : goal.returns-in-Value-clause-ran
returns-in-Value-clause-ran c = c.say.ensures.does.ran

pub returns-in-Value-clause-tracers : goal.returns-in-Value-clause-tracers
returns-in-Value-clause-tracers c = let v = view_of c.args.seat.now in only-steps spares_tracers v (view_of c.say.new.seat) _ c.say.ensures.steps (saying-spares v.state c.args.v)

pub returns-in-Value-clause-takes : goal.returns-in-Value-clause-takes
returns-in-Value-clause-takes c = c.say.ensures.steps
