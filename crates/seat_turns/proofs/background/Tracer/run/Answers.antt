use Rattle.std.proofs.Common.{◌∷◌, [], refl, subst, ◌∙◌}
use Rattle.gc_table.specs.Seats.{view_of}
use Rattle.seat_turns.specs.Tracing.{TracerTakesTurn}
use Rattle.seat_turns.specs.declared.background.Turn.{Turn}
use Rattle.seat_turns.proofs.Tallying.{tallies-join, tallies-none}
use Rattle.seat_turns.proofs.background.Tracer.run.Goals as goal

pub loop-init : goal.loop-init
loop-init g c = record { can = tt; ends = tt; tally = tallies-none c.args.self.now.traced (view_of c.args.self.now.seat); turns = ([], refl); world = (refl, refl) }

pub loop-preserved : goal.loop-preserved
loop-preserved g c =
    let i = c.loop.invariant in
    let u = view_of c.loop.self.seat in
    let e = c.trace_turn.ensures in
    record {
      can = tt;
      ends = tt;
      tally = tallies-join c.args.self.now.traced c.loop.self.traced c.trace_turn.new.self.traced (view_of c.args.self.now.seat) u (view_of c.trace_turn.new.self.seat) i.tally e.tally;
      turns = (u ∷ i.turns.0, (i.turns.1, subst (λ (t : Turn). TracerTakesTurn t u (view_of c.trace_turn.new.self.seat)) c.in-Going.is e.turn));
      world = (e.world.0 ∙ i.world.0, e.world.1 ∙ i.world.1);
    }

pub returns-in_default-clause-runs : goal.returns-in_default-clause-runs
returns-in_default-clause-runs g c =
    let i = c.loop.invariant in
    record { moments = i.turns.0; last = view_of c.loop.self.seat; before = i.turns.1; ends = c.trace_turn.ensures.turn; over = c.in_default.not-Going }

pub returns-in_default-clause-world : goal.returns-in_default-clause-world
returns-in_default-clause-world g c = let e = c.trace_turn.ensures in (e.world.0 ∙ c.loop.invariant.world.0, e.world.1 ∙ c.loop.invariant.world.1)

pub returns-in_default-clause-tally : goal.returns-in_default-clause-tally
returns-in_default-clause-tally g c =
    tallies-join c.args.self.now.traced c.loop.self.traced c.trace_turn.new.self.traced (view_of c.args.self.now.seat) (view_of c.loop.self.seat) (view_of c.trace_turn.new.self.seat) c.loop.invariant.tally c.trace_turn.ensures.tally
