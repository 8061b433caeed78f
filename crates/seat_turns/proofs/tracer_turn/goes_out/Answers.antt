use Rattle.std.proofs.Common.{ap, ◌∙◌}
use Rattle.mark_core.specs.Steps.WorldSteps.{has_nothing}
use Rattle.gc_table.specs.Seats.{view_of}
use Rattle.gc_cycle.proofs.Stops.OutAndIn.{free-to-leave}
use Rattle.seat_turns.proofs.tracer_turn.goes_out.Goals as goal

pub leave-requires-clause-free : goal.leave-requires-clause-free
leave-requires-clause-free c = free-to-leave (view_of c.args.seat.now) (ap (λ sh. has_nothing sh (view_of c.args.seat.now).state) c.requires.sits.1 ∙ c.requires.idle)
