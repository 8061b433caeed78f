use Rattle.std.proofs.Common.{◌-◌, ◌≤◌}
use Rattle.gc_table.specs.Seats.{Across}
use Rattle.mutator_ops.specs.Sharing.{TakesSteps}
use Rattle.seat_turns.specs.Clearing.{clearing_steps}
use Rattle.seat_turns.specs.Standing.{HoldsTurn}
use Rattle.seat_turns.proofs.sharing.clear_slots_shared.Given as goal

abbrev pub invariant-loop-k : goal.invariant-loop-k
invariant-loop-k l = record {
  turn : HoldsTurn l.heap l.seat;
  after : l.fn.from ≤ l.k;
  takes : Across (TakesSteps (clearing_steps l.fn.from (l.k - l.fn.from))) l.fn.seat l.seat;
}
