use Rattle.std.proofs.Common.{[], ◌≡◌, None, true}
use Rattle.gc_table.specs.Log.{Only, events}
use Rattle.gc_table.specs.Running.{Ran}
use Rattle.gc_table.specs.Seats.{Sits, view_of}
use Rattle.packet_pools.specs.Counts.{count_of}
use Rattle.gc_cycle.specs.Answering.{TellsFull}
use Rattle.gc_cycle.specs.Mutating.{tries_stopping, works_in_stops}
use Rattle.gc_cycle.specs.Sorts.{raises_flag}
use Rattle.gc_cycle.specs.Standing.{Mutates}
use Rattle.gc_cycle.specs.Statistics.{ChangesNumbers}
use Rattle.gc_cycle.proofs.collecting.collect.Given as goal

abbrev pub invariant-loop : goal.invariant-loop
invariant-loop g l = record {
  next : (goal.iterator-loop g).can_next l.iterator';
  finite : (goal.iterator-loop g).is_finite l.iterator';
  sits : Sits l.heap l.seat;
  mutates : Mutates (view_of l.seat);
  cache : (view_of l.seat).state.cache ≡ None;
  ran : Ran (view_of l.fn.seat) (view_of l.seat);
  only : Only tries_stopping (view_of l.fn.seat) (view_of l.seat);
  calm : count_of raises_flag (events (view_of l.fn.seat) (view_of l.seat)) ≡ 0;
  numbers : ChangesNumbers [] (view_of l.fn.seat) (view_of l.seat);
  tells : TellsFull (view_of l.fn.seat) (view_of l.seat);
  pops : works_in_stops (events (view_of l.fn.seat) (view_of l.seat)) ≡ true;
}
