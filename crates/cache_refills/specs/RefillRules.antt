-- What each refill keeps to, whether it marks beside the mutators or collects only in stops.
use Rattle.std.specs.Prelude.{IsTrue}
use Rattle.mark_core.specs.declared.kinds.Shape.{Shape}
use Rattle.gc_table.specs.Log.{Only, events}
use Rattle.gc_table.specs.Running.{Ran}
use Rattle.gc_table.specs.declared.view.View.{View}
use Rattle.gc_cycle.specs.Cycles.{fills_with_cause}
use Rattle.gc_cycle.specs.Sparing.{SparesRefill, fills_part}
use Rattle.gc_cycle.specs.Standing.{KeepsSeat, KeepsSection}
use Rattle.gc_cycle.specs.Statistics.{RefillsNumbers}
use Rattle.gc_cycle.specs.declared.counts.Refill.{Refill}
use Rattle.cache_refills.specs.Stops.{cycles_with_cause, stops_again_with_cause, stops_collect, stops_in_visit, stops_with_cause}

-- a refill with this answer stopped the world, ended cycles and said that the heap is full only with cause, and kept the seat and its section
pub record KeepsRefillRules (sh : Shape) (r : Refill) (v w : View) : Type 0 where
  pub ran : Ran v w
  -- the causes of its stops, and of another one after a stop of this call
  pub stops : IsTrue (stops_with_cause sh (events v w))
  pub visit : IsTrue (stops_in_visit sh (events v w))
  pub again : IsTrue (stops_again_with_cause sh (events v w))
  -- a cycle ended in its stops, and one more only with cause
  pub collects : IsTrue (stops_collect (events v w))
  pub cycles : IsTrue (cycles_with_cause sh (events v w))
  -- the heap was said to be full only with cause
  pub fills : IsTrue (fills_with_cause sh (events v w))
  -- what stays as it was
  pub keeps : KeepsSeat v w × KeepsSection v w
  pub only : Only fills_part v w
  pub spares : SparesRefill r v w
  -- the numbers that pace a cycle
  pub numbers : RefillsNumbers r v w
