-- What the events of a part that a section plays say of its polls and its stops.
use Rattle.std.specs.Prelude.{ℕ, ◌≤◌, ◌+◌, ◌||◌, List, [], Bool}
use Rattle.mark_core.specs.declared.kinds.Shape.{Shape}
use Rattle.gc_table.specs.declared.view.Entry.{Entry}
use Rattle.packet_pools.specs.Counts.{count_of}
use Rattle.gc_cycle.specs.Events.{last_is}
use Rattle.gc_cycle.specs.Sorts.{polls, mutator_stores}
use Rattle.cache_refills.specs.Stops.{stops_without_cause}

-- a section did this many commands, of which this many were `collect`
pub record PlaysCommands (sh : Shape) (commands collects : ℕ) (es : List Entry) : Type 0 where
  -- it polled before each command
  pub polled : commands ≤ count_of polls es
  -- besides for these it stopped the world only for cause
  pub stopped : stops_without_cause sh [] es ≤ collects

-- a section did this many commands, and the heap was found full: it may have been about to collect
pub record StopsAtFull (sh : Shape) (commands collects asked : ℕ) (es : List Entry) : Type 0 where
  pub polled : commands ≤ count_of polls es
  pub stopped : stops_without_cause sh [] es ≤ collects + asked

-- of the events of a log that store or poll, the last is a poll
abbrev pub polled_last : List Entry → Bool
polled_last log = last_is (λ step found. mutator_stores step found || polls step found) polls log
