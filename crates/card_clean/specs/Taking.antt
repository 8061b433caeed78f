-- A packet is taken for a cleaning, and given back after it.
use Rattle.std.specs.Prelude.{◌≡◌, List, ◌++◌, IsTrue}
use Rattle.mark_core.specs.declared.kinds.Shape.{Shape}
use Rattle.gc_table.specs.declared.view.Entry.{Entry}
use Rattle.packet_pools.specs.Seeking.{NoInput, NoOutput, only_moves, output_pools}
use Rattle.packet_pools.specs.Tried.{OverflowsLast}

-- first no packet with room was found, and then none to read from
pub record NoPacket (sh : Shape) (es : List Entry) : Type 0 where
  pub first : List Entry
  pub second : List Entry
  pub events_are : es ≡ first ++ second
  pub no_output : NoOutput sh first
  pub no_input : NoInput sh second

-- packets were taken, then P holds of what was done, where a cell that was marked was left to its card only after all packets were tried, and then packets
-- were given back
pub record CleansWithPacket (sh : Shape) (P : List Entry → Type 0) (es : List Entry) : Type 0 where
  pub taking : List Entry
  pub cleaning : List Entry
  pub giving : List Entry
  pub events_are : es ≡ taking ++ (cleaning ++ giving)
  pub takes : IsTrue (only_moves output_pools taking)
  pub cleans : P cleaning
  pub tried : OverflowsLast sh cleaning
  pub gives : IsTrue (only_moves output_pools giving)
