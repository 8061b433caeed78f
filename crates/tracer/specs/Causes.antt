-- Why a trace ended before its quota, and why no packet could be had.
use Rattle.std.specs.Prelude.{IsTrue}
use Rattle.mark_core.specs.Numbers.{high_pool_number, low_pool_number}
use Rattle.gc_table.specs.declared.view.View.{View}
use Rattle.gc_table.specs.Log.{events}
use Rattle.packet_pools.specs.Outside.{AreNotedOutside, KeepsOutside}
use Rattle.packet_pools.specs.Seeking.{input_pools, only_moves, output_pools}
use Rattle.tracer.specs.Moments.{at_some_moment, begins, finds_no_packet, finds_no_work}

-- no packet with a cell was found while nothing was left in hand
abbrev pub FoundNoWork : View → View → Type 0
FoundNoWork v w = IsTrue (at_some_moment v.shape (finds_no_work v.shape) (begins v) (events v w))

-- neither a packet with room nor one with a cell was found, while the seat held none; nothing was marked
pub record FoundNoPacket (v w : View) : Type 0 where
  pub none : IsTrue (finds_no_packet v.shape (begins v) (events v w))
  pub moves : IsTrue (only_moves output_pools (events v w))

-- a seat that is alone has noted that no packet is in a pool to read from, and what it had noted of the other pools stays
pub record NotesNoInput (v w : View) : Type 0 where
  pub high : IsTrue v.state.alone → AreNotedOutside high_pool_number w
  pub low : IsTrue v.state.alone → AreNotedOutside low_pool_number w
  pub others : KeepsOutside input_pools v w
