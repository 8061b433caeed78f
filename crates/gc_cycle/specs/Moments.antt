-- Tests over the moments of a call, beside those of `tracer`.
use Rattle.std.specs.Prelude.{◌&&◌, List, Bool, nat_le, is_some}
use Rattle.std.specs.List.{count_by}
use Rattle.mark_core.specs.Held.{Slot, Slots}
use Rattle.mark_core.specs.declared.kinds.Shape.{Shape}
use Rattle.gc_table.specs.declared.view.Entry.{Entry}
use Rattle.packet_pools.specs.Seeking.{moves_packet, no_output, output_pools}
pub use Rattle.card_clean.specs.Leaving.{total_of}
pub use Rattle.tracer.specs.Moments.{Moment, after_moment, at_some_moment, begins, finds_no_packet, finds_no_work}
use Rattle.tracer.specs.Moments.{front}

-- at most one packet in hand
abbrev pub holds_one : Slots → Bool
holds_one hs = nat_le (count_by (λ (h : Slot). is_some h) hs) 1

-- here at most one packet is in hand, and the steps that follow look for one with room and find none
abbrev pub finds_no_room : Shape → Moment → List Entry → Bool
finds_no_room sh m es = holds_one m.state.held && no_output sh (front (moves_packet output_pools) es)
