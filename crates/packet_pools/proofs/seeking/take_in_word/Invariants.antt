use Rattle.std.proofs.Common.{◌*◌}
use Rattle.mark_core.specs.Numbers.{word_bits}
use Rattle.gc_table.specs.Log.{events}
use Rattle.packet_pools.specs.StepBounds.{TriesPackets}
use Rattle.gc_table.specs.Seats.{Sits, view_of}
use Rattle.std.specs.Prelude.{IsTrue, IsFalse, [], ◌∷◌}
use Rattle.packet_pools.specs.Outside.{KeepsOutside}
use Rattle.packet_pools.proofs.WordSearch.{WordSeeks, LooksBelow}
use Rattle.packet_pools.proofs.seeking.take_in_word.Given as goal

abbrev pub invariant-loop-p : goal.invariant-loop-p
invariant-loop-p l = record {
  sits : Sits l.heap l.seat;
  seeks : WordSeeks l.heap.shape l.fn.q l.fn.not_full l.fn.g l.word l.p (view_of l.fn.seat) (view_of l.seat);
  outside : KeepsOutside (l.fn.q ∷ []) (view_of l.fn.seat) (view_of l.seat);
  vain : IsFalse l.fn.not_full → IsTrue (view_of l.fn.seat).state.alone → LooksBelow l.heap.shape l.fn.q l.fn.g l.word l.p (view_of l.fn.seat) (view_of l.seat);
  few : TriesPackets l.heap.shape l.fn.not_full 1 (word_bits * l.fn.g) l.p 0 (events (view_of l.fn.seat) (view_of l.seat));
}
