use Rattle.std.proofs.Common.{ℕ, ◌≡◌, ◌<◌, ◌*◌}
use Rattle.std.specs.Prelude.{IsTrue, IsFalse, [], ◌∷◌}
use Rattle.packet_pools.specs.Outside.{KeepsOutside, IsNotedOutside}
use Rattle.mark_core.specs.Numbers.{word_bits}
use Rattle.gc_table.specs.Seats.{Sits, view_of}
use Rattle.packet_pools.specs.OnlyTraced.{OnlyTraced}
use Rattle.gc_table.specs.Log.{events}
use Rattle.packet_pools.specs.Gains.{MissesPackets}
use Rattle.packet_pools.specs.StepBounds.{TriesPackets}
use Rattle.packet_pools.proofs.seeking.take_any.Given as goal

abbrev pub invariant-loop-g : goal.invariant-loop-g
invariant-loop-g l = record {
  sits : Sits l.heap l.seat;
  only : OnlyTraced (view_of l.fn.seat) (view_of l.seat);
  state : (view_of l.seat).state ≡ (view_of l.fn.seat).state;
  misses : MissesPackets l.heap.shape l.fn.q l.fn.not_full 0 (word_bits * l.g) (events (view_of l.fn.seat) (view_of l.seat));
  outside : KeepsOutside (l.fn.q ∷ []) (view_of l.fn.seat) (view_of l.seat);
  noted : IsFalse l.fn.not_full → IsTrue (view_of l.fn.seat).state.alone → (p : ℕ) → p < l.heap.shape.packets → p < word_bits * l.g → IsNotedOutside l.fn.q p (view_of l.seat);
  few : TriesPackets l.heap.shape l.fn.not_full l.g 0 (word_bits * l.g) 0 (events (view_of l.fn.seat) (view_of l.seat));
}
