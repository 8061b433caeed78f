use Rattle.std.proofs.Common.{◌≡◌, ◌≤◌, ◌*◌, ◌+◌, length}
use Rattle.std.specs.Prelude.{IsFalse}
use Rattle.mark_core.specs.Cards.{card_cells}
use Rattle.mark_core.specs.Seats.{work_in_hand}
use Rattle.gc_table.specs.Seats.{Sits, view_of}
use Rattle.packet_pools.specs.OnlyTraced.{OnlyCleaned}
use Rattle.gc_table.specs.Log.{events}
use Rattle.packet_pools.specs.Tracing.{Traces}
use Rattle.card_clean.specs.Leaving.{rescanned_in}
use Rattle.card_clean.specs.DirtyCards.{CleansStretches, stretch_cards}
use Rattle.std.specs.Prelude.{min}
use Rattle.mark_core.specs.Layout.{card_count}
use Rattle.card_clean.specs.StepBounds.{clean_some_steps, rescan_steps}
use Rattle.card_clean.proofs.dirty_cards.clean_dirty_round.Given as goal

abbrev pub invariant-loop-i : goal.invariant-loop-i
invariant-loop-i l = record {
  sits : Sits l.heap l.seat;
  traces : Traces (view_of l.seat);
  only : OnlyCleaned (view_of l.fn.seat) (view_of l.seat);
  held : (view_of l.seat).state.held ≡ (view_of l.fn.seat).state.held;
  work : IsFalse (work_in_hand l.heap.shape.fields (view_of l.seat).state);
  most : l.rescanned ≤ card_cells * stretch_cards * l.i;
  left : rescanned_in (view_of l.fn.seat) (events (view_of l.fn.seat) (view_of l.seat)) ≡ l.rescanned;
  cleans : CleansStretches l.heap.shape l.begin l.i l.rescanned (events (view_of l.fn.seat) (view_of l.seat));
  few : length (events (view_of l.fn.seat) (view_of l.seat)) ≤ l.i * clean_some_steps (min stretch_cards (card_count l.heap.shape)) 0 l.heap.shape + rescan_steps l.rescanned l.heap.shape;
}
