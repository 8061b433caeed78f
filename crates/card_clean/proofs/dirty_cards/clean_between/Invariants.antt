use Rattle.std.proofs.Common.{◌≡◌, ◌≤◌, ◌+◌, ◌-◌, ◌*◌, length}
use Rattle.std.specs.Prelude.{IsFalse}
use Rattle.mark_core.specs.Cards.{card_cells}
use Rattle.mark_core.specs.Seats.{work_in_hand}
use Rattle.gc_table.specs.Seats.{Sits, view_of}
use Rattle.packet_pools.specs.OnlyTraced.{OnlyCleaned}
use Rattle.gc_table.specs.Log.{events}
use Rattle.packet_pools.specs.Tracing.{Traces}
use Rattle.packet_pools.specs.Scanning.{Fills}
use Rattle.packet_pools.specs.Counts.{count_of}
use Rattle.card_clean.specs.Cleaning.{SpillsWhite, clears}
use Rattle.card_clean.specs.Leaving.{rescanned_in}
use Rattle.card_clean.specs.DirtyCards.{CleanedFrom}
use Rattle.packet_pools.specs.StepBounds.{room_left}
use Rattle.packet_pools.specs.Tried.{SearchesThrough}
use Rattle.card_clean.specs.StepBounds.{pass_steps}
use Rattle.card_clean.proofs.dirty_cards.clean_between.Given as goal

abbrev pub invariant-loop-card : goal.invariant-loop-card
invariant-loop-card l = record {
  sits : Sits l.heap l.seat;
  traces : Traces (view_of l.seat);
  order : l.fn.first ≤ l.card;
  end : l.card ≤ l.fn.end;
  only : OnlyCleaned (view_of l.fn.seat) (view_of l.seat);
  packet : Fills l.fn.out l.out (view_of l.fn.seat) (view_of l.seat);
  work : IsFalse (work_in_hand l.heap.shape.fields (view_of l.seat).state);
  most : (l.rescanned ≤ card_cells * (l.card - l.fn.first)) × (l.cards ≤ l.card - l.fn.first);
  cleared : count_of clears (events (view_of l.fn.seat) (view_of l.seat)) ≡ l.cards;
  left : rescanned_in (view_of l.fn.seat) (events (view_of l.fn.seat) (view_of l.seat)) ≡ l.rescanned;
  spills : IsFalse (view_of l.fn.seat).state.active → SpillsWhite (events (view_of l.fn.seat) (view_of l.seat));
  cleans : CleanedFrom l.heap.shape l.fn.first (l.card - l.fn.first) l.rescanned (events (view_of l.fn.seat) (view_of l.seat));
  tried : SearchesThrough l.heap.shape l.fn.search l.search l.fn.out l.out (events (view_of l.fn.seat) (view_of l.seat));
  few : length (events (view_of l.fn.seat) (view_of l.seat)) + room_left l.heap.shape l.search l.out.length ≤ room_left l.heap.shape l.fn.search l.fn.out.length + pass_steps (l.card - l.fn.first) l.rescanned l.heap.shape;
}
