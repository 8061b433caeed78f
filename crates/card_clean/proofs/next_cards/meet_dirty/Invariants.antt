use Rattle.std.proofs.Common.{List, ◌≡◌, ◌≤◌, ◌*◌, false, length}
use Rattle.gc_table.specs.Log.{events}
use Rattle.gc_table.specs.Seats.{Sits, view_of}
use Rattle.gc_table.specs.declared.view.View.{View}
use Rattle.packet_pools.specs.Tracing.{Traces}
use Rattle.card_clean.specs.NextCards.{OnlyPassed, SeesClean}
use Rattle.card_clean.proofs.next_cards.meet_dirty.Given as goal

abbrev pub invariant-loop-look : goal.invariant-loop-look
invariant-loop-look l = record {
  sits : Sits l.heap l.seat;
  traces : Traces (view_of l.seat);
  only : OnlyPassed (view_of l.fn.seat) (view_of l.seat);
  state : record (view_of l.seat).state { below_card = false } ≡ record (view_of l.fn.seat).state { below_card = false };
  clean : (us : List View) × (length us ≡ l.look) × SeesClean us (view_of l.fn.seat) (view_of l.seat);
  few : length (events (view_of l.fn.seat) (view_of l.seat)) ≤ 3 * l.look;
}
