use Rattle.std.proofs.Common.{◌≡◌, ◌≤◌, ◌-◌, length}
use Rattle.std.specs.Prelude.{IsTrue}
use Rattle.gc_table.specs.Seats.{Sits, view_of}
use Rattle.packet_pools.specs.OnlyTraced.{OnlyTraced}
use Rattle.gc_table.specs.Log.{events}
use Rattle.card_clean.specs.Drained.{AreNotedClean}
use Rattle.card_clean.specs.Looking.{KeepsAllNotes, looks_clean}
use Rattle.card_clean.proofs.dirty_cards.dirty_between.Given as goal

abbrev pub invariant-loop-card : goal.invariant-loop-card
invariant-loop-card l = record {
  sits : Sits l.heap l.seat;
  order : l.fn.from ≤ l.card;
  still : l.fn.end ≤ l.fn.from → l.card ≡ l.fn.from;
  only : OnlyTraced (view_of l.fn.seat) (view_of l.seat);
  state : (view_of l.seat).state ≡ (view_of l.fn.seat).state;
  notes : KeepsAllNotes (view_of l.fn.seat) (view_of l.seat);
  looked : events (view_of l.fn.seat) (view_of l.seat) ≡ looks_clean l.fn.from l.card;
  clean : IsTrue (view_of l.fn.seat).state.alone → AreNotedClean l.fn.from l.card (view_of l.seat);
  few : length (events (view_of l.fn.seat) (view_of l.seat)) ≤ l.card - l.fn.from;
}
