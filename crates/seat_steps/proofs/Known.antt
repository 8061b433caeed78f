-- Where a mutator's seat stands is told by what it knows, and not by what it has seen.
use Rattle.std.proofs.Common.{◌≡◌, ◌<◌, ◌∙◌, ap, subst, sym}
use Rattle.std.specs.Prelude.{IsTrue}
use Rattle.mark_core.specs.Seats.{has_turn}
use Rattle.mark_core.specs.declared.kinds.Shape.{Shape}
use Rattle.gc_table.specs.Seats.{Sits, view_of}
use Rattle.gc_table.specs.declared.seat.Heap.{Heap}
use Rattle.gc_table.specs.declared.seat.HeapSeat.{HeapSeat}
use Rattle.gc_table.specs.declared.view.View.{View}
use Rattle.alloc_cache.specs.Caching.{is_whole}
use Rattle.gc_cycle.specs.Standing.{Mutates}
use Rattle.mutator_ops.specs.Flushing.{word_of_variables}
use Rattle.seat_turns.specs.Standing.{HoldsTurn, IsMutator, saw_going, settled}

pub turn-known : (a h : Heap) (s t : HeapSeat) → h ≡ a → Sits h t → view_of t ≡ view_of s → HoldsTurn a s → HoldsTurn a t
turn-known a h s t heap sits same k =
    record {
      holds =
          record {
            sits = subst (λ (x : Heap). Sits x t) heap sits;
            mutates = subst (λ (v : View). Mutates (settled v)) (sym same) k.holds.mutates;
            mutator = subst IsMutator (sym same) k.holds.mutator;
            turn = subst (λ (v : View). IsTrue (has_turn v.state.section v.state.season_seen)) (sym same) k.holds.turn;
            cache = subst (λ (v : View). IsTrue (is_whole v.state.cache)) (sym same) k.holds.cache;
            few = subst (λ (v : View). v.state.lags < word_of_variables) (sym same) k.holds.few;
            own = λ alone. ap (λ (v : View). v.state.lags) same ∙ k.holds.own alone;
          };
      phase = subst (λ (v : View). IsTrue (saw_going v.state.phase_seen)) (sym same) k.phase;
    }
