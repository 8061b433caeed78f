-- A mutator's seat that helps in another's stop, and stays outside the world.
use Rattle.std.proofs.Common.{ℕ, ◌≡◌, subst}
use Rattle.gc_table.specs.Seats.{Across, Sits, view_of}
use Rattle.gc_table.specs.declared.seat.Heap.{Heap}
use Rattle.gc_table.specs.declared.seat.HeapSeat.{HeapSeat}
use Rattle.gc_cycle.specs.HelpTurns.{TakesShortTurn, turn_steps}
use Rattle.gc_cycle.specs.Mutating.{GoesOut}
use Rattle.gc_cycle.specs.Pieces.{stretches_in}
use Rattle.gc_cycle.specs.Standing.{IsOut}
use Rattle.mutator_ops.specs.Few.{AtMost}
use Rattle.seat_turns.specs.Standing.{IsMutatorOutside}
use Rattle.seat_turns.proofs.Seats.{kept-heap, mutator-kept}
use Rattle.seat_steps.proofs.AtTurn.{out-leaves}
use Rattle.seat_steps.proofs.Sparing.{Kept, sits-on}

pub helped-kept : (x y : HeapSeat) → GoesOut (view_of x) (view_of y) → Kept x y
helped-kept x y g =
    record {
      mutator = λ m. mutator-kept (view_of x) (view_of y) m g.ran g.seat g.section;
      same = kept-heap (view_of x) (view_of y) g.section;
      leaves = out-leaves (view_of x) (view_of y) g;
    }

pub helped-outside : (g h : Heap) (x y : HeapSeat) → g ≡ h → IsMutatorOutside h x → Sits g y → IsOut (view_of y) → GoesOut (view_of x) (view_of y) → IsMutatorOutside h y
helped-outside g h x y e k sits out goes = record { sits = sits-on g h y e sits; out = out; mutator = (helped-kept x y goes).mutator k.mutator }

-- a turn, and how long it was, by the heap's own number of stretches
pub turn-in : (g h : Heap) (most draws done : ℕ) (x y : HeapSeat) → g ≡ h → draws ≡ stretches_in g.shape most → Across (TakesShortTurn most draws done) x y → Across (TakesShortTurn most (stretches_in h.shape most) done) x y
turn-in g h most draws done x y e d t = subst (λ (i : Heap). Across (TakesShortTurn most (stretches_in i.shape most) done) x y) e (subst (λ k. Across (TakesShortTurn most k done) x y) d t)

pub few-in : (g h : Heap) (most draws : ℕ) (x y : HeapSeat) → g ≡ h → draws ≡ stretches_in g.shape most → Across (AtMost (turn_steps most draws g.shape)) x y → Across (AtMost (turn_steps most (stretches_in h.shape most) h.shape)) x y
few-in g h most draws x y e d f = subst (λ (i : Heap). Across (AtMost (turn_steps most (stretches_in i.shape most) i.shape)) x y) e (subst (λ k. Across (AtMost (turn_steps most k g.shape)) x y) d f)
