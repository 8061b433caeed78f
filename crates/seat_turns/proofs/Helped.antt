-- A tracer that helps in a stop.
use Rattle.std.proofs.Common.{ℕ, ◌≡◌, subst, sym}
use Rattle.gc_table.specs.Seats.{Across, view_of}
use Rattle.gc_table.specs.declared.seat.HeapSeat.{HeapSeat}
use Rattle.mark_core.specs.declared.kinds.Shape.{Shape}
use Rattle.gc_cycle.specs.HelpTurns.{TakesShortTurn, turn_steps as short_turn_steps}
use Rattle.gc_cycle.specs.Pieces.{stretches_in}
use Rattle.mutator_ops.specs.Few.{AtMost}
use Rattle.seat_turns.specs.TracerHelps.{HelpsInFew, TakesHelpTurn}

-- a turn, and how long it was, by the seat's own number of stretches
pub short-turn : (sh : Shape) (most draws done : ℕ) (x y : HeapSeat) → (view_of x).shape ≡ sh → draws ≡ stretches_in sh most → Across (TakesShortTurn most draws done) x y → Across (TakesHelpTurn most done) x y
short-turn sh most draws done x y e d t = subst (λ (s : Shape). Across (TakesShortTurn most (stretches_in s most) done) x y) (sym e) (subst (λ k. Across (TakesShortTurn most k done) x y) d t)

pub short-few : (sh : Shape) (most draws : ℕ) (x y : HeapSeat) → (view_of x).shape ≡ sh → draws ≡ stretches_in sh most → Across (AtMost (short_turn_steps most draws sh)) x y → Across (HelpsInFew most) x y
short-few sh most draws x y e d f = subst (λ (s : Shape). Across (AtMost (short_turn_steps most (stretches_in s most) s)) x y) (sym e) (subst (λ k. Across (AtMost (short_turn_steps most k sh)) x y) d f)
