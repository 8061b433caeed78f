-- A step whose condition speaks only of the seat's record may be taken wherever the record is this one, and the record after it is known. This crate rests
-- nothing on it. It stands here for the crates that take single steps of the table: those of tests and benchmarks, and the opening of a world.
use Rattle.std.proofs.Common.{ℕ, ◌≡◌, List, arith, sym, ap, ◌∙◌, subst, Bool, true, cond, not}
use Rattle.std.specs.Prelude.{nat_lt}
use Rattle.std.proofs.lemmas.Bool.{lt-ltb}
use Rattle.mark_core.specs.Shapes.{IsShape}
use Rattle.mark_core.specs.Layout.{Words, words_of}
use Rattle.mark_core.specs.Parts.{parts}
use Rattle.mark_core.specs.Effects.{seat_after}
use Rattle.mark_core.specs.Steps.{Core, AllTrue}
use Rattle.mark_core.specs.Held.{put_packet}
use Rattle.gc_table.specs.SeatRecords.{inside, reserved}
use Rattle.mark_core.specs.declared.kinds.Shape.{Shape}
use Rattle.mark_core.specs.declared.kinds.Step.{Step}
use Rattle.mark_core.specs.declared.seat.SeatState.{SeatState}
use Rattle.gc_table.specs.declared.view.View.{View}
use Rattle.gc_table.specs.Taking.{after, May}

-- a step whose condition speaks only of the record
pub may-by : (sh : Shape) (v : View) (s : SeatState) (step : Step) → v.shape ≡ sh → v.state ≡ s → ((w : Words) (seats : List SeatState) → AllTrue (parts sh w seats s step)) → May step v
may-by sh v s step shaped is h x i w a =
    let c : Core = x.core in
    subst (λ (q : Shape × SeatState). AllTrue (parts q.0 (words_of c.shape c.words) c.seats q.1 step)) (λ y. ((sym shaped ∙ a.shape) y, sym is y)) (h (words_of c.shape c.words) c.seats)

-- the record after a step
pub state-after : (sh : Shape) (v w : View) (s : SeatState) (step : Step) (n : ℕ) → v.shape ≡ sh → v.state ≡ s → w ≡ after step n v → w.state ≡ seat_after sh s step n
state-after sh v w s step n shaped is e = ap (λ (x : View). x.state) e ∙ (λ y. seat_after (shaped y) (is y) step n)

-- there is a packet 0
pub first-packet : (sh : Shape) → IsShape sh → nat_lt 0 sh.packets ≡ true
first-packet sh z = lt-ltb 0 sh.packets (omega (arith, z.packets))

-- the record after a try to take packet 0, by whether it was there
abbrev pub taking : Shape → ℕ → Bool → SeatState
taking sh k found = record (inside sh k) { held = cond found (put_packet (reserved sh k).held 0) (reserved sh k).held; reserved = not found }
