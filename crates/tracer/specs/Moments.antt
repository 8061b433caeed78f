-- The moments of a call: what the seat has in hand then, and what it does from then on. A search for a packet is shown by the steps that follow.
use Rattle.std.specs.Prelude.{ℕ, ◌==◌, ◌&&◌, ◌||◌, not, if◌then◌else◌, List, [], ◌∷◌, Bool, true, Some, None}
use Rattle.std.specs.List.{list_all, list_any}
use Rattle.mark_core.specs.Effects.{seat_after}
use Rattle.mark_core.specs.Held.{Slot, holds_any}
use Rattle.mark_core.specs.Seats.{work_in_hand}
use Rattle.mark_core.specs.declared.kinds.Shape.{Shape}
use Rattle.mark_core.specs.declared.kinds.Step.{Step}
use Rattle.mark_core.specs.declared.kinds.Step.TheVariants.{Push, Give}
use Rattle.mark_core.specs.declared.seat.SeatState.{SeatState}
use Rattle.gc_table.specs.declared.view.Entry.{Entry}
use Rattle.gc_table.specs.declared.view.View.{View}
use Rattle.packet_pools.specs.Seeking.{input_pools, moves_packet, no_input, no_output, output_pools}
use Rattle.tracer.specs.Deferral.{defers}

-- the seat's record, and the packets with deferred cells that aren't given yet
pub record Moment : Type 0 where
  pub state : SeatState
  pub deferring : List ℕ

-- the list without this number
abbrev pub without : ℕ → List ℕ → List ℕ
without p [] = []
without p (x ∷ xs) = if x == p then without p xs else x ∷ without p xs

-- a packet into which a popped cell goes has one that waits, until it is given as deferred
abbrev pub deferring_after : SeatState → Step → List ℕ → List ℕ
deferring_after s (Push p c) ps = if defers s (Push p c) then p ∷ ps else ps
deferring_after s (Give p deferred) ps = if deferred then without p ps else ps
deferring_after s step ps = ps

-- the moment after an event
abbrev pub after_moment : Shape → Moment → Entry → Moment
after_moment sh m e = record { state = seat_after sh m.state e.step e.found; deferring = deferring_after m.state e.step m.deferring }

-- the moment at which a call begins
abbrev pub begins : View → Moment
begins v = record { state = v.state; deferring = [] }

-- at some moment from this one on, this is so of it and of the events that follow
abbrev pub at_some_moment : Shape → (Moment → List Entry → Bool) → Moment → List Entry → Bool
at_some_moment sh test m [] = test m []
at_some_moment sh test m (e ∷ es) = test m (e ∷ es) || at_some_moment sh test (after_moment sh m e) es

-- the first events, as long as their steps are like this
abbrev pub front : (Step → Bool) → List Entry → List Entry
front f [] = []
front f (e ∷ es) = if f e.step then e ∷ front f es else []

-- the slot is free, or its packet is known to be empty, or is one of these
abbrev pub is_spent_slot : List ℕ → Slot → Bool
is_spent_slot ps None = true
is_spent_slot ps (Some (p, None, stored)) = list_any (λ x. x == p) ps
is_spent_slot ps (Some (p, Some n, stored)) = (n == 0) || list_any (λ x. x == p) ps

-- no work in hand, and no packet in hand with a cell but those with deferred cells
abbrev pub nothing_left : Shape → Moment → Bool
nothing_left sh m = not (work_in_hand sh.fields m.state) && list_all (is_spent_slot m.deferring) m.state.held

-- here nothing is left in hand, and the steps that follow look for a packet to read from and find none
abbrev pub finds_no_work : Shape → Moment → List Entry → Bool
finds_no_work sh m es = nothing_left sh m && no_input sh (front (moves_packet input_pools) es)

-- here no packet is in hand, and the steps that follow look for one to read from and find none
abbrev pub finds_none_to_read : Shape → Moment → List Entry → Bool
finds_none_to_read sh m es = not (holds_any m.state.held) && no_input sh (front (moves_packet input_pools) es)

-- here no packet is in hand, and the steps that follow look for one with room and find none
abbrev pub finds_none_to_fill : Shape → Moment → List Entry → Bool
finds_none_to_fill sh m es = not (holds_any m.state.held) && no_output sh (front (moves_packet output_pools) es)

-- both are so at some moment: no packet could be taken at all
abbrev pub finds_no_packet : Shape → Moment → List Entry → Bool
finds_no_packet sh m es = at_some_moment sh (finds_none_to_fill sh) m es && at_some_moment sh (finds_none_to_read sh) m es
