-- Cells that were popped before they were published, and are deferred.
use Rattle.std.specs.Prelude.{ℕ, ◌==◌, ◌&&◌, ◌||◌, not, List, [], ◌∷◌, Bool, false, IsFalse}
use Rattle.mark_core.specs.Numbers.{deferred_pool_number}
use Rattle.mark_core.specs.Seats.{is_the}
use Rattle.mark_core.specs.declared.kinds.Step.{Step}
use Rattle.mark_core.specs.declared.kinds.Step.TheVariants.{Push, Pop, Give}
use Rattle.mark_core.specs.declared.seat.SeatState.{SeatState}
use Rattle.gc_table.specs.declared.view.Entry.{Entry}
use Rattle.gc_table.specs.declared.view.View.{View}
use Rattle.gc_table.specs.Taking.{after}
use Rattle.gc_table.specs.Log.{events}
use Rattle.packet_pools.specs.Seeking.{was_got_from}

-- the cell that is pushed was popped, and isn't a fresh one
abbrev pub defers : SeatState → Step → Bool
defers s (Push p c) = not (is_the s.fresh c)
defers s step = false

-- packet p has a popped cell in it from then on, until it is given as deferred
abbrev pub waits_on : ℕ → SeatState → Step → Bool → Bool
waits_on p s (Push q c) b = b || ((q == p) && not (is_the s.fresh c))
waits_on p s (Give q deferred) b = b && not ((q == p) && deferred)
waits_on p s step b = b

-- packet p has a popped cell in it after all these events
abbrev pub waits : ℕ → View → List Entry → Bool → Bool
waits p v [] b = b
waits p v (e ∷ es) b = waits p (after e.step e.found v) es (waits_on p v.state e.step b)

-- a cell is taken out of packet p
abbrev pub pops_from : ℕ → Step → Bool
pops_from p (Pop q) = q == p
pops_from p step = false

-- a cell was taken out of packet p while a popped cell waited there
abbrev pub pops_waiting : ℕ → View → List Entry → Bool → Bool
pops_waiting p v [] b = false
pops_waiting p v (e ∷ es) b = (b && pops_from p e.step) || pops_waiting p (after e.step e.found v) es (waits_on p v.state e.step b)

-- a packet into which the call deferred a cell was given to the deferred pool before a cell was taken out of it again; and no packet was taken out of the
-- deferred pool
pub record Defers (v w : View) : Type 0 where
  pub given : (p : ℕ) → IsFalse (waits p v (events v w) false)
  pub kept : (p : ℕ) → IsFalse (pops_waiting p v (events v w) false)
  pub undeferred : (p : ℕ) → IsFalse (was_got_from deferred_pool_number p (events v w))
