-- How much is done at a time: in a round of the drain, and in a turn of a seat that waits and helps.
use Rattle.std.specs.Prelude.{ℕ, ◌||◌, ◌⊎◌, List, [], ◌∷◌, Bool, nat_le, IsTrue}
use Rattle.mark_core.specs.Seats.{saw}
use Rattle.mark_core.specs.declared.kinds.Phase.TheVariants.{Drain, Sweep}
use Rattle.mark_core.specs.declared.kinds.Step.TheVariants.{LeaveHelpStep}
use Rattle.gc_table.specs.Log.{events}
use Rattle.gc_table.specs.Running.{Ran}
use Rattle.gc_table.specs.Seats.{Took}
use Rattle.gc_table.specs.declared.view.View.{View}
use Rattle.packet_pools.specs.Counts.{count_of}
use Rattle.stop_world.specs.Gates.{Declines, Joins}
use Rattle.gc_cycle.specs.declared.counts.Helped.{Helped}
use Rattle.gc_cycle.specs.Events.{never}
use Rattle.gc_cycle.specs.Helping.{HelpsAs, PassesFirst}
use Rattle.gc_cycle.specs.Moments.{at_some_moment, begins, finds_no_packet, finds_no_work}
use Rattle.gc_cycle.specs.Polling.{saw_resumed}
use Rattle.gc_cycle.specs.Roots.{roots_scanned}
use Rattle.gc_cycle.specs.Sorts.{joins, lets_in, pops}

-- how many cells a round of the drain pops, if there are as many
abbrev pub round_quota : ℕ
round_quota = 4294967295

-- how many cells a seat that waits pops in a turn as a helper, if there are as many
abbrev pub help_quota : ℕ
help_quota = 1024

-- this many cells were popped, or at some moment nothing was left in hand and there was no packet to read from
abbrev pub DrainsFor : ℕ → View → View → Type 0
DrainsFor quota v w = IsTrue (nat_le quota (count_of pops (events v w)) || at_some_moment v.shape (finds_no_work v.shape) (begins v) (events v w))

-- each variable of the section was seen to, or at some moment no packet could be taken
abbrev pub SeesToRoots : ℕ → View → View → Type 0
SeesToRoots section v w = IsTrue (roots_scanned section (events v w) || at_some_moment v.shape (finds_no_packet v.shape) (begins v) (events v w))

-- if the phase was read as Drain or Sweep, it helped: in a drain until this many objects were traced, or no work or no packet was found, and in a sweep until
-- no block was left
abbrev pub HelpsFor : ℕ → View → View → Type 0
HelpsFor quota v w = IsTrue (saw v.state.phase_seen Drain || saw v.state.phase_seen Sweep) → (helped : Helped) × HelpsAs quota helped v (events v w)

-- a turn: the seat was let in among the helpers, helped, in a drain after it passed all cards if it was to, and left them
pub record TakesTurn (cards : Bool) (quota : ℕ) (v w : View) : Type 0 where
  pub joined : View
  pub helped : View
  pub enters : Ran v joined
  pub let_in : Joins v joined
  pub ran : Ran joined helped
  pub stays : IsTrue (never joins (events joined helped))
  pub helps : HelpsFor quota joined helped
  pub passes : PassesFirst cards joined helped
  pub leaves : Took LeaveHelpStep helped w

-- help was closed, and the seat left at once; or it took a turn
pub record HelpsOnce (cards : Bool) (quota : ℕ) (v w : View) : Type 0 where
  pub ran : Ran v w
  pub once : Declines v w ⊎ TakesTurn cards quota v w

-- the seat didn't try to join the helpers
pub record StaysApart (v w : View) : Type 0 where
  pub ran : Ran v w
  pub apart : IsTrue (never joins (events v w))

-- between the two views of each pair the seat tried once to join the helpers, and at no other time; cards are for the turn before which it wasn't let in since
-- the wait began
abbrev pub HelpsBetween : ℕ → View → List (View × View) → View → View → Type 0
HelpsBetween quota start [] v w = StaysApart v w
HelpsBetween quota start (turn ∷ turns) v w = StaysApart v turn.0 × HelpsOnce (never lets_in (events start turn.0)) quota turn.0 turn.1 × HelpsBetween quota start turns turn.1 w

-- the seat waited until a poll found no stop, and each time that it tried to join the helpers help was closed, or it took a turn; it passed cards in the first one
pub record WaitsInTurns (v w : View) : Type 0 where
  pub turns : List (View × View)
  pub helps : HelpsBetween help_quota v turns v w
  pub resumed : IsTrue (saw_resumed (events v w))

-- between the two views of each pair the seat waited once, and at no other time it tried to join the helpers
abbrev pub WaitsBetween : List (View × View) → View → View → Type 0
WaitsBetween [] v w = StaysApart v w
WaitsBetween (wait ∷ waits) v w = StaysApart v wait.0 × WaitsInTurns wait.0 wait.1 × WaitsBetween waits wait.1 w

-- the seat joined the helpers only as it waited
abbrev pub HelpsInTurns : View → View → Type 0
HelpsInTurns v w = (waits : List (View × View)) × WaitsBetween waits v w
