-- How a drain goes: the roots are seen to, and it goes in rounds, each of which works.
use Rattle.std.specs.Prelude.{ℕ, ◌≡◌, ◌<◌, ◌≤◌, ◌+◌, List, [], ◌∷◌, IsTrue}
use Rattle.mark_core.specs.Layout.{block_count}
use Rattle.mark_core.specs.Numbers.{card_counter, empty_offset}
use Rattle.mark_core.specs.Seats.{phase_number}
use Rattle.mark_core.specs.declared.kinds.Phase.{Phase}
use Rattle.mark_core.specs.declared.kinds.Phase.TheVariants.{Clear, Drain, Sweep}
use Rattle.mark_core.specs.declared.kinds.Step.TheVariants.{OpenStep, Reset, StorePhase}
use Rattle.gc_table.specs.Log.{Only, event, events}
use Rattle.gc_table.specs.Seats.{Took}
use Rattle.stop_world.specs.Waiting.{closes}
use Rattle.card_clean.specs.DirtyCards.{CleansRound}
use Rattle.gc_table.specs.Running.{Ran}
use Rattle.gc_table.specs.declared.view.Entry.{Entry}
use Rattle.gc_table.specs.declared.view.View.{View}
use Rattle.packet_pools.specs.Seeking.{some_event}
use Rattle.sweeper.specs.Freeing.{block_floor}
use Rattle.sweeper.specs.Sweepers.{is_sweeping}
use Rattle.card_clean.specs.Drained.{FindsNoDirtyCard, FindsWork}
use Rattle.gc_cycle.specs.Drained.{DrainedAlone, RootedAlone}
use Rattle.gc_cycle.specs.Events.{never, since_last}
use Rattle.gc_cycle.specs.Finishing.{IsMove, IsPart}
use Rattle.gc_cycle.specs.Sorts.{moves_to, sees_all_empty}
use Rattle.gc_cycle.specs.RoundParts.{BringsBack, CleansLast}
use Rattle.gc_cycle.specs.Turns.{DrainsFor, SeesToRoots, round_quota}

-- a look at the cards and at the count of packets found something left; and after it a round was made: first what was deferred was brought back; then this many
-- cells were popped, or at some moment nothing was left in hand and there was no packet to read from; and at last the cards were cleaned
pub record GoesRound (v w : View) : Type 0 where
  pub looked : View
  pub looks : Ran v looked
  pub left : FindsWork v.shape (events v looked)
  pub ran : Ran looked w
  pub brings : BringsBack looked w
  pub worked : DrainsFor round_quota looked w
  pub cleans : CleansLast looked w

-- such rounds and nothing else, each up to the next of these views, and at last a look that found each card clean and all packets empty
abbrev pub GoesInRounds : List View → View → View → Type 0
GoesInRounds [] v w = Ran v w × FindsNoDirtyCard v.shape (events v w)
GoesInRounds (x ∷ xs) v w = GoesRound v x × GoesInRounds xs x w

-- a drain by the seat alone: it saw to the roots until each was nil or marked, and went in rounds until nothing was left
pub record DrainsAlone (v w : View) : Type 0 where
  pub rooted : View
  pub first : IsPart Drain v rooted
  pub roots : RootedAlone rooted
  pub rounds : List View
  pub goes : GoesInRounds rounds rooted w
  pub part : IsPart Drain v w
  pub drained : DrainedAlone w

-- after whatever was done before, a last round brought back first what was deferred
pub record BringsAtLast (v w : View) : Type 0 where
  pub begun : View
  pub before : Ran v begun
  pub round : BringsBack begun w

-- a drain with helpers, part by part: help was opened before all else; then all cards were passed, and cleaned if they were dirty; then the roots of all
-- sections were seen to, as far as packets could be had; then the seat traced in rounds, which brought back first what was deferred, until the count said that
-- all packets are empty; and only then help was closed
pub record DrainsTogether (v w : View) : Type 0 where
  pub let_in : View
  pub cleaned : View
  pub rooted : View
  pub traced : View
  pub part : IsPart Drain v w
  pub opens : Took OpenStep v let_in
  pub cleans : Ran let_in cleaned
  pub cards : (n : ℕ) × CleansRound v.shape n (events let_in cleaned)
  pub sees : Ran cleaned rooted
  pub roots : (section : ℕ) → section < v.shape.sections → SeesToRoots section cleaned rooted
  pub traces : Ran rooted traced
  pub worked : DrainsFor round_quota rooted traced
  pub brings : BringsAtLast rooted traced
  pub emptied : IsTrue (some_event (sees_all_empty (empty_offset + v.shape.packets)) (events rooted traced))
  pub closes : Ran traced w × Only closes traced w

-- the first step moved the phase from Drain to this one
abbrev pub LeavesDrain : Phase → View → View → Type 0
LeavesDrain to v w = (rest : List Entry) × (events v w ≡ event (StorePhase to) (phase_number Drain) ∷ rest)

-- a drain began: since the phase moved to Drain only the counter of cards was set
abbrev pub BeginsDrain : View → View → Type 0
BeginsDrain v w = Ran v w × (since_last (moves_to Drain) (events v w) ≡ event (Reset card_counter) 0 ∷ [])

-- a sweep with helpers: help was opened before all else; then blocks were swept until none was left; and only then help was closed
pub record SweepsTogether (v w : View) : Type 0 where
  pub let_in : View
  pub swept : View
  pub part : IsPart Sweep v w
  pub opens : Took OpenStep v let_in
  pub sweeps : Ran let_in swept × Only is_sweeping let_in swept
  pub end : block_count v.shape ≤ block_floor swept
  pub closes : Ran swept w × Only closes swept w

-- from a drain that had begun: it went on with helpers and then alone, until nothing was left, and only then the phase moved to Sweep, and all was swept with
-- helpers
pub record DrainsToSweep (v w : View) : Type 0 where
  pub shared : View
  pub drained : View
  pub together : DrainsTogether v shared
  pub alone : DrainsAlone shared drained
  pub after : Ran drained w
  pub sweeps : LeavesDrain Sweep drained w
  pub moved : View
  pub swept : View
  pub moves : IsMove Drain Sweep drained moved
  pub shares : SweepsTogether moved swept
  pub ends : Ran swept w
  pub last : IsTrue (never (moves_to Drain) (events drained w))

-- the last drain of a call
pub record HasDrained (v w : View) : Type 0 where
  pub begun : View
  pub begins : BeginsDrain v begun
  pub drains : DrainsToSweep begun w

-- a drain before it: what was left was marked by the seat alone, and only then the phase moved to Clear
pub record DrainsBefore (v w : View) : Type 0 where
  pub begun : View
  pub drained : View
  pub begins : BeginsDrain v begun
  pub alone : DrainsAlone begun drained
  pub after : Ran drained w
  pub clears : LeavesDrain Clear drained w
