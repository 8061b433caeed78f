-- The season moves on in a stop of the catalogue's seat.
use Rattle.std.specs.Prelude.{ℕ, ◌≡◌, ◌+◌, ◌<◌, ◌%◌, ◌==◌, List, Bool, true, false, Some, IsTrue, IsFalse}
use Rattle.mark_core.specs.Steps.WorldSteps.{has_nothing}
use Rattle.mark_core.specs.declared.kinds.Phase.TheVariants.{Full, Idle}
use Rattle.mark_core.specs.declared.kinds.Step.{Step}
use Rattle.mark_core.specs.declared.kinds.Step.TheVariants.{NextSeason}
use Rattle.gc_table.specs.Log.{events}
use Rattle.gc_table.specs.Rule.{KnowsFull}
use Rattle.gc_table.specs.Running.{Alone, Ran}
use Rattle.gc_table.specs.Sections.{planned}
use Rattle.gc_table.specs.declared.view.Entry.{Entry}
use Rattle.gc_table.specs.declared.view.View.{View}
use Rattle.packet_pools.specs.Counts.{count_of}
use Rattle.packet_pools.specs.Seeking.{some_event}
use Rattle.play_end.specs.Done.{IsStill}
use Rattle.play_end.specs.declared.played.Played.{Played}
use Rattle.play_end.specs.declared.played.Played.TheVariants as plays
use Rattle.stop_world.specs.Waiting.{HasStopped}
use Rattle.gc_cycle.specs.Cycles.{never_fills}
use Rattle.gc_cycle.specs.Events.{never, since_last}
use Rattle.gc_cycle.specs.Polling.{saw_full}
use Rattle.gc_cycle.specs.Sorts.{raises_flag}
use Rattle.gc_cycle.specs.Standing.{IsAlone}

-- the season moved on
abbrev pub turns_season : Step → ℕ → Bool
turns_season NextSeason found = true
turns_season step found = false

-- the events of the stop that the seat asked for last
abbrev pub in_stop : List Entry → List Entry
in_stop es = since_last raises_flag es

-- what the section has come to stays, its position among it, and the heap wasn't said to be full
pub record KeepsPart (v w : View) : Type 0 where
  pub ran : Ran v w
  pub still : IsStill v.own w.own
  pub position : w.own.position ≡ v.own.position
  pub made : w.state.made ≡ v.state.made
  pub unfilled : IsTrue (never_fills (events v w))

-- the season may move on: it is the catalogue's seat, the season is among those of a script, and at the end of the catalogue's turn the plain heap is what the
-- plan says
pub record MayTurnSeason (v : View) : Type 0 where
  pub catalogue : v.state.section ≡ Some 0
  pub early : v.own.seasons < 128
  pub planned_is : IsTrue (v.own.seasons % 2 == 0) → v.own.meaning.heap ≡ planned v.shape v.plan (v.own.seasons + 1)

-- the seat stopped the world, and is alone in it with nothing in hand; if it read in the stop that the heap is full, it knows that
pub record StopsAt (v w : View) : Type 0 where
  pub keeps : KeepsPart v w
  pub seasons : w.own.seasons ≡ v.own.seasons
  pub stopped : HasStopped w
  pub rest : IsTrue (has_nothing w.shape w.state)
  pub unturned : IsTrue (never turns_season (events v w))
  pub unhelping : IsFalse w.state.helping
  pub raised : IsTrue (some_event raises_flag (events v w))
  pub told : IsTrue (saw_full (in_stop (events v w))) → KnowsFull w

-- in the stop, no cycle is under way any more, or the heap is full
pub record LeavesNoCycle (full : Bool) (v w : View) : Type 0 where
  pub keeps : KeepsPart v w
  pub seasons : w.own.seasons ≡ v.own.seasons
  pub rest : IsAlone w
  pub unturned : IsTrue (never turns_season (events v w))
  pub calm : IsTrue (never raises_flag (events v w))
  pub unhelping : w.state.helping ≡ v.state.helping
  pub read : saw_full (events v w) ≡ full
  pub found : KnowsFull v → full ≡ true

-- if it is full, the seat knows it; else the phase is Idle
abbrev pub AloneAt : Bool → View → Type 0
AloneAt true w = Alone Full w
AloneAt false w = Alone Idle w

-- the seat went on and left
pub record LeavesStop (v w : View) : Type 0 where
  pub keeps : KeepsPart v w
  pub seasons : w.own.seasons ≡ v.own.seasons
  pub unturned : IsTrue (never turns_season (events v w))
  pub calm : IsTrue (never raises_flag (events v w))
  pub unread : IsFalse (saw_full (events v w))
  pub known : KnowsFull v → KnowsFull w
  pub settled : IsTrue v.own.settled → IsTrue w.own.settled

-- how the turn ended: the season moved on once; or the phase was read as Full in the stop, and the season stays
abbrev pub TurnEnds : Played → View → View → Type 0
TurnEnds plays.Done v w = (count_of turns_season (events v w) ≡ 1) × IsFalse (saw_full (in_stop (events v w))) × (w.own.seasons ≡ v.own.seasons + 1)
TurnEnds plays.Full v w = IsTrue (never turns_season (events v w)) × IsTrue (saw_full (in_stop (events v w))) × (w.own.seasons ≡ v.own.seasons) × KnowsFull w

-- a cycle is under way no more, or the heap is full
abbrev pub AloneAfter : Played → View → Type 0
AloneAfter plays.Done w = Alone Idle w
AloneAfter plays.Full w = Alone Full w

-- a turn ended in the stop of this seat, which is alone in it with nothing in hand; the rest of the stop leaves it so
pub record EndsTurn (played : Played) (v w : View) : Type 0 where
  pub rest : IsAlone w
  pub unhelping : IsFalse w.state.helping
  pub alone : AloneAfter played w
  pub catalogue : w.state.section ≡ Some 0
  pub turned : played ≡ plays.Done → w.own.seasons ≡ v.own.seasons + 1
  pub ends : (z : View) → LeavesStop w z → KeepsPart v z × TurnEnds played v z
