-- A collection in steps that doesn't wait: where the seat stands between them, and what each of them did.
use Rattle.std.specs.Prelude.{ℕ, ◌≡◌, ◌==◌, ◌||◌, ◌<◌, ◌≤◌, ◌-◌, ◌/◌, ◌%◌, not, [], ◌∷◌, Bool, false, is_some, Option, Some, None, IsTrue, IsFalse}
use Rattle.mark_core.specs.Bits.{has_bit, has_flag}
use Rattle.mark_core.specs.Cards.{block_cells}
use Rattle.mark_core.specs.Layout.{block_count, root_count}
use Rattle.mark_core.specs.Places.{mark_at, the_next_block}
use Rattle.mark_core.specs.Steps.WorldSteps.{has_nothing, is_stopped}
use Rattle.mark_core.specs.declared.kinds.Phase.TheVariants.{Drain, Idle, Sweep}
use Rattle.mark_core.specs.declared.kinds.Step.TheVariants.{DropStep, LeaveStep, Observe, RaiseStep, ReadPhase, StorePosition}
use Rattle.gc_table.specs.Log.{event, events}
use Rattle.gc_table.specs.Notes.{look}
use Rattle.gc_table.specs.Seats.{Took}
use Rattle.gc_table.specs.declared.view.View.{View}
use Rattle.gc_table.specs.Running.{Alone, Ran}
use Rattle.packet_pools.specs.Seeking.{some_event}
use Rattle.stop_world.specs.Waiting.{IsAware}
use Rattle.sweeper.specs.Freeing.{block_floor}
use Rattle.gc_cycle.specs.Drained.{DrainedAlone}
use Rattle.gc_cycle.specs.Ending.{InEach, IsCycleEnd, IsExact}
use Rattle.gc_cycle.specs.Finishing.{IsAloneIn}
use Rattle.gc_cycle.specs.Sorts.{begins_exactly}
use Rattle.gc_cycle.specs.Standing.{IsAlone, KeepsSeat, KeepsSection, Mutates}
use Rattle.gc_cycle.specs.declared.counts.Counts.{Counts}

-- the seat has a section, and isn't among helpers
pub record IsOwner (v : View) : Type 0 where
  pub section : IsTrue (is_some v.state.section)
  pub unhelping : IsFalse v.state.helping

-- its flag is up, and it doesn't know yet that the world has stopped
pub record AwaitsStop (v : View) : Type 0 where
  pub owner : IsOwner v
  pub aware : IsAware v
  pub unaware : IsFalse v.state.knows
  pub rest : IsTrue (has_nothing v.shape v.state)

-- alone in a drain, it sees to the roots
pub record IsAtRoots (v : View) : Type 0 where
  pub owner : IsOwner v
  pub alone : IsAloneIn Drain v
  pub next_block : look the_next_block v.known ≡ Some 0

-- what is noted of the marks of a block says that this cell of it is marked
abbrev pub says_marked : Option ℕ → ℕ → Bool
says_marked None i = false
says_marked (Some n) i = has_bit n i

-- what is noted of a root word says that it is nil, or names a cell that is noted as marked
abbrev pub says_root : View → Option ℕ → Bool
says_root v None = false
says_root v (Some word) = (word == 0) || says_marked (look (mark_at ((word - 1) / block_cells)) v.known) ((word - 1) % block_cells)

-- what is noted of root word i says that it is nil, or names a cell that is noted as marked
abbrev pub notes_root : ℕ → View → Bool
notes_root i v = says_root v (look (2, i) v.known)

-- alone in a drain, it has seen to the roots
pub record Drains (v : View) : Type 0 where
  pub owner : IsOwner v
  pub rest : IsAlone v
  pub drain : Alone Drain v
  pub next_block : look the_next_block v.known ≡ Some 0
  pub roots : (i : ℕ) → i < root_count v.shape → IsTrue (notes_root i v)

-- the seat is alone at the end of a drain: it has noted that every root is nil or names a marked cell, each card is clean and all packets are empty
pub record HasMarkedAll (v : View) : Type 0 where
  pub owner : IsOwner v
  pub drained : DrainedAlone v

-- alone in a sweep, it hands out blocks
pub record IsAtSweep (v : View) : Type 0 where
  pub owner : IsOwner v
  pub alone : IsAloneIn Sweep v

-- the seat is alone in a sweep, and has noted that every block was handed out
pub record HasSwept (v : View) : Type 0 where
  pub sweeps : IsAtSweep v
  pub end : block_count v.shape ≤ block_floor v

-- the seat runs again as a mutator, without a cache
pub record RunsAgain (v : View) : Type 0 where
  pub mutates : Mutates v
  pub cache : v.state.cache ≡ None

-- what the seat is and has made, and what its section has come to, stays
abbrev pub Keeps : View → View → Type 0
Keeps v w = KeepsSeat v w × KeepsSection v w

-- the position was stored, the world was left, and then the flag was asked for: it is the seat's own if it was down
pub record AsksOnce (done : ℕ) (yours : Bool) (v w : View) : Type 0 where
  pub left : ℕ
  pub found : ℕ
  pub all : events v w ≡ event (StorePosition done) done ∷ event LeaveStep left ∷ event RaiseStep found ∷ []
  pub answer : yours ≡ not (has_flag found)

-- one look at the world found that some seat runs
pub record FindsRunning (v w : View) : Type 0 where
  pub found : ℕ
  pub all : events v w ≡ event Observe found ∷ []
  pub running : IsFalse (is_stopped found)

-- one look at the world found that no seat runs, and then the phase was read
pub record FindsStopped (v w : View) : Type 0 where
  pub found : ℕ
  pub phase : ℕ
  pub all : events v w ≡ event Observe found ∷ event ReadPhase phase ∷ []
  pub stopped : IsTrue (is_stopped found)

-- since then a drain began with no cell marked, and the seat is in it or in what follows it
pub record IsExactSince (v w : View) : Type 0 where
  pub ran : Ran v w
  pub began : IsTrue (some_event begins_exactly (events v w))
  pub exact : IsTrue w.state.exact

-- the cycle ended with these counts, and then the world went on; if its drain began with no cell marked, the cells in use were the reachable ones
pub record EndsCollection (counts : Counts) (v w : View) : Type 0 where
  pub idle : View
  pub ran : Ran v idle
  pub alone : IsAloneIn Idle idle
  pub end : InEach (IsCycleEnd counts) idle
  pub exact : IsTrue v.state.exact → InEach IsExact idle
  pub resumes : Took DropStep idle w
