-- What a mutator found on its way to an answer, and how many steps it took.
use Rattle.std.specs.Prelude.{ℕ, ◌≡◌, ◌<◌, ◌+◌, ◌⊎◌, [], ◌∷◌, Bool, false, Option, None, Some, IsFalse, IsTrue, is_some}
use Rattle.std.specs.Int.Count.{ones}
use Rattle.mark_core.specs.Bits.{has_flag}
use Rattle.mark_core.specs.declared.kinds.Step.{Step}
use Rattle.mark_core.specs.declared.kinds.Step.TheVariants.{EnterStep, Observe, RaiseStep, ReadPhase}
use Rattle.mark_core.specs.declared.seat.CacheState.{CacheState}
use Rattle.gc_table.specs.Log.{event, events}
use Rattle.gc_table.specs.Rule.{KnowsFull}
use Rattle.gc_table.specs.Running.{Ran}
use Rattle.gc_table.specs.declared.view.View.{View}
use Rattle.packet_pools.specs.Seeking.{some_event}
use Rattle.alloc_cache.specs.declared.cache.Cache.{Cache}
use Rattle.stop_world.specs.Gates.{TurnsBack}
use Rattle.mutator_ops.specs.Few.{AtMost}
use Rattle.gc_cycle.specs.Polling.{saw_full}
use Rattle.cache_refills.specs.Trying.{EntersOnce}
use Rattle.cache_refills.specs.declared.trying.Pass.{Pass}
use Rattle.cache_refills.specs.declared.trying.Pass.TheVariants as passes
use Rattle.seat_turns.specs.Coming.{FlushesFirst, LeavesTurn, StepsOut}
use Rattle.seat_turns.specs.SeasonLooks.{LooksAtSeason, SeesOther}
use Rattle.seat_turns.specs.Standing.{flush_steps}
use Rattle.seat_steps.specs.Filling.{FewBesides, TriesOnce, TriesSome, filling_steps, make_steps, search_steps}
use Rattle.seat_steps.specs.Pacing.{CarriesPace, Paces}
use Rattle.seat_steps.specs.declared.came.Came.{Came}
use Rattle.seat_steps.specs.declared.came.Came.TheVariants as cames

-- the stop flag was found up: by a look at the world, on the way in, or by a try to raise it
abbrev pub finds_flag : Step → ℕ → Bool
finds_flag Observe found = has_flag found
finds_flag EnterStep found = has_flag found
finds_flag RaiseStep found = has_flag found
finds_flag step found = false

-- at some moment of the call the season that the seat had seen was another than the mutators'
pub record SawOther (v w : View) : Type 0 where
  pub looked : View
  pub before : Ran v looked
  pub other : SeesOther 1 looked
  pub last : Ran looked w

-- why a mutator left: a stop was under way, or the season was another
abbrev pub FoundStop : View → View → Type 0
FoundStop v w = IsTrue (some_event finds_flag (events v w)) ⊎ SawOther v w

-- a mutator left so, and took this many steps at most
abbrev pub FoundStopIn : ℕ → View → View → Type 0
FoundStopIn most v w = FoundStop v w × AtMost most v w

-- the phase was read as Full in the call, and the seat knows that the heap is full
abbrev pub FoundFull : View → View → Type 0
FoundFull v w = IsTrue (saw_full (events v w)) × KnowsFull w

-- and this many steps were taken at most
abbrev pub FoundFullIn : ℕ → View → View → Type 0
FoundFullIn most v w = FoundFull v w × AtMost most v w

-- a try to get a cell found none, or marking done: before it 5 steps at most and those that store the roots that lag, and 3 after it, and this many in all
abbrev pub FoundNoCell : View → View → Type 0
FoundNoCell v w = TriesOnce (flush_steps v + 5) 3 None v w × AtMost (search_steps v.shape + (flush_steps v + 8)) v w

-- one look at the world found no stop, and one at the phase followed, and nothing else was done
abbrev pub LooksFreely : View → View → Type 0
LooksFreely v w = (found : ℕ) × (phase : ℕ) × IsFalse (has_flag found) × (events v w ≡ event Observe found ∷ event ReadPhase phase ∷ [])

-- what the looks of a safe point found
abbrev pub LooksBy : Pass → Option Cache → Option Cache → View → View → Type 0
LooksBy passes.Going handed kept v w = (kept ≡ handed) × LooksFreely v w
LooksBy passes.Out handed kept v w = IsTrue (some_event finds_flag (events v w))
LooksBy passes.Full handed kept v w = IsTrue (saw_full (events v w))

-- one look at the world found no stop, one at the phase followed, and one at the season if it wasn't known; nothing else was done
pub record GoesFreely (v w : View) : Type 0 where
  pub ran : Ran v w
  pub looked : View
  pub looks : LooksFreely v looked
  pub season : LooksAtSeason looked w
  pub few : AtMost 3 v w
  pub known : IsTrue (is_some v.state.season_seen) → AtMost 2 v w

-- what the looks of a mutator at its turn came to: nothing hinders it, a stop is under way, or the heap is full
abbrev pub LooksTo : Came → View → View → Type 0
LooksTo cames.Done v w = LooksFreely v w
LooksTo cames.Stopped v w = (found : ℕ) × IsTrue (has_flag found) × (events v w ≡ event Observe found ∷ [])
LooksTo cames.Full v w = LooksFreely v w × FoundFull v w
LooksTo c v w = ⊥

-- so it looked, and then it stored the roots that lagged, gave up the cache that it had, stored its position, and left
pub record LeavesAfterLook (c : Came) (v w : View) : Type 0 where
  pub looked : View
  pub looks : LooksTo c v looked
  pub leaves : FlushesFirst LeavesTurn looked w

-- what hindered a mutator that looked on its way to its turn: a stop was under way, or the season was another; or the heap was full
abbrev pub Hinders : Came → View → View → Type 0
Hinders cames.Stopped v w = LooksTo cames.Stopped v w ⊎ (GoesFreely v w × SeesOther 1 w)
Hinders cames.Full v w = LooksTo cames.Full v w
Hinders c v w = ⊥

-- so it looked, and then it stored its position and left
pub record TurnsAway (c : Came) (v w : View) : Type 0 where
  pub looked : View
  pub looks : Hinders c v looked
  pub leaves : StepsOut looked w

-- what a mutator without a cache did that came to its turn, or left
abbrev pub ComesBy : Came → View → View → Type 0
ComesBy cames.Done v w = GoesFreely v w
ComesBy c v w = TurnsAway c v w

-- one look at the world found no stop, and one at the phase followed, and nothing else was done
pub record PassesFreely (v w : View) : Type 0 where
  pub ran : Ran v w
  pub looks : LooksFreely v w
  pub few : AtMost 2 v w

-- the seat entered while no stop was under way and read the phase, and a look at the world found none after that
pub record EntersFreely (v w : View) : Type 0 where
  pub ran : Ran v w
  pub entered : View
  pub enters : EntersOnce v entered
  pub goes : GoesFreely entered w
  pub few : AtMost 5 v w

-- the seat entered while no stop was under way and read the phase, and then it looked, and left
pub record EntersInVain (c : Came) (v w : View) : Type 0 where
  pub entered : View
  pub enters : EntersOnce v entered
  pub turns : TurnsAway c entered w

-- the seat entered while no stop was under way and read the phase, which was Full; then it stored its position and left
pub record EntersFull (v w : View) : Type 0 where
  pub entered : View
  pub enters : EntersOnce v entered
  pub leaves : StepsOut entered w

-- the cache has a free cell
abbrev pub HasFree : Option CacheState → Type 0
HasFree None = ⊥
HasFree (Some c) = 0 < ones c.free

-- a safe point found no stop; if the seat had a cache with a free cell, nothing else was done; else a try to get one was made besides
pub record ComesFreely (v w : View) : Type 0 where
  pub passed : View
  pub passes : PassesFreely v passed
  pub ran : Ran passed w
  pub few : HasFree v.state.cache → AtMost 2 v w
  pub besides : FewBesides 2 (flush_steps v + 5) 3 v w

-- a safe point found no stop; if the seat had a cache with a free cell, an object was made by this many steps; else by this many, and a try to get a cell; and by
-- this many in all
pub record MakesFreely (v w : View) : Type 0 where
  pub passed : View
  pub passes : PassesFreely v passed
  pub ran : Ran passed w
  pub few : HasFree v.state.cache → AtMost (v.shape.fields + 5) v w
  pub besides : FewBesides (v.shape.fields + 5) (flush_steps v + 5) (v.shape.fields + 6) v w
  pub longest : AtMost (make_steps v.shape + flush_steps v) v w
  pub paces : Paces v w

-- what a mutator found that came to its turn, or left
abbrev pub ArrivesBy : Came → View → View → Type 0
ArrivesBy cames.Done v w = GoesFreely v w
ArrivesBy cames.Stopped v w = FoundStopIn 8 v w
ArrivesBy cames.Full v w = FoundFullIn 8 v w
ArrivesBy c v w = ⊥

-- what it found at a safe point
abbrev pub PassesBy : Came → View → View → Type 0
PassesBy cames.Done v w = PassesFreely v w
PassesBy cames.Stopped v w = FoundStopIn (flush_steps v + 6) v w × LeavesAfterLook cames.Stopped v w
PassesBy cames.Full v w = FoundFullIn (flush_steps v + 7) v w × LeavesAfterLook cames.Full v w
PassesBy c v w = ⊥

-- what it found on its way in
abbrev pub EntersBy : Came → View → View → Type 0
EntersBy cames.Done v w = EntersFreely v w
EntersBy cames.Stopped v w = FoundStopIn 10 v w × CarriesPace v w × (TurnsBack v w ⊎ EntersInVain cames.Stopped v w)
EntersBy cames.Full v w = FoundFullIn 10 v w × CarriesPace v w × (EntersFull v w ⊎ EntersInVain cames.Full v w)
EntersBy c v w = ⊥

-- what it found that came to its turn without a cell
abbrev pub LacksBy : Came → View → View → Type 0
LacksBy cames.NoCell v w = AtMost 3 v w
LacksBy cames.Stopped v w = FoundStopIn 8 v w
LacksBy cames.Full v w = FoundFullIn 8 v w
LacksBy c v w = ⊥

-- what it found that gave up a cache without a free cell, by this many steps at most, and tried to get another
abbrev pub FillsBy : ℕ → Came → View → View → Type 0
FillsBy before cames.NoCell v w = TriesOnce before 3 None v w
FillsBy before cames.Stopped v w = FoundStop v w × TriesSome before 8 v w
FillsBy before cames.Full v w = FoundFull v w × TriesSome before 8 v w
FillsBy before c v w = ⊥

-- what it found that was to make an object
abbrev pub MakesBy : Came → View → View → Type 0
MakesBy cames.Done v w = MakesFreely v w
MakesBy cames.NoCell v w = FoundNoCell v w × Paces v w
MakesBy cames.Stopped v w = FoundStopIn (filling_steps v.shape + (flush_steps v + 13)) v w × FewBesides (flush_steps v + 8) (flush_steps v + 5) 8 v w × Paces v w
MakesBy cames.Full v w = FoundFullIn (filling_steps v.shape + (flush_steps v + 13)) v w × FewBesides (flush_steps v + 8) (flush_steps v + 5) 8 v w × Paces v w
MakesBy c v w = ⊥
