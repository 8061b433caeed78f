-- What a mutator is answered that doesn't wait.
use Rattle.std.specs.Prelude.{ℕ, ◌≡◌, [], ◌∷◌, Option, None, IsTrue, IsFalse}
use Rattle.mark_core.specs.declared.kinds.Step.TheVariants.{Observe, ReadPhase}
use Rattle.gc_table.specs.Log.{Only, event, events}
use Rattle.gc_table.specs.Rule.{KnowsFull}
use Rattle.gc_table.specs.Running.{Ran}
use Rattle.gc_table.specs.Seats.{Took}
use Rattle.gc_table.specs.declared.view.View.{View}
use Rattle.alloc_cache.specs.declared.cache.Cache.{Cache}
use Rattle.stop_world.specs.Gates.{Enters, TurnsBack}
use Rattle.gc_cycle.specs.Answering.{EndsFull, GoesOn, HasCache, LooksOnce}
use Rattle.gc_cycle.specs.Events.{never}
use Rattle.gc_cycle.specs.Mutating.{keeps_section}
use Rattle.gc_cycle.specs.Polling.{poll_found_stop, saw_full}
use Rattle.gc_cycle.specs.Sorts.{raises_flag}
use Rattle.gc_cycle.specs.Sparing.{spares_part}
use Rattle.gc_cycle.specs.Standing.{IsOut, Mutates}
use Rattle.cache_refills.specs.Stops.{claim_failed, may_stop}
use Rattle.cache_refills.specs.declared.trying.Pass.{Pass}
use Rattle.cache_refills.specs.declared.trying.Pass.TheVariants as passes

-- one look at the world found no stop under way, and one at the phase followed: the mutator goes on, with the cache that it had
pub record GoesPast (handed kept : Option Cache) (v w : View) : Type 0 where
  pub clear : IsFalse (poll_found_stop (events v w))
  pub looks : LooksOnce (events v w)
  pub goes_on : GoesOn v w
  pub cached : HasCache kept w
  pub same : kept ≡ handed

-- no stop was, but the heap is full: the mutator gave its cache up and stored its position
pub record PassesFull (kept : Option Cache) (done : ℕ) (v w : View) : Type 0 where
  pub clear : IsFalse (poll_found_stop (events v w))
  pub ends : EndsFull done v w
  pub known : KnowsFull w
  pub none : kept ≡ None

-- a stop was: the mutator gave its cache up, stored its position and left
pub record StepsOut (kept : Option Cache) (done : ℕ) (v w : View) : Type 0 where
  pub found : IsTrue (poll_found_stop (events v w))
  pub out : IsOut w
  pub position : w.own.position ≡ done
  pub none : kept ≡ None

-- what a safe point without waiting answers: the mutator goes on, the heap is full, or a stop is under way and it is outside
abbrev pub PassesTo : Pass → Option Cache → Option Cache → ℕ → View → View → Type 0
PassesTo passes.Going handed kept done v w = GoesPast handed kept v w
PassesTo passes.Full handed kept done v w = PassesFull kept done v w
PassesTo passes.Out handed kept done v w = StepsOut kept done v w

-- the seat found no stop under way and entered, and read the phase once
pub record EntersOnce (v w : View) : Type 0 where
  pub entered : View
  pub ran : Ran v entered
  pub enters : Enters v entered
  pub reads : Took ReadPhase entered w

-- what an entry without waiting answers: the seat is in, or is in and the heap is full, or found a stop and is outside again
abbrev pub EntersTo : Pass → View → View → Type 0
EntersTo passes.Going v w = EntersOnce v w × GoesOn v w × (w.state.cache ≡ None)
EntersTo passes.Full v w = EntersOnce v w × EndsFull v.own.position v w × KnowsFull w
EntersTo passes.Out v w = TurnsBack v w × IsOut w

-- the mutator changed nothing of its section and of what is being played, raised no flag, and didn't say that the heap is full
pub record PlaysOn (v w : View) : Type 0 where
  pub ran : Ran v w
  pub keeps : Only keeps_section v w
  pub spares : Only spares_part v w
  pub calm : IsTrue (never raises_flag (events v w))

-- the mutator goes on without a cache, and hasn't read that the heap is full
pub record GoesWithout (v w : View) : Type 0 where
  pub mutates : Mutates w
  pub cache : w.state.cache ≡ None
  pub going : IsFalse (saw_full (events v w))

-- no block had a free cell: the mutator goes on without a cache
pub record FindsNoBlock (v w : View) : Type 0 where
  pub mutates : Mutates w
  pub cache : w.state.cache ≡ None
  pub going : IsFalse (saw_full (events v w))
  pub failed : IsTrue (claim_failed v.shape (events v w))

-- a collection is called for, since no block had a free cell or marking was done: the mutator goes on without a cache
pub record CallsForCollection (v w : View) : Type 0 where
  pub mutates : Mutates w
  pub cache : w.state.cache ≡ None
  pub going : IsFalse (saw_full (events v w))
  pub cause : IsTrue (may_stop v.shape (events v w))
