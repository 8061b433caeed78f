-- What a mutator is answered that asks for a cache, comes to a safe point, or collects.
use Rattle.std.specs.Prelude.{ℕ, ◌≡◌, ◌==◌, not, true, false, if◌then◌else◌, List, [], ◌∷◌, Bool, Option, Some, None, is_some, IsTrue, IsFalse}
use Rattle.mark_core.specs.Seats.{phase_of}
use Rattle.mark_core.specs.declared.kinds.Phase.{Phase}
use Rattle.mark_core.specs.declared.kinds.Phase.TheVariants as phases
use Rattle.mark_core.specs.declared.kinds.Step.{Step}
use Rattle.mark_core.specs.declared.kinds.Step.TheVariants.{AddStat, Observe, PublishCells, ReadPhase, ReleaseBlock, StorePosition}
use Rattle.gc_table.specs.declared.view.Entry.{Entry}
use Rattle.gc_table.specs.declared.view.View.{View}
use Rattle.packet_pools.specs.Seeking.{some_event}
use Rattle.alloc_cache.specs.Caching.{IsCached}
use Rattle.alloc_cache.specs.Retiring.{retiring_steps}
use Rattle.alloc_cache.specs.declared.cache.Cache.{Cache}
use Rattle.gc_table.specs.Log.{event, events}
use Rattle.gc_table.specs.Rule.{KnowsFull}
use Rattle.gc_table.specs.Running.{Ran}
use Rattle.gc_table.specs.Seats.{Took}
use Rattle.gc_cycle.specs.declared.counts.Safe.{Safe}
use Rattle.gc_cycle.specs.declared.counts.Safe.TheVariants as safes
use Rattle.gc_cycle.specs.Collecting.{EndsExactly}
use Rattle.gc_cycle.specs.Cycles.{collects}
use Rattle.gc_cycle.specs.Events.{each_before}
use Rattle.gc_cycle.specs.Mutating.{GoesOut, works_in_stops}
use Rattle.gc_cycle.specs.Polling.{offered_help, poll_found_stop, saw_full}
use Rattle.gc_cycle.specs.Sorts.{leaves, polls}
use Rattle.mark_core.specs.Numbers.{done_count}
use Rattle.gc_cycle.specs.Standing.{Mutates}
use Rattle.gc_cycle.specs.Turns.{HelpsInTurns}

-- each time that the seat left, its first poll found no stop, or it offered its help
abbrev pub waits_helping : List Entry → Bool
waits_helping es = each_before offered_help leaves es

-- the phase that the event read
abbrev pub phase_read : Step → ℕ → Option Phase
phase_read ReadPhase found = Some (phase_of found)
phase_read step found = None

-- the later one, if there is one
abbrev pub later_or : Option Phase → Option Phase → Option Phase
later_or None earlier = earlier
later_or (Some p) earlier = Some p

-- the phase as read last
abbrev pub last_phase : List Entry → Option Phase
last_phase [] = None
last_phase (e ∷ es) = later_or (last_phase es) (phase_read e.step e.found)

-- if the phase was read as Full, the seat knows that the heap is full
abbrev pub TellsFull : View → View → Type 0
TellsFull v w = IsTrue (saw_full (events v w)) → KnowsFull w

-- if the seat left the world, its section's position is this one
abbrev pub StoredAt : ℕ → View → View → Type 0
StoredAt done v w = IsTrue (some_event leaves (events v w)) → w.own.position ≡ done

-- the mutator goes on: it read the phase, never as Full, and its record has what it read last
pub record GoesOn (v w : View) : Type 0 where
  pub mutates : Mutates w
  pub read : IsTrue (is_some (last_phase (events v w)))
  pub seen : w.state.phase_seen ≡ last_phase (events v w)
  pub going : IsFalse (saw_full (events v w))

-- the heap is full: the mutator read it, has no cache, and has stored its position
pub record EndsFull (done : ℕ) (v w : View) : Type 0 where
  pub mutates : Mutates w
  pub read : IsTrue (saw_full (events v w))
  pub seen : w.state.phase_seen ≡ Some phases.Full
  pub cache : w.state.cache ≡ None
  pub position : w.own.position ≡ done

-- the seat has this cache, or none
abbrev pub HasCache : Option Cache → View → Type 0
HasCache None v = v.state.cache ≡ None
HasCache (Some h) v = IsCached h v

-- a step of an answer: the phase is read, and if the heap is full, the cache is given up and the position stored
abbrev pub answers : Step → Bool
answers ReadPhase = true
answers PublishCells = true
answers (AddStat which by down) = not (which == done_count)
answers ReleaseBlock = true
answers (StorePosition done) = true
answers step = false

-- a step of giving up a cache
abbrev pub retires : Step → Bool
retires PublishCells = true
retires (AddStat which by down) = not (which == done_count)
retires ReleaseBlock = true
retires step = false

-- the steps that give up this cache, in which these cells were made since the last were published; none if there is none
abbrev pub giving_up : Option Cache → ℕ → List Step
giving_up None used = []
giving_up (Some h) used = retiring_steps h used

-- the phase was read once, and not as Full; the mutator keeps its cache, and goes on after whatever it did before
pub record KeepsOn (handed kept : Option Cache) (v w : View) : Type 0 where
  pub same : kept ≡ handed
  pub cached : HasCache kept w
  pub looked : Took ReadPhase v w
  pub going : (u : View) → Ran u v → TellsFull u v → GoesOn u w

-- the answer of a mutator that looked whether the heap is full
abbrev pub AnswersTo : Safe → Option Cache → ℕ → View → View → Type 0
AnswersTo (safes.Going kept) handed done v w = KeepsOn handed kept v w
AnswersTo safes.Full handed done v w = EndsFull done v w × KnowsFull w

-- one look at the world, and one at the phase
abbrev pub LooksOnce : List Entry → Type 0
LooksOnce es = (found : ℕ) × (phase : ℕ) × (es ≡ event Observe found ∷ event ReadPhase phase ∷ [])

-- the mutator polled; if that found a stop, it gave up its cache, stored its position, left, offered its help and entered again, and else it has what it had; it
-- popped cells and cleared cards only in stops, by turns of help
pub record GivesWay (handed kept : Option Cache) (done : ℕ) (v w : View) : Type 0 where
  pub out : GoesOut v w
  pub cached : HasCache kept w
  pub polled : IsTrue (some_event polls (events v w))
  pub same : kept ≡ (if poll_found_stop (events v w) then None else handed)
  pub position : IsTrue (poll_found_stop (events v w)) → (w.own.position ≡ done) × IsTrue (some_event leaves (events v w))
  pub waits : IsTrue (waits_helping (events v w))
  pub looks : IsFalse (poll_found_stop (events v w)) → (found : ℕ) × (events v w ≡ event Observe found ∷ [])
  pub pops : IsTrue (works_in_stops (events v w))
  pub helps : HelpsInTurns v w

-- the mutator polled; if the first poll found a stop, it stored its position, left, offered its help and gave up its cache, and else it has what it had, and did
-- nothing but look at the world and at the phase
pub record PassesSafely (handed kept : Option Cache) (done : ℕ) (v w : View) : Type 0 where
  pub goes_on : GoesOn v w
  pub cached : HasCache kept w
  pub same : kept ≡ (if poll_found_stop (events v w) then None else handed)
  pub position : IsTrue (poll_found_stop (events v w)) → (w.own.position ≡ done) × IsTrue (some_event leaves (events v w))
  pub looks : IsFalse (poll_found_stop (events v w)) → LooksOnce (events v w)

-- what a safe point answers: the mutator goes on, or the heap is full
abbrev pub SafeTo : Safe → Option Cache → ℕ → View → View → Type 0
SafeTo (safes.Going kept) handed done v w = PassesSafely handed kept done v w
SafeTo safes.Full handed done v w = EndsFull done v w

-- a drain began in which no cell was marked, and the cycle ended exactly; the position is stored, as at each stop
pub record Collects (done : ℕ) (v w : View) : Type 0 where
  pub goes_on : GoesOn v w
  pub cache : w.state.cache ≡ None
  pub position : w.own.position ≡ done
  pub collected : IsTrue (collects (events v w))
  pub exact : EndsExactly v w

-- what a precise collection answers: the mutator goes on without a cache, or the heap is full
abbrev pub CollectsTo : Safe → ℕ → View → View → Type 0
CollectsTo (safes.Going None) done v w = Collects done v w
CollectsTo (safes.Going (Some h)) done v w = ⊥
CollectsTo safes.Full done v w = EndsFull done v w
