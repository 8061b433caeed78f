-- A counter and a lock among other objects, and what a lock guards.
use Rattle.std.specs.Prelude.{ℕ, zero, suc, ◌≡◌, ◌≢◌, ◌+◌, ◌<◌, ◌≤◌, ◌==◌, List, [], Bool, true, false, Some, IsTrue, IsFalse, length, slice_get, take}
use Rattle.plain_heap.specs.Paths.{Name}
use Rattle.mark_core.specs.Steps.{Core, run_of}
use Rattle.mark_core.specs.declared.kinds.Event.{Event}
use Rattle.mark_core.specs.declared.kinds.Step.{Step}
use Rattle.mark_core.specs.declared.kinds.Step.TheVariants.{ExchangeValue, StoreValue}
use Rattle.gc_table.specs.AgreementLaws.{world_run}
use Rattle.gc_table.specs.Log.{all_steps}
use Rattle.gc_table.specs.RunWorlds.{World, WorldObject, object_of}
use Rattle.gc_table.specs.Single.{is_inside, takes_turns, won_count}
use Rattle.gc_table.specs.declared.view.Entry.{Entry}
use Rattle.heap_laws.specs.Named.{IsRunOn, acts_on, log_on}

-- the step stores no value, and exchanges one for the next only
abbrev pub only_raises : Step → Bool
only_raises (StoreValue v n) = false
only_raises (ExchangeValue v m n) = n == m + 1
only_raises step = true

-- how many exchanges of values the logs of this many seats say were won
abbrev pub all_won : ℕ → (ℕ → List Entry) → ℕ
all_won zero logs = 0
all_won (suc n) logs = won_count (logs n) + all_won n logs

-- an object whose value is only raised, whatever else threads make and do: it has grown by as many exchanges as the seats' logs on it say were won
abbrev pub CounterByName : Type 0
CounterByName =
    (c : Core) (world : World) (es : List Event) → IsRunOn c world es → (name : Name) (object : WorldObject) → object_of world name ≡ Some object → ((i : ℕ) → IsTrue (all_steps only_raises (log_on name i es c world)))
    → (seats : ℕ) → ((i : ℕ) → seats ≤ i → log_on name i es c world ≡ [])
    → (after : WorldObject) × (object_of (world_run es c world) name ≡ Some after) × (after.value ≡ object.value + all_won seats (λ i. log_on name i es c world))

-- the step stores no value
abbrev pub stores_none : Step → Bool
stores_none (StoreValue v n) = false
stores_none step = true

-- an object that threads take for a lock: who is outside exchanges its value only from 0 to 1, and who came in only from 1 to 0
pub record IsLock (c : Core) (world : World) (es : List Event) (name : Name) : Type 0 where
  pub run : IsRunOn c world es
  pub object : WorldObject
  pub there : object_of world name ≡ Some object
  pub free : object.value ≡ 0
  pub turns : (i : ℕ) → IsTrue (takes_turns false (log_on name i es c world))
  pub unstored : (i : ℕ) → IsTrue (all_steps stores_none (log_on name i es c world))

-- seat i is inside after the first k events, by its log on the lock
abbrev pub inside : Core → World → List Event → Name → ℕ → ℕ → Bool
inside c world es name k i = is_inside false (log_on name i (take k es) c world)

-- no two are inside, after whatever number of events, whatever else threads make and do
abbrev pub LockByName : Type 0
LockByName =
    (c : Core) (world : World) (es : List Event) (name : Name) → IsLock c world es name → (k i j : ℕ) → IsTrue (inside c world es name k i) → IsTrue (inside c world es name k j) → i ≡ j

-- seat i comes in by the event after the first k
abbrev pub ComesIn : Core → World → List Event → Name → ℕ → ℕ → Type 0
ComesIn c world es name i k = IsFalse (inside c world es name k i) × IsTrue (inside c world es name (k + 1) i)

-- it goes out by the event after the first l, and has been inside since it came in
pub record Visits (c : Core) (world : World) (es : List Event) (name : Name) (i k l : ℕ) : Type 0 where
  pub comes : ComesIn c world es name i k
  pub later : k < l
  pub stays : (m : ℕ) → k < m → m ≤ l → IsTrue (inside c world es name m i)
  pub goes : IsFalse (inside c world es name (l + 1) i)

-- what is guarded by a lock: objects in which only who is inside stores
pub record IsGuarded (c : Core) (world : World) (es : List Event) (name : Name) (guarded : Name → Bool) : Type 0 where
  pub lock : IsLock c world es name
  -- the lock guards other objects
  pub others : IsFalse (guarded name)
  pub only_inside : (k : ℕ) (e : Event) (object : Name) → slice_get es k ≡ Some e → IsTrue (guarded object)
      → IsTrue (acts_on (world_run (take k es) c world) (slice_get (run_of (take k es) c).seats e.seat) e.step object) → IsTrue (inside c world es name k e.seat)

-- while a seat is inside nobody else changes what is guarded, and while nobody is inside it stays
abbrev pub GuardsByName : Type 0
GuardsByName =
    (c : Core) (world : World) (es : List Event) (name : Name) (guarded : Name → Bool) → IsGuarded c world es name guarded → (k : ℕ) (e : Event) → slice_get es k ≡ Some e → (i : ℕ) → IsTrue (inside c world es name k i) → i ≢ e.seat
    → (other : Name) (object : WorldObject) → IsTrue (guarded other) → object_of (world_run (take k es) c world) other ≡ Some object → object_of (world_run (take (k + 1) es) c world) other ≡ Some object

-- these objects of the first heap are as they were in the second
abbrev pub SameGuarded : (Name → Bool) → World → World → Type 0
SameGuarded guarded before after = (other : Name) (object : WorldObject) → IsTrue (guarded other) → object_of before other ≡ Some object → object_of after other ≡ Some object

-- a property of what is guarded that each visit restores
pub record IsRestored (c : Core) (world : World) (es : List Event) (name : Name) (guarded : Name → Bool) (whole : World → Bool) : Type 0 where
  pub guards : IsGuarded c world es name guarded
  pub begins : IsTrue (whole world)
  pub frame : (before after : World) → SameGuarded guarded before after → IsTrue (whole before) → IsTrue (whole after)
  pub restores : (i k l : ℕ) → Visits c world es name i k l → IsTrue (whole (world_run (take k es) c world)) → IsTrue (whole (world_run (take l es) c world))

-- whoever comes in finds it, and whoever goes out leaves it, for every schedule
pub record WholeByName : Type 0 where
  pub found : (c : Core) (world : World) (es : List Event) (name : Name) (guarded : Name → Bool) (whole : World → Bool) → IsRestored c world es name guarded whole → (i k : ℕ) → k < length es → ComesIn c world es name i k
      → IsTrue (whole (world_run (take k es) c world)) × IsTrue (whole (world_run (take (k + 1) es) c world))
  pub left : (c : Core) (world : World) (es : List Event) (name : Name) (guarded : Name → Bool) (whole : World → Bool) → IsRestored c world es name guarded whole → (i k l : ℕ) → l < length es → Visits c world es name i k l
      → IsTrue (whole (world_run (take l es) c world)) × IsTrue (whole (world_run (take (l + 1) es) c world))
