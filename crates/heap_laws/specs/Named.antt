-- An object by its name, among others: what each seat does to it, of all that the seat's log has.
use Rattle.std.specs.Prelude.{ℕ, ◌≡◌, ◌+◌, ◌≤◌, if◌then◌else◌, List, [], ◌∷◌, ◌++◌, Bool, false, Option, None, Some, length, slice_get, take, drop}
use Rattle.plain_heap.specs.Paths.{Name}
use Rattle.mark_core.specs.Laws.{IsCore}
use Rattle.mark_core.specs.Steps.{Core, after_event, run_of}
use Rattle.mark_core.specs.declared.kinds.Event.{Event}
use Rattle.mark_core.specs.declared.kinds.Shape.{Shape}
use Rattle.mark_core.specs.declared.kinds.Step.{Step}
use Rattle.mark_core.specs.declared.kinds.Step.TheVariants.{ExchangeField, ExchangeValue, StoreField, StoreValue}
use Rattle.mark_core.specs.declared.seat.SeatState.{SeatState}
use Rattle.gc_table.specs.Agreement.{AgreesWith}
use Rattle.gc_table.specs.AgreementLaws.{world_after, world_run}
use Rattle.gc_table.specs.Past.{adds, log_from}
use Rattle.gc_table.specs.RunWorlds.{World, is_same, own_section, stored}
use Rattle.gc_table.specs.Runs.{AreAllowed, core_after}
use Rattle.gc_table.specs.Sharing.{heap_after_events}
use Rattle.gc_table.specs.declared.view.Entry.{Entry}
use Rattle.heap_laws.specs.Moments.{IsHistory}

-- events that are allowed in their turn from a state that agrees with a heap on, each of whose states meets the rule of the core
pub record IsRunOn (c : Core) (world : World) (es : List Event) : Type 0 where
  pub agrees : AgreesWith c world
  pub allowed : AreAllowed c es
  pub sound : (n : ℕ) → IsCore (run_of (take n es) c)

-- the events of a history from the one after the first k on
abbrev pub IsTail : Shape → List Event → ℕ → Type 0
IsTail sh es k =
    let c = core_after sh 1 es k in
    let world = heap_after_events sh es k in
    IsRunOn c world (drop k es) × ((l : ℕ) → (run_of (take l (drop k es)) c ≡ core_after sh 1 es (k + l)) × (world_run (take l (drop k es)) c world ≡ heap_after_events sh es (k + l)))

-- the variable through which a step stores in an object, or exchanges there
abbrev pub through : Step → Option ℕ
through (StoreField v i x) = Some v
through (StoreValue v n) = Some v
through (ExchangeField v i x y) = Some v
through (ExchangeValue v m n) = Some v
through step = None

-- the step is one through a variable that refers to the object of this name, if the seat's record was looked up
abbrev pub acts_on : World → Option SeatState → Step → Name → Bool
acts_on world None step name = false
acts_on world (Some s) step name = is_same (stored world (own_section s) (through step)) (Some name)

-- what an event adds to what seat i did to the object
abbrev pub adds_on : Name → ℕ → Core → World → Event → List Entry
adds_on name i c world e = if acts_on world (slice_get c.seats e.seat) e.step name then adds i c e else []

-- what seat i did to the object: that part of what these events add to its log
abbrev pub log_on : Name → ℕ → List Event → Core → World → List Entry
log_on name i [] c world = []
log_on name i (e ∷ es) c world = adds_on name i c world e ++ log_on name i es (after_event c e) (world_after c e world)

-- the entries that are marked
abbrev pub marked : List Bool → List Entry → List Entry
marked [] es = []
marked (b ∷ bs) [] = []
marked (b ∷ bs) (e ∷ es) = if b then e ∷ marked bs es else marked bs es

-- histories have tails that are runs; and what a seat did to an object is a part of its log, in order
pub record NamedLogs : Type 0 where
  pub tails : (sh : Shape) (es : List Event) → IsHistory sh es → (k : ℕ) → k ≤ length es → IsTail sh es k
  pub parts : (name : Name) (i : ℕ) (es : List Event) (c : Core) (world : World) → (marks : List Bool) × (length marks ≡ length (log_from i c es)) × (log_on name i es c world ≡ marked marks (log_from i c es))
