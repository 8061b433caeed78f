-- What all threads' marking and cleaning come to until a seat ends a cycle: since any earlier moment without a cycle, and since an earlier end of its own. So a
-- runtime's author reads here what was done between two of a mutator's collections, at most.
use Rattle.std.specs.Prelude.{ℕ, ◌≡◌, List, [], ◌∷◌, ◌++◌, IsTrue}
use Rattle.mark_core.specs.Steps.{Core, run_of, start_core}
use Rattle.mark_core.specs.declared.kinds.Event.{Event}
use Rattle.mark_core.specs.declared.kinds.Phase.TheVariants.{Idle}
use Rattle.mark_core.specs.declared.kinds.Shape.{Shape}
use Rattle.mark_core.specs.declared.kinds.Step.{Step}
use Rattle.mark_core.specs.declared.kinds.Step.TheVariants.{StorePhase}
use Rattle.gc_table.specs.Log.{events}
use Rattle.gc_table.specs.Past.{log_of}
use Rattle.gc_table.specs.Running.{Ran}
use Rattle.gc_table.specs.Seats.{Across, did, view_of}
use Rattle.gc_table.specs.Taking.{after, Finds}
use Rattle.gc_table.specs.declared.seat.HeapSeat.{HeapSeat}
use Rattle.gc_table.specs.declared.view.Entry.{Entry}
use Rattle.gc_table.specs.declared.view.View.{View}
use Rattle.garbage_laws.specs.Calls.{ended_cycle}
use Rattle.work_laws.specs.Cycles.{IsBoundedCycle, IsIdle}
use Rattle.work_laws.specs.Tidy.{TidyCyclesAreFew}
use Rattle.gc_cycle.specs.Cycles.{collects}

-- among these entries is e, which ended a cycle, behind the entries `own`
pub record IsEndIn (own : List Entry) (e : Entry) (es : List Entry) : Type 0 where
  pub later : List Entry
  pub parts : es ≡ own ++ e ∷ later
  pub moves : e.step ≡ StorePhase Idle

-- the state of a heap of this shape after its first events
abbrev pub state_after : Shape → List Event → Core
state_after sh first = run_of first (start_core sh 1)

-- as the seat takes this step: whatever earlier moment is chosen at which no cycle was under way, all that threads have done since then is bounded
abbrev pub IsBoundedSinceIdle : (step : Step) (n : ℕ) (v : View) → Finds step n v → Type 0
IsBoundedSinceIdle step n v f = (first since : List Event) → f.past ≡ first ++ since → IsIdle (state_after f.state.core.shape first) → IsBoundedCycle (state_after f.state.core.shape first) since

-- in a call from u to w the seat took the step of this entry, which ended a cycle, after the entries `own`
pub record WorksUntil (own : List Entry) (e : Entry) (u w : View) : Type 0 where
  pub before : View
  pub finds : Finds (StorePhase Idle) e.found before
  pub has : before.log ≡ u.log ++ own
  pub came : Ran u before
  pub went : Ran (after (StorePhase Idle) e.found before) w
  pub bounded : IsBoundedSinceIdle (StorePhase Idle) e.found before finds

-- as the seat takes this step: what has happened is parted by the event of entry e of its log, behind the entries `own`, and that event ended a cycle; all that
-- threads have done since then is bounded
pub record WorksSince (own : List Entry) (e : Entry) (step : Step) (n : ℕ) (v : View) (f : Finds step n v) : Type 0 where
  pub first : List Event
  pub ended : Event
  pub since : List Event
  pub parts : f.past ≡ first ++ ended ∷ since
  pub by : ended.seat ≡ f.index
  pub moves : ended.step ≡ StorePhase Idle
  pub place : log_of f.state.core.shape first f.index ≡ own
  pub adds : log_of f.state.core.shape (first ++ ended ∷ []) f.index ≡ own ++ e ∷ []
  pub idle : IsIdle (state_after f.state.core.shape (first ++ ended ∷ []))
  pub bounded : IsBoundedCycle (state_after f.state.core.shape (first ++ ended ∷ [])) since

-- a call that began at u ended a cycle by entry e, and a later one, from x to y, by entry d: from the one end to the other
pub record WorksFrom (u : View) (own : List Entry) (e : Entry) (x y : View) (more : List Entry) (d : Entry) : Type 0 where
  pub until : WorksUntil more d x y
  pub since : WorksSince (u.log ++ own) e (StorePhase Idle) d.found until.before until.finds

-- a collection from s to t ended a cycle, and so did a later one, from x to y: from the one end to the other
pub record WorksAgain (s t x y : HeapSeat) : Type 0 where
  pub own : List Entry
  pub end : Entry
  pub ended : IsEndIn own end (did s t)
  pub more : List Entry
  pub next : Entry
  pub ends : IsEndIn more next (did x y)
  pub works : WorksFrom (view_of s) own end (view_of x) (view_of y) more next

pub record CollectionsAreBounded : Type 0 where
  -- a call that ended a cycle has an entry that did
  pub ends : (es : List Entry) → IsTrue (ended_cycle es) → (own : List Entry) × (e : Entry) × IsEndIn own e es
  -- until each end in a call, since any moment without a cycle
  pub calls : (u w : View) → Ran u w → (own : List Entry) (e : Entry) → IsEndIn own e (events u w) → WorksUntil own e u w
  -- until each step of a seat, since each end in its log
  pub since_own : (step : Step) (n : ℕ) (v : View) (f : Finds step n v) (own : List Entry) (e : Entry) → IsEndIn own e v.log → WorksSince own e step n v f
  -- until each end in a call, since each end in an earlier one
  pub again : (u w x y : View) → Ran u w → Ran w x → Ran x y → (own more : List Entry) (e d : Entry) → IsEndIn own e (events u w) → IsEndIn more d (events x y) → WorksFrom u own e x y more d
  -- so of two collections of a mutator's seat, as the clauses `ran` and `collected` tell them, whatever it did in between
  pub collected : (s t x y : HeapSeat) → Across Ran s t → IsTrue (collects (did s t)) → Across Ran t x → Across Ran x y → IsTrue (collects (did x y)) → WorksAgain s t x y
  -- each of these bounds is one by sizes, stores and claimed cells alone, if what was done is tidy
  pub few : TidyCyclesAreFew
