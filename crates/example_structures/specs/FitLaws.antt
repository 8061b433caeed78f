-- What the calls of a mutator do to a queue of which all that was done before fits.
use Rattle.std.specs.Prelude.{ℕ, ◌≡◌, ◌≢◌, ◌<◌, List, ◌∷◌, ◌++◌, IsTrue}
use Rattle.mark_core.specs.Numbers.{section_variables}
use Rattle.mark_core.specs.Steps.{Core}
use Rattle.mark_core.specs.declared.kinds.Event.{Event}
use Rattle.gc_table.specs.Lending.{leaves_variable}
use Rattle.gc_table.specs.Log.{all_steps}
use Rattle.gc_table.specs.Past.{log_from}
use Rattle.gc_table.specs.Seats.{state_of, view_of}
use Rattle.gc_table.specs.declared.view.Entry.{Entry}
use Rattle.mutator_ops.specs.Sharing.{LendsFound, SetsVariable}
use Rattle.seat_turns.specs.Sharing.{FollowsField, MakesSharedAfter}
use Rattle.queue_laws.specs.QueueLogs.{AreHands, fits}
use Rattle.shared_heap.specs.Calls.{FindsValue, IsSame}
use Rattle.shared_heap.specs.declared.mutator.SharedMutator.{SharedMutator}
use Rattle.example_structures.specs.Fitting.{AddsFitting, Began, FitsSince, hands, since}

-- where the mutator is now
abbrev pub began : SharedMutator → Began
began m = record { fields = (view_of m.seat).shape.fields; seat = state_of m.seat; log = (view_of m.seat).log }

-- the log of seat i in a run is what the mutator did since this record and this log
pub record IsLogIn (c : Core) (es : List Event) (i : ℕ) (b : Began) (m : SharedMutator) : Type 0 where
  pub fields : b.fields ≡ c.shape.fields
  pub log : since b m ≡ log_from i c es

pub record FitsByCalls : Type 0 where
  -- the variables of a queue's calls are those of the law
  pub are_hands : (q : ℕ) → q < 20 → AreHands (hands q)
  -- of a mutator that did nothing yet all fits
  pub starts : (q : ℕ) (m : SharedMutator) → FitsSince q (began m) m
  -- if all fits that its mutator did, so does each entry of its log, given the log before it
  pub fit : (q : ℕ) (c : Core) (es : List Event) (i : ℕ) (b : Began) (m : SharedMutator) → IsLogIn c es i b m → FitsSince q b m → (before after : List Entry) (x : Entry) → log_from i c es ≡ before ++ x ∷ after → IsTrue (fits c.shape.fields b.seat (hands q) before x.step)
  -- then it left the queue's variable
  pub left : (q : ℕ) (b : Began) (m : SharedMutator) → FitsSince q b m → IsTrue (all_steps (leaves_variable q) (since b m))
  -- safe points, entering and leaving; a value that is read; a variable, other than the queue's, that gets a field, what section 0 lends, another's reference or nil;
  -- an object that is made
  pub same : (q : ℕ) (x y : SharedMutator) → IsSame x y → AddsFitting q x y
  pub reads : (q : ℕ) (x y : SharedMutator) (v n : ℕ) → FindsValue v n (view_of x.seat) (view_of y.seat) → AddsFitting q x y
  pub gets : (q : ℕ) (x y : SharedMutator) (w v i : ℕ) → w ≢ q → FollowsField w v i (view_of x.seat) (view_of y.seat) → AddsFitting q x y
  pub lends : (q : ℕ) (x y : SharedMutator) (w v : ℕ) → w ≢ q → LendsFound w v (view_of x.seat) (view_of y.seat) → AddsFitting q x y
  pub assigns : (q : ℕ) (x y : SharedMutator) (w r : ℕ) → w ≢ q → SetsVariable w r (view_of x.seat) (view_of y.seat) → AddsFitting q x y
  pub makes : (q : ℕ) (x y : SharedMutator) (w n : ℕ) → w < section_variables → w ≢ q → MakesSharedAfter w n (view_of x.seat) (view_of y.seat) → AddsFitting q x y
