-- What is so of a world in which two threads changed a pair behind a lock.
use Rattle.std.specs.Prelude.{ℕ, ◌≡◌, ◌+◌, ◌<◌, ◌≤◌, List, [], ◌∷◌, Bool, false, Option, Some, IsFalse, IsTrue, length, slice_get, take}
use Rattle.std.specs.Arc.{arc_value}
use Rattle.plain_heap.specs.Paths.{Name}
use Rattle.mark_core.specs.declared.kinds.Event.{Event}
use Rattle.mark_core.specs.declared.kinds.Shape.{Shape}
use Rattle.mark_core.specs.declared.kinds.Step.TheVariants.{ReadOwn}
use Rattle.mark_core.specs.declared.seat.SeatState.{SeatState}
use Rattle.mark_core.specs.Layout.{words_of}
use Rattle.gc_table.specs.AgreementLaws.{found_of}
use Rattle.gc_table.specs.Past.{log_of}
use Rattle.gc_table.specs.RunWorlds.{name_at, referred}
use Rattle.gc_table.specs.Runs.{core_after}
use Rattle.gc_table.specs.Seats.{view_of}
use Rattle.gc_table.specs.Sharing.{heap_after_events}
use Rattle.gc_table.specs.Single.{is_inside, won_count}
use Rattle.gc_table.specs.declared.words.Words.{Words}
use Rattle.heap_laws.specs.Pairs.{IsWholePair}
use Rattle.shared_heap.specs.Closing.{IsSharedEnd, all_seats}
use Rattle.shared_heap.specs.Rooting.{spares_fields}
use Rattle.shared_heap.specs.Threads.{IsWhole}
use Rattle.shared_heap.specs.declared.mutator.SharedMutator.{SharedMutator}
use Rattle.shared_heap.specs.declared.world.SharedWorld.{SharedWorld}

-- seat i has the lock after the first k of these events
abbrev pub has_lock : Shape → List Event → ℕ → ℕ → Bool
has_lock sh es k i = is_inside false (log_of sh (take k es) i)

-- no two have the lock at once, after whatever number of these events
abbrev pub IsAlone : Shape → List Event → Type 0
IsAlone sh es = (k i j : ℕ) → IsTrue (has_lock sh es k i) → IsTrue (has_lock sh es k j) → i ≡ j

-- seat i comes in by the event after the first k, and after the first m it has the lock still and has stored in no field since
pub record IsVisit (sh : Shape) (es : List Event) (i k m : ℕ) : Type 0 where
  pub outside : IsFalse (has_lock sh es k i)
  pub later : k < m
  pub within : m ≤ length es
  pub inside : (n : ℕ) → k < n → n ≤ m → IsTrue (has_lock sh es n i)
  pub unstored : (n : ℕ) (e : Event) → k < n → n < m → slice_get es n ≡ Some e → e.seat ≡ i → IsTrue (spares_fields e.step)

-- from the moment at which a seat comes in until it stores in a field itself, both fields of the root are alike, whatever others do
abbrev pub FindsWhole : Shape → List Event → Name → Type 0
FindsWhole sh es root = (k m i : ℕ) → IsVisit sh es i k m → IsWholePair (heap_after_events sh es m) root

-- some seat reads field f of the root by the event after the first n, and finds a word that refers to this
pub record Reads (sh : Shape) (es : List Event) (root : Name) (n f : ℕ) (to : Option Name) : Type 0 where
  pub event : Event
  pub there : slice_get es n ≡ Some event
  pub seat : SeatState
  pub took : slice_get (core_after sh 1 es n).seats event.seat ≡ Some seat
  pub cell : ℕ
  pub step : event.step ≡ ReadOwn cell f
  pub names : name_at (words_of (core_after sh 1 es n).shape (core_after sh 1 es n).words).identities cell ≡ root
  pub found : referred (words_of (core_after sh 1 es n).shape (core_after sh 1 es n).words).identities (found_of (core_after sh 1 es n) (Some seat) event.step) ≡ to

-- so what is read of field 0 in this time and what is read of field 1 are the same
abbrev pub ReadsAlike : Shape → List Event → Name → Type 0
ReadsAlike sh es root =
    (k m i a b : ℕ) (x y : Option Name) → IsVisit sh es i k m → k < a → a < m → k < b → b < m → Reads sh es root a 0 x → Reads sh es root b 1 y → x ≡ y

-- the words are the end of one run of two mutators and nobody else, each of which took the lock this many times and left it as often
pub record IsGuarded (n : ℕ) (w : Words) : Type 0 where
  pub world : SharedWorld
  pub first : SharedMutator
  pub second : SharedMutator
  pub ended : IsSharedEnd world (first ∷ second ∷ []) [] w
  pub past : List Event
  pub whole : IsWhole (arc_value world.heap).shape (all_seats world ended.rest []) w past
  pub visits : (won_count (view_of first.seat).log ≡ n + n) × (won_count (view_of second.seat).log ≡ n + n)
  pub alone : IsAlone (arc_value world.heap).shape past
  pub pair : FindsWhole (arc_value world.heap).shape past whole.root × ReadsAlike (arc_value world.heap).shape past whole.root
