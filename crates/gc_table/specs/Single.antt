-- A heap with one object: whatever value threads exchange there is this object's, so the logs of the threads tell a counter and a lock.
use Rattle.std.specs.Prelude.{ℕ, ◌≡◌, ◌+◌, ◌≤◌, ◌==◌, ◌&&◌, ◌||◌, if◌then◌else◌, nat_lt, not, List, [], ◌∷◌, Bool, true, false, Some, IsTrue, length, slice_get, take}
use Rattle.plain_heap.specs.Paths.{Name}
use Rattle.mark_core.specs.declared.kinds.Event.{Event}
use Rattle.mark_core.specs.declared.kinds.Shape.{Shape}
use Rattle.mark_core.specs.declared.kinds.Step.{Step}
use Rattle.mark_core.specs.declared.kinds.Step.TheVariants.{ExchangeValue, StoreNew, StoreValue}
use Rattle.gc_table.specs.Laws.{IsRunOf}
use Rattle.gc_table.specs.Log.{all_steps}
use Rattle.gc_table.specs.Past.{log_of}
use Rattle.gc_table.specs.Seats.{view_of}
use Rattle.gc_table.specs.declared.seat.HeapSeat.{HeapSeat}
use Rattle.gc_table.specs.declared.view.Entry.{Entry}
use Rattle.gc_table.specs.declared.words.Words.{Words}
use Rattle.gc_table.specs.RunWorlds.{WorldObject, object_of}
use Rattle.gc_table.specs.Sharing.{heap_after_events}

-- the step makes an object
abbrev pub makes_object : ℕ → Step → Bool
makes_object fields (StoreNew c part word) = not (nat_lt part fields) && not (part == fields)
makes_object fields step = false

-- how many objects these events make
abbrev pub made_count : ℕ → List Entry → ℕ
made_count fields [] = 0
made_count fields (e ∷ es) = (if makes_object fields e.step then 1 else 0) + made_count fields es

-- the step leaves all values but by an exchange, and a new object has the value 0
abbrev pub leaves_values : ℕ → Step → Bool
leaves_values fields (StoreValue v n) = false
leaves_values fields (StoreNew c part word) = not (part == fields) || (word == 0)
leaves_values fields step = true

-- the step leaves all values, and a new object has the value 0
abbrev pub spares_values : ℕ → Step → Bool
spares_values fields (ExchangeValue v m n) = false
spares_values fields step = leaves_values fields step

-- these events make one object at most, of value 0, and change no value
pub record MakesOne (fields : ℕ) (es : List Entry) : Type 0 where
  pub made : made_count fields es ≤ 1
  pub values : IsTrue (all_steps (spares_values fields) es)

-- the logs of these seats, all there are, make one object at most, by the first seat, and leave values but by exchanges
pub record HasOne (sh : Shape) (seats : List HeapSeat) (es : List Event) : Type 0 where
  pub others : (i : ℕ) → length seats ≤ i → log_of sh es i ≡ []
  pub values : (i : ℕ) (s : HeapSeat) → slice_get seats i ≡ Some s → IsTrue (all_steps (leaves_values sh.fields) (view_of s).log)
  pub made : (i : ℕ) (s : HeapSeat) → slice_get seats i ≡ Some s → made_count sh.fields (view_of s).log ≤ (if i == 0 then 1 else 0)

-- an exchange of a value is one of a number for the next
abbrev pub raises : Step → Bool
raises (ExchangeValue v m n) = n == m + 1
raises step = true

-- the step exchanges a value
abbrev pub exchanges_value : Step → Bool
exchanges_value (ExchangeValue v m n) = true
exchanges_value step = false

-- how many exchanges of values these events have that were won
abbrev pub won_count : List Entry → ℕ
won_count [] = 0
won_count (e ∷ es) = (if exchanges_value e.step && e.won then 1 else 0) + won_count es

-- how many all logs have
abbrev pub all_won : List HeapSeat → ℕ
all_won [] = 0
all_won (s ∷ ss) = won_count (view_of s).log + all_won ss

-- if each exchange of a value is one of a number for the next, the value of the object at the end is the number of exchanges that the logs say were won
abbrev pub CounterTold : Type 0
CounterTold =
    (sh : Shape) (seats : List HeapSeat) (w : Words) (es : List Event) → IsRunOf sh seats w es → HasOne sh seats es → ((i : ℕ) (s : HeapSeat) → slice_get seats i ≡ Some s → IsTrue (all_steps raises (view_of s).log))
    → (name : Name) (object : WorldObject) → object_of (heap_after_events sh es (length es)) name ≡ Some object → object.value ≡ all_won seats

-- what an exchange that was won makes of whether its seat is inside: it is if it leaves the value 1
abbrev pub turned : Bool → Step → Bool → Bool
turned b (ExchangeValue v m n) won = if won then n == 1 else b
turned b step won = b

-- whether the seat of these events is inside after them, given whether it was before
abbrev pub is_inside : Bool → List Entry → Bool
is_inside b [] = b
is_inside b (e ∷ es) = is_inside (turned b e.step e.won) es

-- who is outside exchanges only 0 for 1, and who is inside only 1 for 0
abbrev pub takes_turn : Bool → Step → Bool
takes_turn b (ExchangeValue v m n) = if b then (m == 1) && (n == 0) else (m == 0) && (n == 1)
takes_turn b step = true

-- each exchange of a value in these events does so
abbrev pub takes_turns : Bool → List Entry → Bool
takes_turns b [] = true
takes_turns b (e ∷ es) = takes_turn b e.step && takes_turns (turned b e.step e.won) es

-- if each seat that is outside tries to exchange 0 for 1, and each that came in exchanges 1 for 0, no two are inside, after whatever number of events
abbrev pub LockHeld : Type 0
LockHeld =
    (sh : Shape) (seats : List HeapSeat) (w : Words) (es : List Event) → IsRunOf sh seats w es → HasOne sh seats es → ((i : ℕ) (s : HeapSeat) → slice_get seats i ≡ Some s → IsTrue (takes_turns false (view_of s).log))
    → (k i j : ℕ) → IsTrue (is_inside false (log_of sh (take k es) i)) → IsTrue (is_inside false (log_of sh (take k es) j)) → i ≡ j
