-- What the tracers did while seasons were played.
use Rattle.std.specs.Prelude.{ℕ, zero, suc, ◌≡◌, ◌+◌, ◌-◌, ◌*◌, ◌/◌, ◌<◌, ◌≤◌, List, [], ◌++◌, length, Some, slice_get, slice_index_or}
use Rattle.mark_core.specs.Start.{start_seat}
use Rattle.mark_core.specs.declared.kinds.Shape.{Shape}
use Rattle.mark_core.specs.declared.seat.SeatState.{SeatState}
use Rattle.gc_table.specs.declared.view.Entry.{Entry}
use Rattle.plain_heap.specs.Sections.{Sections}
use Rattle.gc_table.specs.Log.{events}
use Rattle.gc_table.specs.Seats.{view_of}
use Rattle.gc_table.specs.declared.seat.Heap.{Heap}
use Rattle.gc_table.specs.declared.seat.HeapSeat.{HeapSeat}
use Rattle.gc_play.specs.declared.season.Ended.{Ended}
use Rattle.gc_play.specs.declared.season.Ended.TheVariants as plays
use Rattle.gc_play.specs.Stays.{RestsUnchanged}
use Rattle.gc_play.specs.Turns.{HasTakenTurns, record_after}

-- how many parts were played at the end of season z: one a section and season
abbrev pub parts_by : Sections → ℕ → ℕ
parts_by s z = z * (1 + length s.warehouses)

-- y is the seat x after a run of a tracer's turns, at rest; the run ended when this many parts were played, or the heap was full
pub record TracedUntil (h : Heap) (until : ℕ) (x y : HeapSeat) : Type 0 where
  pub kept : RestsUnchanged h x y
  pub traced : HasTakenTurns h.shape until (view_of x).state (events (view_of x) (view_of y))

-- each of these seats traced until this many parts were played, or the heap was full
pub record AllTracedUntil (h : Heap) (until : ℕ) (xs ys : List HeapSeat) : Type 0 where
  pub count : length ys ≡ length xs
  pub each : (i : ℕ) (d : HeapSeat) → i < length xs → TracedUntil h until (slice_index_or xs i d) (slice_index_or ys i d)

-- how many turns of the warehouses were reached when the season was moved on so often: in each season the catalogue's turn comes first
abbrev pub turns_reached : ℕ → ℕ
turns_reached moved = (moved + 1) / 2

-- how often the season was moved on when a play ended in season z
abbrev pub MovedBy : Ended → ℕ → ℕ → Type 0
MovedBy plays.Done z moved = moved ≡ 2 * z
MovedBy plays.First z moved = (2 * z - 3 ≤ moved) × (moved ≤ 2 * z - 2)
MovedBy plays.Later z moved = (2 * z - 2 ≤ moved) × (moved ≤ 2 * z - 1)

-- what the tracers did in season z, if the season was moved on so often by its end: each traced until its parts were played if the warehouses had their turn, and
-- else did nothing
pub record SeasonTraced (h : Heap) (s : Sections) (z moved : ℕ) (xs ys : List HeapSeat) : Type 0 where
  pub reached : moved ≡ 2 * z - 1 → AllTracedUntil h (parts_by s z) xs ys
  pub unreached : moved < 2 * z - 1 → ys ≡ xs

-- each of them traced in each of the first z seasons
abbrev pub SeasonsTraced : Heap → Sections → ℕ → List HeapSeat → List HeapSeat → Type 0
SeasonsTraced h s zero xs ys = ys ≡ xs
SeasonsTraced h s (suc z) xs ys = (zs : List HeapSeat) × SeasonsTraced h s z xs zs × AllTracedUntil h (parts_by s (suc z)) zs ys

-- season by season, what a seat did that had this record at first: it traced in each of the first z seasons until its parts were played, and did nothing else
abbrev pub TracedSeasons : Shape → Sections → ℕ → SeatState → List Entry → Type 0
TracedSeasons sh s zero t es = es ≡ []
TracedSeasons sh s (suc z) t es =
    (before : List Entry) × (season : List Entry) × (es ≡ before ++ season) × TracedSeasons sh s z t before × HasTakenTurns sh (parts_by s (suc z)) (record_after sh t before) season

-- beside the seats of the sections there are this many of tracers, and each traced so from the start of the heap on
pub record TracersRan (s : Sections) (sh : Shape) (tracers z : ℕ) (seats : List HeapSeat) : Type 0 where
  pub count : length seats ≡ 1 + length s.warehouses + tracers
  pub each : (i : ℕ) (x : HeapSeat) → slice_get seats i ≡ Some x → 1 + length s.warehouses ≤ i → TracedSeasons sh s z (start_seat sh i) (view_of x).log

-- the seat of the catalogue moved the season on so often
abbrev pub HasMoved : ℕ → List HeapSeat → Type 0
HasMoved moved seats = (seat : HeapSeat) → slice_get seats 0 ≡ Some seat → (view_of seat).own.seasons ≡ moved

-- what the tracers did in a play that ended in season z, told by the logs of the seats at its end: each traced in each season whose warehouses had their turn
pub record EndTraced (r : Ended) (s : Sections) (sh : Shape) (tracers z : ℕ) (seats : List HeapSeat) : Type 0 where
  pub moved : ℕ
  pub moved_is : HasMoved moved seats
  pub ended : MovedBy r z moved
  pub traced : TracersRan s sh tracers (turns_reached moved) seats
