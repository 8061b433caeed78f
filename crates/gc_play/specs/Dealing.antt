-- The warehouses, dealt out among workers.
use Rattle.std.specs.Prelude.{ℕ, zero, suc, ◌≡◌, ◌+◌, ◌-◌, ◌%◌, ◌==◌, ◌<◌, ◌≤◌, ◌⊎◌, if◌then◌else◌, List, [], ◌∷◌, ◌++◌, length, map, All, Bool, true, false, slice_index_or}
use Rattle.plain_heap.specs.Sections.{Sections}
use Rattle.gc_table.specs.Seats.{view_of}
use Rattle.gc_table.specs.declared.seat.Heap.{Heap}
use Rattle.warehouse.specs.declared.mutator.Mutator.{Mutator}
use Rattle.play_end.specs.declared.played.Played.{Played}
use Rattle.play_end.specs.declared.played.Played.TheVariants as ends
use Rattle.gc_play.specs.declared.workers.Worker.{Worker}
use Rattle.gc_play.specs.Standing.{PlayedTo, StoppedIn}

-- of the first k warehouses, those that worker j of n plays, in order
abbrev pub share : ℕ → ℕ → ℕ → List ℕ
share n j zero = []
share n j (suc k) = if k % n == j then share n j k ++ (k + 1) ∷ [] else share n j k

-- the number of a section's seat
abbrev pub seat_number : Mutator → ℕ
seat_number m = (view_of m.seat).state.number

-- the sections of a worker
abbrev pub sections_of_worker : Worker → List ℕ
sections_of_worker x = map seat_number x.mutators.items

-- a warehouse of the script
pub record IsWarehouse (s : Sections) (w : ℕ) : Type 0 where
  pub first : 1 ≤ w
  pub last : w ≤ length s.warehouses

-- a warehouse played its first z parts
pub record StandsAt (h : Heap) (s : Sections) (z : ℕ) (m : Mutator) : Type 0 where
  pub warehouse : IsWarehouse s (seat_number m)
  pub played : PlayedTo h s (seat_number m) z m

-- a warehouse stopped within part z, since the heap is full
pub record WarehouseStopsAt (h : Heap) (s : Sections) (z : ℕ) (m : Mutator) : Type 0 where
  pub warehouse : IsWarehouse s (seat_number m)
  pub stopped : StoppedIn h s (seat_number m) z m

-- how a warehouse's part ends
abbrev pub OneEnds : Played → Heap → Sections → ℕ → Mutator → Type 0
OneEnds ends.Done h s z m = StandsAt h s z m
OneEnds ends.Full h s z m = WarehouseStopsAt h s z m

-- a warehouse in a season that was not played to its end: it did not begin its part, or played it, or stopped within it
abbrev pub HaltsAt : Heap → Sections → ℕ → Mutator → Type 0
HaltsAt h s z m = StandsAt h s (z - 1) m ⊎ StandsAt h s z m ⊎ WarehouseStopsAt h s z m

-- P holds of some element
abbrev pub SomeAt : {X : Type 0} → (X → Type 0) → List X → Type 0
SomeAt {X} P xs = (k : ℕ) × (k < length xs) × ((d : X) → P (slice_index_or xs k d))

-- what a worker's season comes to, by whether one of its warehouses found the heap full
abbrev pub ShareEnds : Bool → Heap → Sections → ℕ → List Mutator → Type 0
ShareEnds false h s z ms = All (StandsAt h s z) ms
ShareEnds true h s z ms = All (HaltsAt h s z) ms × SomeAt (WarehouseStopsAt h s z) ms

-- worker j of n has its share of the first k warehouses
pub record IsDealt (n k : ℕ) (ws : List Worker) : Type 0 where
  pub count : length ws ≡ n
  pub each : (j : ℕ) (d : Worker) → j < n → sections_of_worker (slice_index_or ws j d) ≡ share n j k

-- each warehouse of each worker is like this
abbrev pub EachOne : (Mutator → Type 0) → List Worker → Type 0
EachOne P ws = All (λ (x : Worker). All P x.mutators.items) ws

-- worker t lost its last mutator, which is m
pub record TakesLast (t : ℕ) (m : Mutator) (old new : List Worker) : Type 0 where
  pub turn : t < length old
  pub count : length new ≡ length old
  pub last : (d : Worker) → (slice_index_or old t d).mutators.items ≡ (slice_index_or new t d).mutators.items ++ m ∷ []
  pub others : (j : ℕ) (d : Worker) → (j ≡ t → ⊥) → slice_index_or new j d ≡ slice_index_or old j d

-- some worker has a warehouse that found the heap full
abbrev pub SomeFull : List Worker → Type 0
SomeFull ws = SomeAt (λ (x : Worker). x.full ≡ true) ws

-- each worker has the same warehouses
pub record SameShares (xs ys : List Worker) : Type 0 where
  pub count : length ys ≡ length xs
  pub each : (j : ℕ) (d : Worker) → j < length xs → sections_of_worker (slice_index_or ys j d) ≡ sections_of_worker (slice_index_or xs j d)
