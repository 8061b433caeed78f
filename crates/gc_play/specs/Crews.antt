-- All seats of a play, in the hands of those that play.
use Rattle.std.specs.Prelude.{ℕ, zero, suc, ◌≡◌, ◌+◌, ◌-◌, ◌*◌, ◌<◌, ◌≤◌, ◌⊎◌, List, [], ◌++◌, length, map, All, false, None, Some, IsNone, IsTrue, IsFalse, slice_index_or, vec_len}
use Rattle.plain_heap.specs.Sections.{Sections, end_of, seasons}
use Rattle.plain_heap.specs.PlainRun.{plan_of}
use Rattle.play_report.specs.Report.{printed_of}
use Rattle.play_report.specs.declared.report.Part.{Part}
use Rattle.play_report.specs.declared.report.Said.{Said}
use Rattle.gc_table.specs.Rule.{KnowsFull}
use Rattle.gc_table.specs.Seats.{Sits, IsFresh, IsOutside, view_of}
use Rattle.gc_table.specs.declared.seat.Heap.{Heap}
use Rattle.gc_table.specs.declared.seat.HeapSeat.{HeapSeat}
use Rattle.gc_table.specs.declared.view.SectionState.{SectionState}
use Rattle.play_end.specs.Done.{HasPlayed, HasStoppedInPart, HasSaid}
use Rattle.play_end.specs.Ended.{CameTo}
use Rattle.play_end.specs.declared.played.Played.{Played}
use Rattle.play_end.specs.declared.played.Played.TheVariants as ends
use Rattle.gc_cycle.specs.Standing.{IsOut}
use Rattle.warehouse.specs.Turns.{KeepsPart}
use Rattle.warehouse.specs.declared.mutator.Mutator.{Mutator}
use Rattle.gc_play.specs.declared.crew.Catalogue.{Catalogue}
use Rattle.gc_play.specs.declared.crew.Catalogue.TheVariants as seats
use Rattle.gc_play.specs.declared.crew.Crew.{Crew}
use Rattle.gc_play.specs.declared.season.Ended.{Ended}
use Rattle.gc_play.specs.declared.season.Ended.TheVariants as plays
use Rattle.gc_play.specs.declared.workers.Worker.{Worker}
use Rattle.gc_play.specs.Dealing.{EachOne, IsDealt, StandsAt, HaltsAt, SomeAt}
use Rattle.gc_play.specs.Standing.{IsSeated, IsTracerSeat, PlayedTo, Rests}
use Rattle.gc_play.specs.Traced.{MovedBy}

-- each of these is what P says of its number, counted from n
abbrev pub Numbered : {X : Type 0} → (ℕ → X → Type 0) → ℕ → List X → Type 0
Numbered {X} P n xs = (i : ℕ) (d : X) → i < length xs → P (n + i) (slice_index_or xs i d)

-- the seat of the heap with this number has done nothing
pub record IsNewSeatOfPlay (h : Heap) (s : Sections) (n : ℕ) (x : HeapSeat) : Type 0 where
  pub sits : Sits h x
  pub fresh : IsFresh h.shape (plan_of s) n (view_of x)
  pub owned : IsFalse h.shape.sharing
  pub sections : h.shape.sections ≡ 1 + length s.warehouses
  pub fields : h.shape.fields ≡ s.fields
  pub objects : h.shape.objects ≡ 2000000

-- a heap that was made for a script, with all its seats
pub record IsMadeForScript (s : Sections) (h : Heap) (xs : List HeapSeat) : Type 0 where
  pub owned : IsFalse h.shape.sharing
  pub slots : h.shape.slots ≡ 0
  pub fields : h.shape.fields ≡ s.fields
  pub sections : h.shape.sections ≡ 1 + length s.warehouses
  pub enough : 1 + length s.warehouses ≤ length xs

-- the seat of section 0
abbrev pub seat_in : Catalogue → HeapSeat
seat_in (seats.Playing m) = m.seat
seat_in (seats.Absent x) = x

-- the catalogue with this seat
abbrev pub with_seat : Catalogue → HeapSeat → Catalogue
with_seat (seats.Playing m) y = seats.Playing (record m { seat = y })
with_seat (seats.Absent x) y = seats.Absent y

-- a stop changed nothing of the catalogue but its seat, which is outside again, and left what the section has come to
pub record LeavesCatalogue (h : Heap) (c d : Catalogue) : Type 0 where
  pub kept : d ≡ with_seat c (seat_in d)
  pub seat : Sits h (seat_in d) × IsOut (view_of (seat_in d))
  pub keeps : KeepsPart (view_of (seat_in c)) (view_of (seat_in d))

-- what section 0 came to
abbrev pub own_of : Catalogue → SectionState
own_of c = (view_of (seat_in c)).own

-- section 0 may go on after its first z parts, or has no parts
abbrev pub MayGoOn : Heap → Sections → ℕ → Catalogue → Type 0
MayGoOn h s z (seats.Playing m) = (IsNone s.catalogue → ⊥) × PlayedTo h s 0 z m
MayGoOn h s z (seats.Absent x) = IsNone s.catalogue

-- section 0 played its first z parts, and moved the season on so often
pub record CatalogueAt (h : Heap) (s : Sections) (z moved : ℕ) (c : Catalogue) : Type 0 where
  pub seated : IsSeated h s 0 (seat_in c)
  pub played : HasPlayed s 0 z (own_of c)
  pub moved_is : (own_of c).seasons ≡ moved
  pub goes_on : MayGoOn h s z c

-- section 0 stopped within part z, since the heap is full, and had moved the season on so often
pub record CatalogueStops (h : Heap) (s : Sections) (z moved : ℕ) (c : Catalogue) : Type 0 where
  pub seated : IsSeated h s 0 (seat_in c)
  pub moved_is : (own_of c).seasons ≡ moved
  pub at : ℕ
  pub stopped : HasStoppedInPart s 0 z at (own_of c)
  pub full : KnowsFull (view_of (seat_in c))

-- section 0 played its part z and moved the season on so often, and another stop found the heap full
pub record CatalogueWaits (h : Heap) (s : Sections) (z moved : ℕ) (c : Catalogue) : Type 0 where
  pub seated : IsSeated h s 0 (seat_in c)
  pub moved_is : (own_of c).seasons ≡ moved
  pub played : HasPlayed s 0 z (own_of c)

-- how the catalogue's part ends
abbrev pub CatalogueEnds : Played → Heap → Sections → ℕ → ℕ → Catalogue → Type 0
CatalogueEnds ends.Done h s z moved c = CatalogueAt h s z moved c
CatalogueEnds ends.Full h s z moved c = CatalogueStops h s z moved c

-- how a stop between two turns ends
abbrev pub TurnMoves : Played → Heap → Sections → ℕ → ℕ → Catalogue → Type 0
TurnMoves ends.Done h s z moved c = CatalogueAt h s z (moved + 1) c
TurnMoves ends.Full h s z moved c = CatalogueWaits h s z moved c × KnowsFull (view_of (seat_in c))

-- how a season begins: the turn is the catalogue's again, or that stop found the heap full
abbrev pub CatalogueStarts : Played → Heap → Sections → ℕ → Catalogue → Type 0
CatalogueStarts ends.Done h s z c = CatalogueAt h s (z - 1) (2 * z - 2) c
CatalogueStarts ends.Full h s z c = CatalogueStops h s z (2 * z - 3) c

-- how the last stop ends
abbrev pub CatalogueSettles : Played → Heap → Sections → ℕ → Catalogue → Type 0
CatalogueSettles ends.Done h s z c = CatalogueAt h s z (2 * z) c × IsTrue (own_of c).settled
CatalogueSettles ends.Full h s z c = CatalogueWaits h s z (2 * z - 1) c × KnowsFull (view_of (seat_in c))

-- the tracers' seats come after those of the sections
abbrev pub AreTracers : Heap → Sections → List HeapSeat → Type 0
AreTracers h s xs = Numbered (IsTracerSeat h) (1 + length s.warehouses) xs

-- the first stand in the others, after this many more
abbrev pub AreAfter : ℕ → List HeapSeat → List HeapSeat → Type 0
AreAfter n xs ys = (before : List HeapSeat) × (length before ≡ n) × (ys ≡ before ++ xs)

-- a seat at rest without a section
pub record IsAnyTracer (h : Heap) (x : HeapSeat) : Type 0 where
  pub rests : Rests h x
  pub section : (view_of x).state.section ≡ None

-- all sections played their first z parts, and the season was moved on so often
pub record IsCrew (h : Heap) (s : Sections) (z moved : ℕ) (c : Crew) : Type 0 where
  pub catalogue : CatalogueAt h s z moved c.catalogue
  pub some : 0 < vec_len c.workers
  pub dealt : IsDealt (vec_len c.workers) (length s.warehouses) c.workers.items
  pub played : EachOne (StandsAt h s z) c.workers.items
  pub going : All (λ (x : Worker). x.full ≡ false) c.workers.items
  pub tracers : AreTracers h s c.tracers.items

-- some warehouse knows that the heap is full
abbrev pub SomeKnows : List Worker → Type 0
SomeKnows ws = SomeAt (λ (x : Worker). SomeAt (λ (m : Mutator). KnowsFull (view_of m.seat)) x.mutators.items) ws

-- the catalogue's turn of season z found the heap full: the warehouses wait for theirs
pub record IsHaltedFirst (h : Heap) (s : Sections) (z : ℕ) (c : Crew) : Type 0 where
  pub moved : ℕ
  pub turn : MovedBy plays.First z moved
  pub catalogue : CatalogueStops h s z moved c.catalogue
  pub some : 0 < vec_len c.workers
  pub dealt : IsDealt (vec_len c.workers) (length s.warehouses) c.workers.items
  pub waiting : EachOne (StandsAt h s (z - 1)) c.workers.items
  pub tracers : AreTracers h s c.tracers.items

-- the warehouses' turn of season z, or a stop after a turn, found the heap full
pub record IsHaltedLater (h : Heap) (s : Sections) (z : ℕ) (c : Crew) : Type 0 where
  pub season : 0 < z
  pub moved : ℕ
  pub turn : MovedBy plays.Later z moved
  pub catalogue : CatalogueWaits h s z moved c.catalogue
  pub some : 0 < vec_len c.workers
  pub dealt : IsDealt (vec_len c.workers) (length s.warehouses) c.workers.items
  pub halted : EachOne (HaltsAt h s z) c.workers.items
  pub known : KnowsFull (view_of (seat_in c.catalogue)) ⊎ SomeKnows c.workers.items
  pub tracers : AreTracers h s c.tracers.items

-- how a season ends: the season was moved on twice in each one, but for once in the last so far
abbrev pub CrewEnds : Ended → Heap → Sections → ℕ → Crew → Type 0
CrewEnds plays.Done h s z c = IsCrew h s z (2 * z - 1) c
CrewEnds plays.First h s z c = IsHaltedFirst h s z c
CrewEnds plays.Later h s z c = IsHaltedLater h s z c

-- how a play ends: if all was played, the last stop was made
abbrev pub PlayEnds : Ended → Heap → Sections → ℕ → Crew → Type 0
PlayEnds plays.Done h s z c = IsCrew h s z (2 * z) c × IsTrue (own_of c.catalogue).settled
PlayEnds plays.First h s z c = IsHaltedFirst h s z c
PlayEnds plays.Later h s z c = IsHaltedLater h s z c

-- how the warehouses' turn of a season ends
abbrev pub SeasonTurnEnds : Played → Heap → Sections → ℕ → List Worker → Type 0
SeasonTurnEnds ends.Done h s z ws = EachOne (StandsAt h s z) ws × All (λ (x : Worker). x.full ≡ false) ws
SeasonTurnEnds ends.Full h s z ws = EachOne (HaltsAt h s z) ws × SomeKnows ws

-- where a warehouse is at the end of a play
abbrev pub WarehouseEndsAt : Ended → Heap → Sections → ℕ → Mutator → Type 0
WarehouseEndsAt plays.Done h s z m = StandsAt h s z m
WarehouseEndsAt plays.First h s z m = StandsAt h s (z - 1) m
WarehouseEndsAt plays.Later h s z m = HaltsAt h s z m

-- what a section came to, when a play ended
abbrev pub CameIn : Ended → Sections → ℕ → ℕ → SectionState → Type 0
CameIn plays.Done s z w y = HasPlayed s w z y
CameIn plays.First s z zero y = (k : ℕ) × HasStoppedInPart s 0 z k y
CameIn plays.First s z (suc w) y = HasPlayed s (suc w) (z - 1) y
CameIn plays.Later s z zero y = HasPlayed s 0 z y
CameIn plays.Later s z (suc w) y = CameTo s (suc w) z y

-- the seat is that of section w, as a play left it
pub record IsLeftOf (r : Ended) (s : Sections) (z w : ℕ) (x : HeapSeat) : Type 0 where
  pub section : (view_of x).state.section ≡ Some w
  pub plan_is : (view_of x).plan ≡ plan_of s
  pub came : CameIn r s z w (view_of x).own

-- the seat with this number, as a play left it
pub record IsSeatLeftBy (r : Ended) (h : Heap) (s : Sections) (z n : ℕ) (x : HeapSeat) : Type 0 where
  pub sits : Sits h x
  pub number : (view_of x).state.number ≡ n
  pub outside : IsOutside (view_of x)
  pub of_section : n ≤ length s.warehouses → IsLeftOf r s z n x

-- what was printed, dropped and placed is that of section w, if all was played
abbrev pub SaysOfSection : Ended → Sections → ℕ → ℕ → HeapSeat → Part → Type 0
SaysOfSection plays.Done s z w x p = HasSaid s w (end_of s w z) (map printed_of p.said.items) p.dropped p.places.items (view_of x).own
SaysOfSection plays.First s z w x p = Unit {0}
SaysOfSection plays.Later s z w x p = Unit {0}

-- what section 0 had
abbrev pub HandsOver : Catalogue → HeapSeat → List Said → List ℕ → ℕ → Type 0
HandsOver (seats.Playing m) x said places dropped = (x ≡ m.seat) × (said ≡ m.said.items) × (places ≡ m.places.items) × (dropped ≡ m.dropped)
HandsOver (seats.Absent y) x said places dropped = (x ≡ y) × (said ≡ []) × (places ≡ []) × (dropped ≡ 0)

-- what was printed, dropped and placed is that of the sections from number n on, one after another, if all was played
abbrev pub AreSaid : Ended → Sections → ℕ → ℕ → List HeapSeat → List Part → Type 0
AreSaid r s z n xs ps = (i : ℕ) (d : HeapSeat) (p : Part) → i < length ps → SaysOfSection r s z (n + i) (slice_index_or xs i d) (slice_index_or ps i p)

-- some seat knows that the heap is full
abbrev pub SomeSeatKnows : List HeapSeat → Type 0
SomeSeatKnows xs = SomeAt (λ (x : HeapSeat). KnowsFull (view_of x)) xs

-- if not all was played, some seat knows that the heap is full
abbrev pub KnowsEnd : Ended → List HeapSeat → Type 0
KnowsEnd plays.Done xs = Unit {0}
KnowsEnd plays.First xs = SomeSeatKnows xs
KnowsEnd plays.Later xs = SomeSeatKnows xs

-- if all was played, the catalogue's seat ended an exact cycle at last
abbrev pub SettlesEnd : Ended → List HeapSeat → Type 0
SettlesEnd plays.Done xs = (d : HeapSeat) → IsTrue (view_of (slice_index_or xs 0 d)).own.settled
SettlesEnd plays.First xs = Unit {0}
SettlesEnd plays.Later xs = Unit {0}

-- the seats and the parts of the report, as a play left them that ended in season z
pub record AreLeftBy (r : Ended) (h : Heap) (s : Sections) (z : ℕ) (xs : List HeapSeat) (ps : List Part) : Type 0 where
  pub season : 1 ≤ z
  pub all : r ≡ plays.Done → z ≡ seasons s
  pub left : Numbered (IsSeatLeftBy r h s z) 0 xs
  pub parts : length ps ≡ 1 + length s.warehouses
  pub said : AreSaid r s z 0 xs ps
  pub knows : KnowsEnd r xs
  pub settles : SettlesEnd r xs
