-- A mutator that plays a part: what it has between its commands, and what it says at the end.
use Rattle.std.specs.Prelude.{ℕ, ◌≡◌, ◌⊎◌, ◌+◌, ◌-◌, ◌<◌, ◌≤◌, ◌==◌, ◌&&◌, not, List, [], ◌∷◌, length, map, take, drop, count_by, slice_index_or, Bool, true, false, Option, Some, None, is_some, IsTrue, IsFalse, vec_capacity}
use Rattle.std.specs.Int.Count.{ones}
use Rattle.mark_core.specs.declared.kinds.Step.{Step}
use Rattle.mark_core.specs.declared.kinds.Step.TheVariants.{AddStat}
use Rattle.plain_heap.specs.declared.operation.Op.{Op}
use Rattle.plain_heap.specs.declared.operation.Op.TheVariants as ops
use Rattle.plain_heap.specs.Sections.{Execution, Sections, Parts, joined, made_by, printed_by, lends}
use Rattle.plain_heap.specs.PlainRun.{plain}
use Rattle.play_report.specs.Report.{printed_of}
use Rattle.gc_table.specs.declared.seat.Heap.{Heap}
use Rattle.gc_table.specs.declared.seat.HeapSeat.{HeapSeat}
use Rattle.gc_table.specs.declared.view.Entry.{Entry}
use Rattle.gc_table.specs.declared.view.View.{View}
use Rattle.gc_table.specs.Log.{Only, events}
use Rattle.gc_table.specs.Running.{Ran}
use Rattle.gc_table.specs.Seats.{Sits, view_of}
use Rattle.packet_pools.specs.Counts.{count_of}
use Rattle.packet_pools.specs.Seeking.{some_event}
use Rattle.alloc_cache.specs.declared.cache.Cache.{Cache}
use Rattle.std.specs.List.{list_any}
use Rattle.mutator_ops.specs.Ready.{IsReady}
use Rattle.play_end.specs.Alike.{AreAlike}
use Rattle.play_end.specs.Done.{IsStill, turn_word}
use Rattle.play_end.specs.Parts.{Player, AreOf, IsAfterParts, PlaysPart}
use Rattle.play_end.specs.declared.played.Played.{Played}
use Rattle.play_end.specs.declared.played.Played.TheVariants as plays
use Rattle.warehouse.specs.declared.mutator.Mutator.{Mutator}
use Rattle.gc_cycle.specs.Answering.{Collects, EndsFull, HasCache}
use Rattle.gc_cycle.specs.Cycles.{never_fills}
use Rattle.gc_cycle.specs.Events.{never}
use Rattle.gc_cycle.specs.Mutating.{GoesOut}
use Rattle.cache_refills.specs.PartEvents.{PlaysCommands, StopsAtFull, polled_last}
use Rattle.gc_cycle.specs.Polling.{poll_found_stop, saw_full}
use Rattle.gc_cycle.specs.Sorts.{polls}
use Rattle.gc_cycle.specs.Standing.{IsOut, Mutates}
use Rattle.gc_cycle.specs.Statistics.{leaves_numbers}
use Rattle.cache_refills.specs.Stops.{stops_without_cause}
use Rattle.mark_core.specs.Numbers.{done_count}
use Rattle.warehouse.specs.Pacing.{Paces}
use Rattle.warehouse.specs.Storing.{stores_in}
use Rattle.gc_table.specs.Rule.{KnowsFull}

-- what the mutator has, as its player
abbrev pub player_of : Mutator → Player
player_of m = record { view = view_of m.seat; count = m.count; said = map printed_of m.said.items; dropped = m.dropped; cells = m.places.items }

-- room for all that these commands print and make, so that none takes memory, and no number passes its bound
pub record HasRoomForCommands (left : List Execution) (m : Mutator) : Type 0 where
  pub said : length m.said.items + printed_by left ≤ vec_capacity m.said
  pub places : length m.places.items + made_by left ≤ vec_capacity m.places
  pub count : m.count + length left ≤ 2000000
  pub made : (view_of m.seat).state.made + made_by left ≤ (view_of m.seat).shape.objects
  pub dropped : m.dropped ≤ m.count

-- the command collects
abbrev pub is_collect : Op → Bool
is_collect ops.Collect = true
is_collect op = false

-- how many of these commands collect
abbrev pub collects_by : List Execution → ℕ
collects_by es = count_by (λ e. is_collect e.op) es

-- the seat made a precise collection of its own, for which it stood at this many commands
pub record CollectsAt (done : ℕ) (v w : View) : Type 0 where
  pub given : View
  pub before : Ran v given
  pub collects : Collects done given w

-- a command was done after this many, of which it is known whether it collects
abbrev pub DoesAt : ℕ → Bool → View → View → Type 0
DoesAt done true v w = CollectsAt done v w
DoesAt done false v w = Ran v w

-- the same, after a poll
pub record PollsAndDoes (done : ℕ) (e : Execution) (v w : View) : Type 0 where
  pub came : View
  pub ran : Ran v came
  pub polled : IsTrue (some_event polls (events v came))
  pub does : DoesAt done (is_collect e.op) came w

-- these commands were done one after another, the first of them after this many
abbrev pub DoesEach : ℕ → List Execution → View → View → Type 0
DoesEach done [] v w = Ran v w
DoesEach done (e ∷ es) v w = (after : View) × PollsAndDoes done e v after × DoesEach (done + 1) es after w

-- in its turn, and ready for a command
pub record IsInTurn (turn : ℕ) (v : View) : Type 0 where
  pub ready : IsReady v
  pub season : v.state.season_seen ≡ Some turn

-- each object has its cell
abbrev pub ObjectsHaveCells : View → Type 0
ObjectsHaveCells v = length v.own.meaning.heap.objects ≡ v.state.made

-- a part that was played was counted
abbrev pub counts_part : Step → ℕ → Bool
counts_part (AddStat which by down) found = (which == done_count) && not down
counts_part step found = false

-- this many commands were done, with this many stops that had no cause, and what was stored was stored in this season
pub record Acts (season commands stops : ℕ) (v w : View) : Type 0 where
  pub ran : Ran v w
  pub polled : commands ≤ count_of polls (events v w)
  pub stopped : (since : List Entry) → stops_without_cause v.shape since (events v w) ≤ stops
  pub stored : IsTrue (stores_in season v (events v w))
  -- none of it counted a part
  pub uncounted : IsTrue (never counts_part (events v w))
  -- none of it moved the season on
  pub seasons : w.own.seasons ≡ v.own.seasons
  -- it changed the numbers that pace a cycle, and began cycles, as its calls do
  pub paced : Paces v w

-- the section stays as the player left it
pub record Stays (v w : View) : Type 0 where
  pub still : IsStill v.own w.own
  pub made : w.state.made ≡ v.state.made
  pub shape : w.shape ≡ v.shape

-- nothing was done that a part tells of
abbrev pub DoesNothing : View → View → Type 0
DoesNothing v w = (season : ℕ) → Acts season 0 0 v w

-- the first poll found a stop under way, or the phase was read as Full
abbrev pub IsHindered : View → View → Type 0
IsHindered v w = IsTrue (poll_found_stop (events v w)) ⊎ IsTrue (saw_full (events v w))

-- the mutator polled, and at most read the phase: it has the cache that it had, and changed no number
pub record Glances (v w : View) : Type 0 where
  pub out : GoesOut v w
  pub numbers : Only leaves_numbers v w
  pub polled : IsTrue (some_event polls (events v w))
  pub cache : w.state.cache ≡ v.state.cache

-- between two commands: the mutator polled, and is in its turn
pub record GetsReady (turn : ℕ) (kept : Option Cache) (v w : View) : Type 0 where
  pub mutates : Mutates w
  pub acts : (season : ℕ) → Acts season 1 0 v w
  pub stays : Stays v w
  pub turn_is : IsInTurn turn w
  pub cached : HasCache kept w
  pub polled : IsTrue (polled_last (events v w))

-- the same, with the cache that it has
abbrev pub GetsReadyWithOwn : ℕ → View → View → Type 0
GetsReadyWithOwn turn v w = (kept : Option Cache) → HasCache kept v → GetsReady turn kept v w

-- the section is kept as it was before the heap was found full, which the seat knows; its record has no cache, and the position is stored
pub record FindsFull (done : ℕ) (v w : View) : Type 0 where
  pub heap : w.own.meaning.heap ≡ v.own.meaning.heap
  pub turns : w.own.history ≡ v.own.history
  pub places : w.own.places ≡ v.own.places
  pub ends : EndsFull done v w
  pub known : KnowsFull w
  pub made : w.state.made ≡ v.state.made
  pub acts : DoesNothing v w

-- the cache has a free cell
abbrev pub HasFree : Option Cache → Type 0
HasFree None = ⊥
HasFree (Some h) = 0 < ones h.cells

-- there is no cache, or it has no free cell
abbrev pub HasNoFree : Option Cache → Type 0
HasNoFree None = Unit {0}
HasNoFree (Some h) = ones h.cells ≡ 0

-- a mutator inside a part: active, with this cache
pub record IsPlaying (h : Heap) (p : Parts) (kept : Option Cache) (m : Mutator) : Type 0 where
  pub sits : Sits h m.seat
  pub mutates : Mutates (view_of m.seat)
  pub cached : HasCache kept (view_of m.seat)
  pub counted : ObjectsHaveCells (view_of m.seat)

-- the mutator was made for the section, is outside, and played the parts before part z
pub record MayPlay (h : Heap) (p : Parts) (z : ℕ) (m : Mutator) : Type 0 where
  pub season : 0 < z
  pub sits : Sits h m.seat
  pub out : IsOut (view_of m.seat)
  pub counted : ObjectsHaveCells (view_of m.seat)
  pub room : HasRoomForCommands (joined (drop (z - 1) p.parts)) m
  -- the catalogue reads no variable of the catalogue
  pub lends_is : IsTrue (p.number == 0) → IsFalse (list_any (λ e. lends e.op) (joined p.parts))
  pub sections : Sections
  pub of : AreOf sections p (view_of m.seat)
  pub before : IsAfterParts sections p.number (z - 1) (player_of m)

-- the commands of the part
abbrev pub commands_of_part : Parts → ℕ → List Execution
commands_of_part p z = slice_index_or p.parts (z - 1) []

-- what the events of a part say, if it was played to its end by n commands, the first of them after `before`
pub record TellsDone (p : Parts) (z before n : ℕ) (v w : View) : Type 0 where
  pub each : DoesEach before (commands_of_part p z) v w
  pub plays : PlaysCommands v.shape n (collects_by (commands_of_part p z)) (events v w)
  pub all : n ≡ length (commands_of_part p z)
  pub counted : count_of counts_part (events v w) ≡ 1
  pub stored : IsTrue (stores_in (turn_word p.number z) v (events v w))
  pub paced : Paces v w
  -- none of it said that the heap is full
  pub unfilled : IsTrue (never_fills (events v w))

-- what the events of a part say, if it stopped after n commands because the heap was found full
pub record PartTellsFull (p : Parts) (z before n : ℕ) (v w : View) : Type 0 where
  pub each : DoesEach before (take n (commands_of_part p z)) v w
  pub stops : StopsAtFull v.shape n (collects_by (take n (commands_of_part p z))) (collects_by (take 1 (drop n (commands_of_part p z)))) (events v w)
  pub counted : count_of counts_part (events v w) ≡ 0
  pub stored : IsTrue (stores_in (turn_word p.number z) v (events v w))
  pub paced : Paces v w

-- what the events of a part say, if it was played to its end or the heap was found full
abbrev pub PartTells : Played → Parts → ℕ → ℕ → ℕ → View → View → Type 0
PartTells plays.Done p z before n v w = TellsDone p z before n v w
PartTells plays.Full p z before n v w = PartTellsFull p z before n v w

-- the whole of it
pub record IsPartPlayed (played : Played) (h : Heap) (p : Parts) (z : ℕ) (x y : Mutator) : Type 0 where
  pub sits : Sits h y.seat
  pub out : IsOut (view_of y.seat)
  pub ran : Ran (view_of x.seat) (view_of y.seat)
  pub counted : ObjectsHaveCells (view_of y.seat)
  pub seasons : (view_of y.seat).own.seasons ≡ (view_of x.seat).own.seasons
  pub room : played ≡ plays.Done → HasRoomForCommands (joined (drop z p.parts)) y
  pub plays : PlaysPart played p z (player_of x) (player_of y)
  -- however it ended, the section stands at as many commands as the mutator counted
  pub position : (view_of y.seat).own.position ≡ y.count
  pub tells : PartTells played p z x.count (y.count - x.count) (view_of x.seat) (view_of y.seat)

-- when a gate may be passed: the seat is active and the section's, its plain heap is that of any script with this section after this many commands, and of the
-- seat's stores and polls the last is a poll
pub record MayPass (s : HeapSeat) (p : Parts) (command : ℕ) : Type 0 where
  pub active : IsTrue (view_of s).state.active
  pub section : (view_of s).state.section ≡ Some p.number
  pub sections : Sections
  pub of : AreOf sections p (view_of s)
  pub heap : AreAlike (view_of s).own.meaning.heap (plain sections p.number command)
  pub polled : IsTrue (polled_last (view_of s).log)

-- when a gate may be told of a tracer's turn: the seat is active, has no section, and has read the phase
pub record MayTurn (s : HeapSeat) : Type 0 where
  pub active : IsTrue (view_of s).state.active
  pub section : (view_of s).state.section ≡ None
  pub phase : IsTrue (is_some (view_of s).state.phase_seen)
