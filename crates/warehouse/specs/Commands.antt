-- What the functions of a part say.
use Rattle.std.specs.Prelude.{ℕ, ◌≡◌, ◌≢◌, ◌+◌, ◌-◌, ◌<◌, ◌⊎◌, ◌++◌, [], ◌∷◌, List, length, take, drop, Bool, true, false, Option, Some, None, IsTrue}
use Rattle.std.specs.Prelude.{◌==◌, IsFalse}
use Rattle.std.specs.List.{list_any}
use Rattle.plain_heap.specs.declared.operation.Op.{Op}
use Rattle.plain_heap.specs.declared.operation.Op.TheVariants as ops
use Rattle.plain_heap.specs.PlainStep.{IsInRange}
use Rattle.plain_heap.specs.Sections.{Execution, Parts, Sections, joined, lends}
use Rattle.plain_heap.specs.Placement.{IsNew}
use Rattle.gc_table.specs.declared.seat.Heap.{Heap}
use Rattle.gc_table.specs.declared.view.View.{View}
use Rattle.gc_table.specs.Rule.{KnowsFull}
use Rattle.gc_table.specs.Running.{Ran}
use Rattle.gc_table.specs.Seats.{view_of}
use Rattle.alloc_cache.specs.declared.cache.Cache.{Cache}
use Rattle.play_end.specs.Done.{IsKept, turn_word}
use Rattle.play_end.specs.Parts.{AreOf, DoesCommand, HasLeft, IsAfterParts, IsWithin, Player, SaysSame}
use Rattle.warehouse.specs.declared.mutator.Mutator.{Mutator}
use Rattle.gc_cycle.specs.declared.counts.Safe.{Safe}
use Rattle.gc_cycle.specs.declared.counts.Safe.TheVariants as safes
use Rattle.plain_heap.specs.Sections.{makes_object}
use Rattle.warehouse.specs.Playing.{HasFree, HasRoomForCommands, Acts, DoesAt, DoesEach, IsInTurn, IsPlaying, MayPass, PollsAndDoes, Stays, collects_by, counts_part, commands_of_part, is_collect, player_of}
use Rattle.gc_cycle.specs.Standing.{IsOut}
use Rattle.cache_refills.specs.Stops.{stops_without_cause}
use Rattle.warehouse.specs.Pacing.{Paces}
use Rattle.warehouse.specs.Storing.{stores_in}
use Rattle.gc_table.specs.declared.view.Entry.{Entry}
use Rattle.gc_table.specs.Log.{events}
use Rattle.gc_table.specs.Seats.{Sits}
use Rattle.packet_pools.specs.Counts.{count_of}

-- neither `new` nor `collect`
abbrev pub is_other : Op → Bool
is_other (ops.New v n) = false
is_other ops.Collect = false
is_other op = true

-- the command is next, by some script with this section, of which this many commands were done
pub record IsNextOf (p : Parts) (turn : ℕ) (e : Execution) (m : Mutator) : Type 0 where
  pub sections : Sections
  pub z : ℕ
  pub rest : List Execution
  pub part : (turn ≡ turn_word p.number z) × (0 < z)
  pub left : IsWithin sections p z (e ∷ rest) (player_of m)
  pub range : IsInRange p.fields e.op
  -- the catalogue reads no variable of the catalogue
  pub lends_is : IsTrue (lends e.op) → p.number ≢ 0
  pub later : List Execution
  pub room : HasRoomForCommands (e ∷ later) m

-- the command is the next of the section, and the mutator is in its turn
pub record MayDo (p : Parts) (e : Execution) (m : Mutator) : Type 0 where
  pub turn : ℕ
  pub in_turn : IsInTurn turn (view_of m.seat)
  pub next : IsNextOf p turn e m

-- the seat did this in the season that it had read
abbrev pub ActsIn : ℕ → Mutator → Mutator → Type 0
ActsIn stops x y = (season : ℕ) → (view_of x.seat).state.season_seen ≡ Some season → Acts season 0 stops (view_of x.seat) (view_of y.seat)

-- one command was done, of a player that is in its turn
pub record DoesOne (h : Heap) (p : Parts) (kept : Option Cache) (e : Execution) (x y : Mutator) : Type 0 where
  pub playing : IsPlaying h p kept y
  pub does : DoesCommand e (player_of x) (player_of y)
  pub room : (later : List Execution) → HasRoomForCommands (e ∷ later) x → HasRoomForCommands later y
  pub own : DoesAt x.count (is_collect e.op) (view_of x.seat) (view_of y.seat)
  pub acts : ActsIn (collects_by (e ∷ [])) x y

-- the same, with the cache that the mutator has
abbrev pub DoesOneWithOwn : Heap → Parts → Execution → Mutator → Mutator → Type 0
DoesOneWithOwn h p e x y = (kept : Option Cache) → IsPlaying h p kept x → DoesOne h p kept e x y

-- the heap was found full before the command was done: the section is kept, and if its own seat found that, the command makes an object
pub record StopsBefore (h : Heap) (p : Parts) (e : Execution) (x y : Mutator) : Type 0 where
  pub playing : IsPlaying h p None y
  pub kept : IsKept (view_of x.seat).own (view_of y.seat).own
  pub says : SaysSame (player_of x) (player_of y)
  pub position : (view_of y.seat).own.position ≡ x.count
  pub known : KnowsFull (view_of y.seat)
  pub found : IsTrue (view_of y.seat).own.full → IsTrue (view_of x.seat).own.full ⊎ IsNew e.op
  pub acts : (season : ℕ) → Acts season 0 (collects_by (e ∷ [])) (view_of x.seat) (view_of y.seat)

-- the mutator is at the command, and the section is as it was
pub record IsAtCommand (h : Heap) (p : Parts) (turn : ℕ) (kept : Option Cache) (e : Execution) (x y : Mutator) : Type 0 where
  pub playing : IsPlaying h p kept y
  pub stays : Stays (view_of x.seat) (view_of y.seat)
  pub says : SaysSame (player_of x) (player_of y)
  pub acts : (season : ℕ) → Acts season 1 0 (view_of x.seat) (view_of y.seat)
  pub may : MayDo p e y
  pub season : (view_of y.seat).state.season_seen ≡ Some turn
  pub room : (left : List Execution) → HasRoomForCommands left x → HasRoomForCommands left y
  pub pass : MayPass y.seat p y.count
  pub free : IsTrue (makes_object e.op) → HasFree kept

-- the command is the next of a mutator that plays
pub record IsToCome (h : Heap) (p : Parts) (turn : ℕ) (kept : Option Cache) (e : Execution) (m : Mutator) : Type 0 where
  pub playing : IsPlaying h p kept m
  pub left : IsNextOf p turn e m

-- it came to the command, or the heap was found full before, and no cache is left
abbrev pub ComesOrStops : Bool → Heap → Parts → ℕ → Option Cache → Execution → Mutator → Mutator → Type 0
ComesOrStops true h p turn kept e x y = IsAtCommand h p turn kept e x y
ComesOrStops false h p turn kept e x y = StopsBefore h p e x y × (kept ≡ None)

-- a command with the poll before it: of a player that had these commands left, all but the first are left
pub record PlaysOne (h : Heap) (p : Parts) (turn : ℕ) (kept : Option Cache) (e : Execution) (x y : Mutator) : Type 0 where
  pub playing : IsPlaying h p kept y
  pub left : (old : Player) (z : ℕ) (rest : List Execution) → (0 < z) → (turn ≡ turn_word p.number z) → HasLeft p z (e ∷ rest) old (player_of x) → HasLeft p z rest old (player_of y)
  pub count : y.count ≡ x.count + 1
  pub room : (later : List Execution) → HasRoomForCommands (e ∷ later) x → HasRoomForCommands later y
  pub own : PollsAndDoes x.count e (view_of x.seat) (view_of y.seat)
  pub acts : Acts turn 1 (collects_by (e ∷ [])) (view_of x.seat) (view_of y.seat)

-- all commands that were left were done
pub record PlaysAll (h : Heap) (p : Parts) (z : ℕ) (kept : Option Cache) (part : List Execution) (x y : Mutator) : Type 0 where
  pub playing : IsPlaying h p kept y
  pub left : HasLeft p z [] (player_of x) (player_of y)
  pub count : y.count ≡ x.count + length part
  pub room : (later : List Execution) → HasRoomForCommands (part ++ later) x → HasRoomForCommands later y
  pub each : DoesEach x.count part (view_of x.seat) (view_of y.seat)
  pub acts : Acts (turn_word p.number z) (length part) (collects_by part) (view_of x.seat) (view_of y.seat)

-- the heap was found full before one of them
pub record StopsWithin (h : Heap) (p : Parts) (z : ℕ) (part : List Execution) (x y : Mutator) : Type 0 where
  pub done : ℕ
  pub e : Execution
  pub rest : List Execution
  pub next : drop done part ≡ e ∷ rest
  pub before : Mutator
  pub left : HasLeft p z (e ∷ rest) (player_of x) (player_of before)
  pub stops : StopsBefore h p e before y
  pub count : y.count ≡ x.count + done
  pub each : DoesEach x.count (take done part) (view_of x.seat) (view_of y.seat)
  pub acts : Acts (turn_word p.number z) done (collects_by (take done part) + collects_by (e ∷ [])) (view_of x.seat) (view_of y.seat)

-- how the commands of a part end: all were played, or the heap was found full and the rest is left
abbrev pub AllEnds : Safe → Heap → Parts → ℕ → List Execution → Mutator → Mutator → Type 0
AllEnds (safes.Going kept) h p z part x y = PlaysAll h p z kept part x y
AllEnds safes.Full h p z part x y = StopsWithin h p z part x y

-- the mutator may play the part: by some script with this section the parts before it were played
pub record MayPlayPart (p : Parts) (z : ℕ) (m : Mutator) : Type 0 where
  pub lends_is : IsTrue (p.number == 0) → IsFalse (list_any (λ e. lends e.op) (joined p.parts))
  pub room : HasRoomForCommands (joined (drop (z - 1) p.parts)) m
  pub season : 0 < z
  pub sections : Sections
  pub of : AreOf sections p (view_of m.seat)
  pub before : IsAfterParts sections p.number (z - 1) (player_of m)

-- the mutator left: its part was counted so often, and it asked for no stop, stored nothing, and changed the numbers as its calls do
pub record Leaves (times : ℕ) (v w : View) : Type 0 where
  pub ran : Ran v w
  pub stopped : (since : List Entry) → stops_without_cause v.shape since (events v w) ≡ 0
  pub stored : (season : ℕ) → IsTrue (stores_in season v (events v w))
  pub counted : count_of counts_part (events v w) ≡ times
  pub seasons : w.own.seasons ≡ v.own.seasons
  pub paced : Paces v w

-- the mutator left with its position stored, after its part was counted so often, and its section is as it was
pub record CountsPart (times : ℕ) (h : Heap) (p : Parts) (x y : Mutator) : Type 0 where
  pub sits : Sits h y.seat
  pub out : IsOut (view_of y.seat)
  pub stays : Stays (view_of x.seat) (view_of y.seat)
  pub says : SaysSame (player_of x) (player_of y)
  pub position : (view_of y.seat).own.position ≡ y.count
  pub leaves : Leaves times (view_of x.seat) (view_of y.seat)
  pub room : (left : List Execution) → HasRoomForCommands left x → HasRoomForCommands left y

-- a prefix of the part was done, and these commands are left, from a player that stood before the first
pub record HasPlayedSoFar (h : Heap) (p : Parts) (z turn : ℕ) (kept : Option Cache) (rest : List Execution) (x y : Mutator) : Type 0 where
  pub turn_is : turn ≡ turn_word p.number z
  pub playing : IsPlaying h p kept y
  pub left : HasLeft p z rest (player_of x) (player_of y)
  pub front : List Execution
  pub part : commands_of_part p z ≡ front ++ rest
  pub count : y.count ≡ x.count + length front
  pub room : (later : List Execution) → HasRoomForCommands (commands_of_part p z ++ later) x → HasRoomForCommands (rest ++ later) y
  pub each : DoesEach x.count front (view_of x.seat) (view_of y.seat)
  pub acts : Acts (turn_word p.number z) (length front) (collects_by front) (view_of x.seat) (view_of y.seat)
