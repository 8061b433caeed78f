-- How a mutator goes into the world, to its turn, to a free cell, and out again: when it polls and when it stops the world, what it pays, and which of the
-- numbers that pace a cycle it changes.
use Rattle.std.specs.Prelude.{ℕ, ◌≡◌, ◌≤◌, ◌⊎◌, ◌||◌, Bool, true, false, List, [], ◌∷◌, Option, Some, None, IsTrue}
use Rattle.mark_core.specs.declared.kinds.Shape.{Shape}
use Rattle.mark_core.specs.declared.kinds.Phase.TheVariants.{Full}
use Rattle.mark_core.specs.declared.kinds.Step.{Step}
use Rattle.mark_core.specs.declared.kinds.Step.TheVariants.{LeaveStep, Observe, ReadPhase, ReadSeason, StorePosition}
use Rattle.gc_table.specs.Log.{Only, event, events, steps_of}
use Rattle.gc_table.specs.Running.{Ran}
use Rattle.gc_table.specs.declared.view.Entry.{Entry}
use Rattle.gc_table.specs.declared.view.View.{View}
use Rattle.packet_pools.specs.Counts.{count_of}
use Rattle.packet_pools.specs.Seeking.{some_event}
use Rattle.alloc_cache.specs.declared.cache.Cache.{Cache}
use Rattle.gc_cycle.specs.Answering.{CollectsTo, HasCache, retires}
use Rattle.gc_cycle.specs.Cycles.{fills_with_cause, never_fills}
use Rattle.gc_cycle.specs.Events.{each_after, never}
use Rattle.gc_cycle.specs.Mutating.{HasEntered, is_in_stop, pops_in_stops, works_in_stops}
use Rattle.gc_cycle.specs.Polling.{offered_help}
use Rattle.gc_cycle.specs.Sorts.{ends_cycle, polls, pops_or_clears, raises_flag, reads_phase, sees_flag, tries_marking}
use Rattle.gc_cycle.specs.Sparing.{fills_part}
use Rattle.gc_cycle.specs.Statistics.{ChangesNumbers, GivesUp, RefillsNumbers, leaves_numbers}
use Rattle.gc_cycle.specs.Turns.{HelpsInTurns}
use Rattle.gc_cycle.specs.declared.counts.Paid.{Paid}
use Rattle.gc_cycle.specs.declared.counts.Refill.{Refill}
use Rattle.gc_cycle.specs.declared.counts.Refill.TheVariants as refills
use Rattle.gc_cycle.specs.declared.counts.Safe.{Safe}
use Rattle.gc_cycle.specs.declared.counts.Safe.TheVariants as safes
use Rattle.cache_refills.specs.Getting.{RefillsTo}
use Rattle.cache_refills.specs.InStops.{FillsTo, begins_none}
use Rattle.cache_refills.specs.Pace.Pacing.{begins_where_due}
use Rattle.cache_refills.specs.Pace.Paying.{pops_where_paid}
use Rattle.cache_refills.specs.Stops.{cycles_with_cause, stops_again_with_cause, stops_collect, stops_in_visit, stops_with_cause}
use Rattle.mutator_ops.specs.Flushing.{Flushes}
use Rattle.mutator_ops.specs.Listing.{creating_steps}
use Rattle.seat_turns.specs.Standing.{LacksFree}
use Rattle.seat_turns.specs.Sharing.{LeavesHeap, MakesShared}
use Rattle.seat_turns.specs.declared.refused.Refused.{Refused}
use Rattle.seat_turns.specs.declared.refused.Refused.TheVariants as refusals

-- the seat went in: it waited while a stop was under way, and helped; no number changed, and it popped cells and cleared cards only while it was out
pub record GoesIn (v w : View) : Type 0 where
  pub entered : HasEntered v w
  pub numbers : Only leaves_numbers v w
  pub offered : IsTrue (offered_help (events v w))
  pub helps : HelpsInTurns v w
  pub away : (before : List Entry) → IsTrue (is_in_stop before) → IsTrue (each_after is_in_stop pops_or_clears before (events v w))

-- the seat stored its position, which is how many objects it has made, and left
abbrev pub StepsOut : View → View → Type 0
StepsOut v w = (n : ℕ) × (events v w ≡ event (StorePosition v.state.made) v.state.made ∷ event LeaveStep n ∷ [])

-- the cache that the seat had was given up, and nothing else was done
pub record GivesCache (handed : Option Cache) (v w : View) : Type 0 where
  pub ran : Ran v w
  pub only : Only retires v w
  pub numbers : GivesUp handed None v w

-- the event found a stop under way, or read the phase as Full
abbrev pub hinders : Step → ℕ → Bool
hinders step found = sees_flag step found || reads_phase Full step found

-- what safe points that found neither a stop nor a full heap took: one look at the world, one at the phase, and one at the season if the seat didn't know it
abbrev pub passing : Option ℕ → List Step
passing None = Observe ∷ ReadPhase ∷ ReadSeason ∷ []
passing (Some season) = Observe ∷ ReadPhase ∷ []

-- safe points: the seat polled, raised no flag, began no cycle, didn't say that the heap is full, popped cells and cleared cards only in stops, by turns of help,
-- and changed a number only if it gave up its cache; it gave that up only if it found a stop, or the heap full, and without either it did nothing but look
pub record Polls (handed kept : Option Cache) (v w : View) : Type 0 where
  pub polled : IsTrue (some_event polls (events v w))
  pub calm : IsTrue (never raises_flag (events v w))
  pub not_full : IsTrue (never_fills (events v w))
  pub unbegun : IsTrue (never tries_marking (events v w))
  pub numbers : GivesUp handed kept v w
  pub pops : IsTrue (works_in_stops (events v w))
  pub helps : HelpsInTurns v w
  pub cause : (kept ≡ handed) ⊎ IsTrue (some_event hinders (events v w))
  pub looks : IsTrue (never hinders (events v w)) → steps_of (events v w) ≡ passing v.state.season_seen

-- a refill answered so: what was paid and popped, the cause of each stop, in this visit, of a second one, of a second cycle, of finding the heap full and of
-- beginning a cycle, that each stop collects, and the numbers
pub record RefillsBeside (sh : Shape) (r : Refill) (v w : View) : Type 0 where
  pub ran : Ran v w
  pub refills : RefillsTo r v.state.made v w
  pub stops : IsTrue (stops_with_cause sh (events v w))
  pub visit : IsTrue (stops_in_visit sh (events v w))
  pub again : IsTrue (stops_again_with_cause sh (events v w))
  pub collects : IsTrue (stops_collect (events v w))
  pub cycles : IsTrue (cycles_with_cause sh (events v w))
  pub pops : IsTrue (pops_where_paid (events v w))
  pub fills : IsTrue (fills_with_cause sh (events v w))
  pub due : IsTrue (begins_where_due (events v w))
  pub only : Only fills_part v w
  pub numbers : RefillsNumbers r v w

-- a refill of a mutator that collects only in stops answered so: it began no cycle, paid nothing, and popped cells only in stops
pub record RefillsInStops (sh : Shape) (r : Refill) (v w : View) : Type 0 where
  pub ran : Ran v w
  pub fills : FillsTo r v.state.made v w
  pub stops : IsTrue (stops_with_cause sh (events v w))
  pub visit : IsTrue (stops_in_visit sh (events v w))
  pub again : IsTrue (stops_again_with_cause sh (events v w))
  pub collects : IsTrue (stops_collect (events v w))
  pub cycles : IsTrue (cycles_with_cause sh (events v w))
  pub pops : IsTrue (pops_in_stops (events v w))
  pub full : IsTrue (fills_with_cause sh (events v w))
  pub unbegun : IsTrue (begins_none (events v w))
  pub only : Only fills_part v w
  pub numbers : RefillsNumbers r v w

-- the one, or the other if the mutator collects only in stops
abbrev pub RefillsBy : Bool → Shape → Refill → View → View → Type 0
RefillsBy false sh r v w = RefillsBeside sh r v w
RefillsBy true sh r v w = RefillsInStops sh r v w

-- the call gave the seat this cache, for which something was paid
abbrev pub FillsWith : (Refill → View → View → Type 0) → Option Cache → View → View → Type 0
FillsWith R None v w = ⊥
FillsWith R (Some h) v w = (paid : Paid) × R (refills.Cache h paid) v w

-- a cache in which no cell can be made was given up, if there was one, and then a refill answered so
pub record FillsOnce (in_stops : Bool) (sh : Shape) (kept : Option Cache) (r : Refill) (v w : View) : Type 0 where
  pub lacks : LacksFree kept
  pub given : View
  pub gives : GivesCache kept v given
  pub refills : RefillsBy in_stops sh r given w

-- a round: safe points, and then a refill that gave the seat its next cache
pub record PollsAndFills (in_stops : Bool) (sh : Shape) (handed next : Option Cache) (v w : View) : Type 0 where
  pub kept : Option Cache
  pub polled : View
  pub polls : Polls handed kept v polled
  pub fills : FillsWith (FillsOnce in_stops sh kept) next polled w

-- a list of rounds, each of which starts where the last one ended; the list has the caches and the views before them, latest first
abbrev pub GoesRounds : Bool → Shape → List (Option Cache × View) → Option Cache → Option Cache → View → View → Type 0
GoesRounds in_stops sh [] handed cache v w = (cache ≡ handed) × (w ≡ v)
GoesRounds in_stops sh (x ∷ xs) handed cache v w = GoesRounds in_stops sh xs handed x.0 v x.1 × PollsAndFills in_stops sh x.0 cache x.1 w

-- the seat came to its turn with this cache: by rounds as long as it had no free cell, and then by safe points
pub record ComesTo (in_stops : Bool) (sh : Shape) (handed kept : Option Cache) (v w : View) : Type 0 where
  pub moments : List (Option Cache × View)
  pub cache : Option Cache
  pub last : View
  pub rounds : GoesRounds in_stops sh moments handed cache v last
  pub polls : Polls cache kept last w

-- the seat came to its turn without a free cell, and a refill found the heap full
pub record FindsFull (in_stops : Bool) (sh : Shape) (handed : Option Cache) (v w : View) : Type 0 where
  pub kept : Option Cache
  pub came : View
  pub comes : ComesTo in_stops sh handed kept v came
  pub fills : FillsOnce in_stops sh kept refills.Full came w

-- why the seat comes to no free cell: the heap is full, by a safe point or by a refill; or the section has made all its objects, so that none is looked for
abbrev pub ComesToNone : Refused → Bool → Shape → Option Cache → View → View → Type 0
ComesToNone refusals.Full in_stops sh handed v w = ComesTo in_stops sh handed None v w ⊎ FindsFull in_stops sh handed v w
ComesToNone refusals.Spent in_stops sh handed v w = (kept : Option Cache) × ComesTo in_stops sh handed kept v w
ComesToNone e in_stops sh handed v w = ⊥

-- safe points, with this cache and then perhaps none
abbrev pub PollsWith : Option Cache → View → View → Type 0
PollsWith handed v w = (kept : Option Cache) × Polls handed kept v w

-- safe points, of which the last found the heap full: the seat has given up its cache, and left
abbrev pub PollsOutWith : Option Cache → View → View → Type 0
PollsOutWith handed v w = (polled : View) × Polls handed None v polled × StepsOut polled w

-- the seat did this with the cache that it had, or without one if it had none
abbrev pub WithOwn : (Option Cache → View → View → Type 0) → View → View → Type 0
WithOwn R v w = (handed : Option Cache) × HasCache handed v × R handed v w

-- the seat went in, and came to its turn by safe points
pub record EntersTurn (v w : View) : Type 0 where
  pub inside : View
  pub enters : GoesIn v inside
  pub polls : PollsWith None inside w

-- the seat went in, and a safe point found the heap full
pub record EntersFull (v w : View) : Type 0 where
  pub inside : View
  pub enters : GoesIn v inside
  pub polls : PollsOutWith None inside w

-- the seat gave up the cache that it had, and left
pub record LeavesTurn (v w : View) : Type 0 where
  pub given : View
  pub gives : WithOwn GivesCache v given
  pub leaves : StepsOut given w

-- the roots that lagged were stored, and then this was done
pub record FlushesFirst (R : View → View → Type 0) (v w : View) : Type 0 where
  pub flushed : View
  pub flushes : Flushes v flushed
  pub later : R flushed w

-- a precise collection answered so: it stopped the world once at most and ended one cycle at most, began no cycle that marks beside the program, popped cells and
-- cleared cards only in stops, and changed no number but those that its cycle set
pub record CollectsOnce (safe : Safe) (v w : View) : Type 0 where
  pub ran : Ran v w
  pub collects : CollectsTo safe v.state.made v w
  pub once : count_of raises_flag (events v w) ≤ 1
  pub cycles : count_of ends_cycle (events v w) ≤ 1
  pub not_full : IsTrue (never_fills (events v w))
  pub unbegun : IsTrue (never tries_marking (events v w))
  pub numbers : ChangesNumbers [] v w
  pub pops : IsTrue (works_in_stops (events v w))

-- the seat gave up its cache, collected, and came to its turn by safe points
pub record CollectsAtTurn (v w : View) : Type 0 where
  pub given : View
  pub gives : WithOwn GivesCache v given
  pub collected : View
  pub collects : CollectsOnce (safes.Going None) given collected
  pub polls : PollsWith None collected w

-- the seat gave up its cache and found the heap full, when it was to collect or by a safe point after that; then it left
pub record CollectsNone (v w : View) : Type 0 where
  pub given : View
  pub gives : WithOwn GivesCache v given
  pub collected : View
  pub ends : (CollectsOnce safes.Full given collected × StepsOut collected w) ⊎ (CollectsOnce (safes.Going None) given collected × PollsOutWith None collected w)

-- the seat came to a free cell, and made an object with value n in it, to which variable u refers
pub record MakesAtTurn (in_stops : Bool) (sh : Shape) (u n : ℕ) (v w : View) : Type 0 where
  pub free : Cache
  pub came : View
  pub comes : WithOwn (λ handed. ComesTo in_stops sh handed (Some free)) v came
  pub leaves : LeavesHeap v came
  pub cell : ℕ
  pub ran : Ran came w
  pub makes : steps_of (events came w) ≡ creating_steps sh.fields came.state u n cell

-- the same if objects are shared: the seat came to a free cell, and made an object with value n in it, to which variable u refers
pub record MakesSharedAtTurn (sh : Shape) (u n : ℕ) (v w : View) : Type 0 where
  pub free : Cache
  pub came : View
  pub comes : WithOwn (λ handed. ComesTo false sh handed (Some free)) v came
  pub leaves : LeavesHeap v came
  pub makes : MakesShared u n came w

-- if no object was made, the seat left if the heap is full, and did nothing more if not
abbrev pub LeavesNone : Refused → View → View → Type 0
LeavesNone refusals.Full v w = StepsOut v w
LeavesNone e v w = w ≡ v

-- why the seat came to no free cell, and what it did then
pub record MakesNoneAtTurn (e : Refused) (in_stops : Bool) (sh : Shape) (v w : View) : Type 0 where
  pub came : View
  pub comes : WithOwn (ComesToNone e in_stops sh) v came
  pub leaves : LeavesHeap v came
  pub ends : LeavesNone e came w
