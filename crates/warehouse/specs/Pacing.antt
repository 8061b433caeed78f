-- What a part does to the numbers that pace a cycle and to the number of parts that were played, and when it begins a cycle.
use Rattle.std.specs.Prelude.{ℕ, ◌≡◌, List, [], ◌∷◌, false, Option, None, IsTrue}
use Rattle.mark_core.specs.Numbers.{done_count}
use Rattle.mark_core.specs.declared.kinds.Step.TheVariants.{AddStat}
use Rattle.gc_table.specs.Log.{events}
use Rattle.gc_table.specs.declared.view.View.{View}
use Rattle.packet_pools.specs.Seeking.{some_event}
use Rattle.alloc_cache.specs.declared.cache.Cache.{Cache}
use Rattle.gc_cycle.specs.Answering.{HasCache}
use Rattle.gc_cycle.specs.Events.{never}
use Rattle.gc_cycle.specs.Sorts.{polls, raises_flag, tries_marking}
use Rattle.gc_cycle.specs.Statistics.{ChangesBy, ChangesNumbers, GivesUp, RefillsNumbers}
use Rattle.gc_cycle.specs.declared.counts.Refill.{Refill}
use Rattle.cache_refills.specs.Getting.{RefillsTo}
use Rattle.cache_refills.specs.Pace.Pacing.{begins_where_due}

-- no number was changed, and no cycle begun
pub record LeavesPace (v w : View) : Type 0 where
  pub changed : ChangesBy [] v w
  pub unbegun : IsTrue (never tries_marking (events v w))

-- the seat gave its cache up, if it had one: the free cells that were left in it count as free again
pub record Retires (v w : View) : Type 0 where
  pub handed : Option Cache
  pub had : HasCache handed v
  pub none : w.state.cache ≡ None
  pub numbers : GivesUp handed None v w
  pub unbegun : IsTrue (never tries_marking (events v w))

-- the seat passed a safe point, at which it kept its cache or gave it up
pub record PassesPoint (v w : View) : Type 0 where
  pub handed : Option Cache
  pub kept : Option Cache
  pub had : HasCache handed v
  pub has : HasCache kept w
  pub polled : IsTrue (some_event polls (events v w))
  pub calm : IsTrue (never raises_flag (events v w))
  pub numbers : GivesUp handed kept v w
  pub unbegun : IsTrue (never tries_marking (events v w))

-- the numbers were changed only by the ends of cycles, and no cycle was begun
pub record EndsCyclesAlone (v w : View) : Type 0 where
  pub numbers : ChangesNumbers [] v w
  pub unbegun : IsTrue (never tries_marking (events v w))

-- the seat asked for a cache: its cells were taken off the free ones, what was traced for it was told, and a cycle was begun only if one was due
pub record Refills (v w : View) : Type 0 where
  pub refill : Refill
  pub done : ℕ
  pub refills : RefillsTo refill done v w
  pub numbers : RefillsNumbers refill v w
  pub due : IsTrue (begins_where_due (events v w))

-- one part was counted as played
pub record CountsOne (v w : View) : Type 0 where
  pub changed : ChangesBy (AddStat done_count 1 false ∷ []) v w
  pub unbegun : IsTrue (never tries_marking (events v w))

-- by which call the numbers were changed, or a cycle begun: a cycle is begun in a refill if one is due, and in a collection cycles end and none begins
pub data Changes (v w : View) : Type 0 where
  by_retiring : Retires v w → Changes v w
  by_safe_point : PassesPoint v w → Changes v w
  by_refill : Refills v w → Changes v w
  by_collection : EndsCyclesAlone v w → Changes v w
  by_counting : CountsOne v w → Changes v w

-- the numbers were changed by one such call between the two views of each pair, and at no other time; nor was a cycle begun at another time
abbrev pub PacesBetween : List (View × View) → View → View → Type 0
PacesBetween [] v w = LeavesPace v w
PacesBetween (call ∷ calls) v w = LeavesPace v call.0 × Changes call.0 call.1 × PacesBetween calls call.1 w

-- the numbers were changed, and cycles begun, only by such calls
abbrev pub Paces : View → View → Type 0
Paces v w = (calls : List (View × View)) × PacesBetween calls v w
