-- What a call of a stepper does to the pace of cycles: where it begins one, and which of the numbers that pace them it changes.
use Rattle.std.specs.Prelude.{◌≡◌, ◌⊎◌, false, List, [], ◌∷◌, Option, None, Some, IfSome, IsTrue}
use Rattle.std.specs.Int.Count.{ones}
use Rattle.mark_core.specs.Numbers.{free_count}
use Rattle.mark_core.specs.declared.kinds.Step.{Step}
use Rattle.mark_core.specs.declared.kinds.Step.TheVariants.{AddStat}
use Rattle.mark_core.specs.declared.seat.CacheState.{CacheState}
use Rattle.gc_table.specs.Log.{events}
use Rattle.gc_table.specs.Running.{Ran}
use Rattle.gc_table.specs.declared.view.View.{View}
use Rattle.gc_cycle.specs.Events.{never}
use Rattle.gc_cycle.specs.Sorts.{tries_marking}
use Rattle.gc_cycle.specs.Statistics.{ChangesBy, RoundNumbers}
use Rattle.gc_cycle.specs.declared.counts.Refill.{Refill}
use Rattle.cache_refills.specs.Getting.{RefillsTo}
use Rattle.cache_refills.specs.Pace.Pacing.{begins_where_due}

-- the step that counts the free cells of a cache again; none if there is none
abbrev pub back : Option CacheState → List Step
back None = []
back (Some c) = AddStat free_count (ones c.free) false ∷ []

-- no cycle was begun; no number was changed, and the seat's cache stayed; or its free cells were counted again, and the seat has no cache then
pub record CarriesPace (v w : View) : Type 0 where
  pub ran : Ran v w
  pub unbegun : IsTrue (never tries_marking (events v w))
  pub numbers : ((w.state.cache ≡ v.state.cache) × ChangesBy [] v w) ⊎ ((w.state.cache ≡ None) × ChangesBy (back v.state.cache) v w)

-- no cycle was begun; and no number was changed, or the free cells of the seat's cache were counted again
pub record KeepsPace (v w : View) : Type 0 where
  pub ran : Ran v w
  pub unbegun : IsTrue (never tries_marking (events v w))
  pub numbers : ChangesBy [] v w ⊎ ChangesBy (back v.state.cache) v w

-- a try to get a cell, which came to this, began a cycle only where one was due, and changed the numbers as a refill of that answer does; and beside it the pace
-- was kept
pub record PacesTry (v w : View) : Type 0 where
  pub asked : View
  pub first : CarriesPace v asked
  pub got : View
  pub ran : Ran asked got
  pub tried : Option Refill
  pub gets : IfSome tried (λ r. RefillsTo r asked.state.made asked got)
  pub due : IsTrue (begins_where_due (events asked got))
  pub numbers : RoundNumbers tried asked got
  pub last : KeepsPace got w

-- the pace was kept, or a try was made that kept it
abbrev pub Paces : View → View → Type 0
Paces v w = KeepsPace v w ⊎ PacesTry v w
