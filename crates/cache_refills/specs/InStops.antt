-- What a mutator that asks for a cache and collects only in stops is answered.
use Rattle.std.specs.Prelude.{ℕ, ◌≡◌, ◌<◌, ◌∷◌, [], List, Bool}
use Rattle.std.specs.Int.Count.{ones}
use Rattle.gc_table.specs.Log.{events}
use Rattle.gc_table.specs.Running.{Ran}
use Rattle.gc_table.specs.declared.view.Entry.{Entry}
use Rattle.gc_table.specs.declared.view.View.{View}
use Rattle.packet_pools.specs.Fields.{picked}
use Rattle.alloc_cache.specs.Caching.{IsCached}
use Rattle.alloc_cache.specs.declared.cache.Cache.{Cache}
use Rattle.gc_cycle.specs.declared.counts.Refill.{Refill}
use Rattle.gc_cycle.specs.declared.counts.Refill.TheVariants as refills
use Rattle.gc_cycle.specs.Answering.{EndsFull, GoesOn, StoredAt, TellsFull}
use Rattle.gc_cycle.specs.Events.{never}
use Rattle.cache_refills.specs.Pace.Pacing.{tries_marking}
use Rattle.cache_refills.specs.Pace.Paying.{since_claim}
use Rattle.cache_refills.specs.Refilling.{EndsClaimed}
use Rattle.gc_cycle.specs.Sorts.{lowers_free}

-- the call didn't try to begin a cycle
abbrev pub begins_none : List Entry → Bool
begins_none es = never tries_marking es

-- the mutator has claimed this cache outside a stop, with its position stored if it left the world before
pub record HasSearched (h : Cache) (done : ℕ) (v w : View) : Type 0 where
  pub ran : Ran v w
  pub tells : TellsFull v w
  pub position : StoredAt done v w
  pub first : List Entry
  pub claimed : EndsClaimed h first v w

-- a cache with free cells, which were taken off the number of free cells; if the seat left the world on the way, its position is stored
pub record FillsCache (h : Cache) (done : ℕ) (v w : View) : Type 0 where
  pub goes_on : GoesOn v w
  pub cached : IsCached h w
  pub position : StoredAt done v w
  pub free : 0 < ones h.cells
  pub told : picked lowers_free (since_claim (events v w)) ≡ ones h.cells ∷ []

-- what a refill that collects only in stops answers: a cache with free cells, or that the heap is full
abbrev pub FillsTo : Refill → ℕ → View → View → Type 0
FillsTo (refills.Cache h paid) done v w = FillsCache h done v w
FillsTo refills.Full done v w = EndsFull done v w
