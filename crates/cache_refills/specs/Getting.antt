-- What a refill answers: a cache that is paid for, or that the heap is full.
use Rattle.std.specs.Prelude.{ℕ, ◌≡◌, ◌<◌, [], ◌∷◌, IsFalse, IsTrue}
use Rattle.std.specs.Int.Count.{ones}
use Rattle.mark_core.specs.declared.kinds.Phase.TheVariants.{Marking}
use Rattle.mark_core.specs.declared.kinds.Shape.{Shape}
use Rattle.gc_table.specs.PlainSteps.{own_section}
use Rattle.gc_table.specs.Running.{Ran}
use Rattle.gc_table.specs.declared.view.View.{View}
use Rattle.packet_pools.specs.Fields.{picked}
use Rattle.packet_pools.specs.Seeking.{some_event}
use Rattle.alloc_cache.specs.Caching.{IsCached}
use Rattle.alloc_cache.specs.declared.cache.Cache.{Cache}
use Rattle.gc_table.specs.Log.{events}
use Rattle.gc_cycle.specs.declared.counts.Paid.{Paid}
use Rattle.gc_cycle.specs.declared.counts.Refill.{Refill}
use Rattle.gc_cycle.specs.declared.counts.Refill.TheVariants as refills
use Rattle.gc_cycle.specs.Moments.{begins}
use Rattle.cache_refills.specs.Pace.Deferring.{RecyclesLast}
use Rattle.cache_refills.specs.Pace.Early.{PassesNext}
use Rattle.cache_refills.specs.Pace.Others.{SeesToNext}
use Rattle.cache_refills.specs.Pace.Paying.{Pays, claimed_in_stop, since_claim}
use Rattle.gc_cycle.specs.Events.{never}
use Rattle.gc_cycle.specs.Sorts.{claims, lowers_free, reads_phase}
use Rattle.gc_cycle.specs.Answering.{EndsFull, GoesOn, StoredAt}

-- a payment for this many cells followed the claim: by the numbers read in it, the next cards were passed, and the roots of the section whose turn it was were
-- seen to; and it popped no cell that it had deferred
pub record LooksBeyond (sh : Shape) (cells : ℕ) (paid : Paid) (v w : View) : Type 0 where
  pub paying : View
  pub before : Ran v paying
  pub pays : Ran paying w
  pub claimed : IsTrue (some_event claims (events v paying))
  pub unclaimed : IsTrue (never claims (events paying w))
  pub passes : PassesNext sh cells paying w
  pub others : SeesToNext sh paying w
  pub defers : RecyclesLast sh paid paying w

-- a cache with free cells, which were taken off the number of free cells, and paid for; if the seat left the world on the way, its position is stored; a payment
-- in Marking looked beyond the seat's own roots and what was to be traced, and recycled deferred packets last
pub record GetsCache (h : Cache) (paid : Paid) (done : ℕ) (v w : View) : Type 0 where
  pub goes_on : GoesOn v w
  pub cached : IsCached h w
  pub position : StoredAt done v w
  pub free : 0 < ones h.cells
  pub told : picked lowers_free (since_claim (events v w)) ≡ ones h.cells ∷ []
  pub pays : Pays v.shape (own_section v.state) (ones h.cells) paid (begins v) (events v w)
  pub beyond : IsFalse (claimed_in_stop (events v w)) → IsTrue (some_event (reads_phase Marking) (since_claim (events v w))) → LooksBeyond v.shape (ones h.cells) paid v w

-- what a refill answers: a cache with free cells, or that the heap is full
abbrev pub RefillsTo : Refill → ℕ → View → View → Type 0
RefillsTo (refills.Cache h paid) done v w = GetsCache h paid done v w
RefillsTo refills.Full done v w = EndsFull done v w
