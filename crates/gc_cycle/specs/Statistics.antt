-- What a call does to the statistics that pace a cycle: the cells marked last, those scanned again, the traced ones, and the free ones.
use Rattle.std.specs.Prelude.{ℕ, ◌≡◌, ◌⊎◌, List, [], ◌∷◌, Bool, true, false, Option, Some, None}
use Rattle.std.specs.Int.Count.{ones}
use Rattle.mark_core.specs.Numbers.{free_count, traced_count}
use Rattle.mark_core.specs.declared.kinds.Step.{Step}
use Rattle.mark_core.specs.declared.kinds.Step.TheVariants.{AddStat, Reset}
use Rattle.gc_table.specs.Log.{events}
use Rattle.gc_table.specs.Running.{Ran}
use Rattle.gc_table.specs.declared.view.Entry.{Entry}
use Rattle.gc_table.specs.declared.view.View.{View}
use Rattle.packet_pools.specs.Fields.{picked}
use Rattle.alloc_cache.specs.declared.cache.Cache.{Cache}
use Rattle.gc_cycle.specs.OneCycle.{EndsCycle}
use Rattle.gc_cycle.specs.declared.counts.Counts.{Counts}
use Rattle.gc_cycle.specs.declared.counts.Refill.{Refill}
use Rattle.gc_cycle.specs.declared.counts.Refill.TheVariants as refills
use Rattle.gc_cycle.specs.declared.counts.Safe.{Safe}
use Rattle.gc_cycle.specs.declared.counts.Safe.TheVariants as safes

-- the step neither adds to a statistic, nor takes from it, nor sets one or a counter to 0
abbrev pub leaves_numbers : Step → Bool
leaves_numbers (AddStat which by down) = false
leaves_numbers (Reset which) = false
leaves_numbers step = true

-- the step, if it does
abbrev pub changing_step : Step → ℕ → List Step
changing_step (AddStat which by down) found = AddStat which by down ∷ []
changing_step (Reset which) found = Reset which ∷ []
changing_step step found = []

-- all steps among these events that do, in their order
abbrev pub numbers_changed : List Entry → List Step
numbers_changed es = picked changing_step es

-- the call changed the numbers by these steps, and by no other
pub record ChangesBy (steps : List Step) (v w : View) : Type 0 where
  pub ran : Ran v w
  pub all : numbers_changed (events v w) ≡ steps

-- the step that takes the free cells of a claimed block off the count of free cells
abbrev pub takes_off : Cache → Step
takes_off h = AddStat free_count (ones h.cells) true

-- the step that adds the free cells that are left in a cache to that count
abbrev pub gives_back : Cache → Step
gives_back h = AddStat free_count (ones h.cells) false

-- the step that raises the number of traced cells by n
abbrev pub tells : ℕ → Step
tells n = AddStat traced_count n false

-- a cycle ended between the two views of each pair; up to the last of them nothing else changed the numbers, and after it these steps did, and no other
abbrev pub BetweenCycles : List Step → List (View × View) → View → View → Type 0
BetweenCycles steps [] v w = ChangesBy steps v w
BetweenCycles steps (end ∷ ends) v w = ChangesBy [] v end.0 × ((counts : Counts) × EndsCycle counts end.0 end.1) × BetweenCycles steps ends end.1 w

-- what the cycles that ended in the call set stays, but for these steps after the last of them
abbrev pub ChangesNumbers : List Step → View → View → Type 0
ChangesNumbers steps v w = (ends : List (View × View)) × BetweenCycles steps ends v w

-- with a cache: its free cells were taken off, and it may have been told how many cells were traced for it. With Full: nothing was changed, or a block was
-- claimed and given up
abbrev pub RefillsNumbers : Refill → View → View → Type 0
RefillsNumbers (refills.Cache h paid) v w = ChangesNumbers (takes_off h ∷ []) v w ⊎ ChangesNumbers (takes_off h ∷ tells paid.done ∷ []) v w
RefillsNumbers refills.Full v w = ChangesNumbers [] v w ⊎ ((h : Cache) × ChangesNumbers (takes_off h ∷ gives_back h ∷ []) v w)

-- what a round changed, which may have no answer
abbrev pub RoundNumbers : Option Refill → View → View → Type 0
RoundNumbers None v w = ChangesNumbers [] v w
RoundNumbers (Some r) v w = RefillsNumbers r v w

-- what a search for a block takes off
abbrev pub taken : Option Cache → List Step
taken None = []
taken (Some h) = takes_off h ∷ []

-- the answer of a mutator that has claimed this cache: it may have told what it traced for it, or it gave it up
abbrev pub PaysNumbers : Cache → Refill → View → View → Type 0
PaysNumbers h (refills.Cache k paid) v w = (k ≡ h) × (ChangesBy [] v w ⊎ ChangesBy (tells paid.done ∷ []) v w)
PaysNumbers h refills.Full v w = ChangesBy (gives_back h ∷ []) v w

-- what is changed if a mutator was handed the first and has the second afterwards
abbrev pub given_up : Option Cache → Option Cache → List Step
given_up None kept = []
given_up (Some h) None = gives_back h ∷ []
given_up (Some h) (Some k) = []

-- the mutator kept its cache, or gave it up and counted its free cells again
pub record GivesUp (handed kept : Option Cache) (v w : View) : Type 0 where
  pub changed : ChangesBy (given_up handed kept) v w
  pub same : (kept ≡ handed) ⊎ (kept ≡ None)

-- the cache that comes with an answer
abbrev pub cache_of : Safe → Option Cache
cache_of (safes.Going kept) = kept
cache_of safes.Full = None
