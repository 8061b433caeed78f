-- Through which phases a step of a collection goes, and by which steps it changes the numbers.
use Rattle.std.specs.Prelude.{ℕ, ◌≡◌, ◌-◌, List, [], ◌∷◌, Bool, true, false, IsTrue}
use Rattle.mark_core.specs.Numbers.{card_counter, free_count, last_count, rescanned_count, traced_count}
use Rattle.mark_core.specs.declared.kinds.Phase.{Phase}
use Rattle.mark_core.specs.declared.kinds.Shape.{Shape}
use Rattle.mark_core.specs.declared.kinds.Step.{Step}
use Rattle.mark_core.specs.declared.kinds.Step.TheVariants.{AddStat, DropStep, Reset, StorePhase}
use Rattle.gc_table.specs.Log.{Only, events}
use Rattle.gc_table.specs.declared.view.View.{View}
use Rattle.packet_pools.specs.Fields.{picked}
use Rattle.gc_cycle.specs.Events.{never}
use Rattle.gc_cycle.specs.Finishing.{finishes}
use Rattle.gc_cycle.specs.Sorts.{pops}
use Rattle.gc_cycle.specs.Statistics.{ChangesBy}
use Rattle.gc_cycle.specs.declared.counts.Counts.{Counts}

-- a step of the seat that stopped the world: of its section nothing is changed; the stop may end, and none begins
abbrev pub goes_on : Step → Bool
goes_on DropStep = true
goes_on step = finishes step

-- the phase to which the step moved it
abbrev pub phase_stored : Step → ℕ → List Phase
phase_stored (StorePhase to) found = to ∷ []
phase_stored step found = []

-- the call moved the phase to these, one after another, and changed the numbers by these steps; it did nothing of a mutator, and popped no cell
pub record TakesCourse (phases : List Phase) (steps : List Step) (v w : View) : Type 0 where
  pub only : Only goes_on v w
  pub moved : picked phase_stored (events v w) ≡ phases
  pub changed : ChangesBy steps v w
  pub unpopped : IsTrue (never pops (events v w))

-- the steps that set the numbers for the next cycle, by what this one found
abbrev pub sets_numbers : Shape → Counts → List Step
sets_numbers sh counts =
    Reset last_count
    ∷ AddStat last_count counts.marked false
    ∷ Reset rescanned_count
    ∷ AddStat rescanned_count counts.rescanned false
    ∷ Reset free_count
    ∷ AddStat free_count (sh.cells - counts.marked) false
    ∷ Reset traced_count
    ∷ Reset card_counter
    ∷ []
