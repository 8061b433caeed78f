-- What a step of a thread finds, while others step: what one plain heap of all sections had at the moment of its event.
use Rattle.std.specs.Prelude.{ℕ, ◌≡◌}
use Rattle.mark_core.specs.Steps.{start_core}
use Rattle.mark_core.specs.declared.kinds.Step.{Step}
use Rattle.gc_table.specs.Taking.{Finds}
use Rattle.gc_table.specs.declared.view.View.{View}
use Rattle.gc_table.specs.Agreement.{AgreesWith}
use Rattle.gc_table.specs.AgreementLaws.{TellsIn, world_run}
use Rattle.gc_table.specs.RunWorlds.{World, start_world}

-- the plain heap of all sections that the events before the step have made
abbrev pub heap_found : (step : Step) (n : ℕ) (v : View) → Finds step n v → World
heap_found step n v f = world_run f.past (start_core f.state.core.shape 1) (start_world f.state.core.shape)

-- the words at the moment of the step agreed with this heap, and the word that the step found is what this heap had there
abbrev pub StepsFind : Type 0
StepsFind = (step : Step) (n : ℕ) (v : View) (f : Finds step n v) → AgreesWith f.state.core (heap_found step n v f) × TellsIn f.state.core (heap_found step n v f) v.state step n
