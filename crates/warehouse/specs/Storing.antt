-- In which season what was stored was stored.
use Rattle.std.specs.Prelude.{ℕ, ◌&&◌, ◌||◌, not, List, [], ◌∷◌, Bool, true}
use Rattle.mark_core.specs.Seats.{is_the}
use Rattle.mark_core.specs.declared.kinds.Step.{Step}
use Rattle.gc_table.specs.Taking.{after}
use Rattle.gc_table.specs.declared.view.Entry.{Entry}
use Rattle.gc_table.specs.declared.view.View.{View}
use Rattle.gc_cycle.specs.Sorts.{stores_new, mutator_stores}

-- a word of an object, of a variable or of a new cell was stored
abbrev pub writes : Step → ℕ → Bool
writes step found = mutator_stores step found || stores_new step found

-- each time that the seat, from this view on, stored such a word, this was the season that it had read
abbrev pub stores_in : ℕ → View → List Entry → Bool
stores_in season v [] = true
stores_in season v (e ∷ es) = (not (writes e.step e.found) || is_the v.state.season_seen season) && stores_in season (after e.step e.found v) es
