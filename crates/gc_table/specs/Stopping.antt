-- How a seat finds the phase that stopped the world: as mutators leave it, until the seat itself has moved it.
use Rattle.std.specs.Prelude.{List, [], ◌∷◌, Bool, true, false, IsTrue, IsFalse}
use Rattle.mark_core.specs.Notes.{word_at}
use Rattle.mark_core.specs.Places.{the_phase}
use Rattle.mark_core.specs.Steps.{Core}
use Rattle.mark_core.specs.Rules.WorldRules.{is_stopped_phase}
use Rattle.mark_core.specs.declared.kinds.Step.{Step}
use Rattle.mark_core.specs.declared.kinds.Step.TheVariants.{RaiseStep, StorePhase}
use Rattle.gc_table.specs.declared.view.Entry.{Entry}
use Rattle.gc_table.specs.declared.view.View.{View}

-- the seat has moved the phase since it raised the flag, given whether it had before
abbrev pub moves_on : Bool → Step → Bool
moves_on b RaiseStep = false
moves_on b (StorePhase to) = true
moves_on b step = b

-- whether the phase was moved since the flag was raised last, by these events, latest last; b says so of the time before them
abbrev pub moved_from : Bool → List Entry → Bool
moved_from b [] = b
moved_from b (e ∷ es) = moved_from (moves_on b e.step) es

-- by its log the seat has moved the phase since it raised the flag last
abbrev pub has_moved : List Entry → Bool
has_moved es = moved_from false es

-- a seat that knows that the world is stopped, and hasn't moved the phase, finds it in none of the phases of a stop
abbrev pub Unmoved : Core → View → Type 0
Unmoved c v = IsTrue v.state.knows → IsFalse (has_moved v.log) → IsFalse (is_stopped_phase (word_at c.shape c.words the_phase))
