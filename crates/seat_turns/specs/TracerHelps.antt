-- What a step of help by a tracer came to.
use Rattle.std.specs.Prelude.{ℕ, ◌≡◌, ◌<◌, ◌⊎◌}
use Rattle.gc_table.specs.Seats.{Across}
use Rattle.gc_table.specs.declared.view.View.{View}
use Rattle.stop_world.specs.Gates.{Declines}
use Rattle.mark_core.specs.declared.kinds.Shape.{Shape}
use Rattle.gc_cycle.specs.HelpTurns.{TakesShortTurn, turn_steps}
use Rattle.gc_cycle.specs.Pieces.{stretches_in}
use Rattle.mutator_ops.specs.Few.{AtMost}
use Rattle.seat_turns.specs.Tallying.{Tallies}
use Rattle.seat_turns.specs.declared.background.Tracer.{Tracer}
use Rattle.seat_turns.specs.declared.helping.TryHelp.{TryHelp}
use Rattle.seat_turns.specs.declared.helping.TryHelp.TheVariants as helps

-- among the helpers the seat did this much, of so many objects or blocks at most, and has left them
abbrev pub TakesHelpTurn : ℕ → ℕ → View → View → Type 0
TakesHelpTurn most done v w = TakesShortTurn most (stretches_in v.shape most) done v w

-- help was closed, or nothing was left to do
abbrev pub FindsNoHelp : ℕ → View → View → Type 0
FindsNoHelp most v w = Declines v w ⊎ TakesHelpTurn most 0 v w

-- how many steps a tracer takes at most: two to join and one to leave, and those of tracing so many objects or of sweeping so many blocks
abbrev pub tracer_help_steps : ℕ → Shape → ℕ
tracer_help_steps most sh = turn_steps most (stretches_in sh most) sh

abbrev pub HelpsInFew : ℕ → View → View → Type 0
HelpsInFew most v w = AtMost (tracer_help_steps most v.shape) v w

-- it took so few steps, told nothing as traced, and has traced as much beside the mutators as before
pub record HelpsAlong (most : ℕ) (x y : Tracer) : Type 0 where
  pub few : Across (HelpsInFew most) x.seat y.seat
  pub tally : Across (Tallies x.traced y.traced) x.seat y.seat
  pub traced : y.traced ≡ x.traced
  pub heap : y.heap ≡ x.heap
  pub name : y.name ≡ x.name

-- it did some of the work of a stop; or help was closed, or nothing was left to do; or it may do nothing, and is as it was
abbrev pub TracerHelps : ℕ → TryHelp → Tracer → Tracer → Type 0
TracerHelps most helps.Helped x y = ((done : ℕ) × (0 < done) × Across (TakesHelpTurn most done) x.seat y.seat) × HelpsAlong most x y
TracerHelps most helps.NoHelp x y = Across (FindsNoHelp most) x.seat y.seat × HelpsAlong most x y
TracerHelps most helps.OutOfRange x y = (most ≡ 0) × (y ≡ x)
