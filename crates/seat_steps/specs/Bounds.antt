-- How much a step of a collection does at most, by the stage that it was in and the one that it is in: how many atomic steps it takes, and how many roots it sees
-- to, how many cells it pops, how many cards it cleans, or how many stretches of blocks it clears or sweeps. Cells are popped only while it traces, and stretches
-- are drawn only while it clears or sweeps. A bound depends on how many packets the heap has, how many references an object, and how many blocks a stretch, and
-- not on the number of cells, cards or roots.
use Rattle.std.specs.Prelude.{ℕ, ◌≡◌, ◌≤◌, ◌+◌, ◌*◌, Bool}
use Rattle.gc_table.specs.Running.{Ran}
use Rattle.gc_table.specs.Seats.{Across, view_of}
use Rattle.gc_table.specs.declared.view.View.{View}
use Rattle.mark_core.specs.Cards.{card_cells}
use Rattle.tracer.specs.StepBounds.{recycle_steps, trace_steps}
use Rattle.card_clean.specs.StepBounds.{clean_some_steps, see_to_steps}
use Rattle.mutator_ops.specs.Few.{AtMost}
use Rattle.seat_turns.specs.Standing.{flush_steps}
use Rattle.seat_steps.specs.Amounts.{DoesFew, DrawsNone, PassesFew}
use Rattle.seat_steps.specs.Passes.{CleansFewCards, SeesFewRoots}
use Rattle.seat_steps.specs.declared.came.Came.{Came}
use Rattle.seat_steps.specs.declared.came.Came.TheVariants as cames
use Rattle.seat_steps.specs.Steps.{StepsCollection, draws_for, objects_popped, shape_of, stretches_drawn}
use Rattle.seat_steps.specs.declared.stepper.Stage.{Stage}
use Rattle.seat_steps.specs.declared.stepper.Stage.TheVariants as stages
use Rattle.seat_steps.specs.declared.stepper.Stepper.{Stepper}

-- how many steps it takes at most to see to this many roots, with a packet that is looked for, or to move the deferred packets if none is found
abbrev pub rooting_steps : ℕ → Stepper → ℕ
rooting_steps most x = see_to_steps most (shape_of x) + recycle_steps (shape_of x)

-- to move the deferred packets, and to trace this many objects
abbrev pub tracing_steps : ℕ → Stepper → ℕ
tracing_steps most x = recycle_steps (shape_of x) + trace_steps most (shape_of x)

-- to clean this many cards and scan all their objects again, with a packet that is looked for, or to move the deferred packets if none is found
abbrev pub cleaning_steps : ℕ → Stepper → ℕ
cleaning_steps most x = clean_some_steps most (card_cells * most) (shape_of x) + recycle_steps (shape_of x)

-- to clear the marks of this many stretches: two for each, and one for each block
abbrev pub clearing_steps : ℕ → Stepper → ℕ
clearing_steps draws x = draws * (2 + (shape_of x).stretch)

-- to sweep them: two for each, and four for each block
abbrev pub sweeping_steps : ℕ → Stepper → ℕ
sweeping_steps draws x = draws * (2 + 4 * (shape_of x).stretch)

-- the numbers for the next cycle were set and the world went on, by this many steps at most, which pop no cell and draw no block; and then it came to its turn or
-- left, by this many
pub record EndsInFew (v w : View) : Type 0 where
  pub ended : View
  pub ran : Ran v ended
  pub sets : DoesFew 9 v ended
  pub last : Ran ended w
  pub few : AtMost 8 ended w

-- how much is done at most from one stage to another
abbrev pub IsBounded : Stage → Stage → ℕ → Stepper → Stepper → Type 0
IsBounded stages.Outside stages.Outside most x y = Across (AtMost 0) x.seat y.seat
IsBounded stages.Inside stages.Stopping most x y = Across (DoesFew (flush_steps (view_of x.seat) + 6)) x.seat y.seat
IsBounded stages.Inside stages.Outside most x y = Across (DoesFew (flush_steps (view_of x.seat) + 6)) x.seat y.seat
IsBounded stages.Stopping stages.Stopping most x y = Across (DoesFew 1) x.seat y.seat
IsBounded stages.Stopping stages.Rooting most x y = Across (DoesFew 5) x.seat y.seat
IsBounded stages.Stopping stages.Outside most x y = Across (DoesFew 5) x.seat y.seat
IsBounded stages.Rooting stages.Rooting most x y = Across (SeesFewRoots x.next most) x.seat y.seat × Across (DoesFew (rooting_steps most x)) x.seat y.seat
IsBounded stages.Rooting stages.Draining most x y = Across (SeesFewRoots x.next most) x.seat y.seat × Across (DoesFew (rooting_steps most x)) x.seat y.seat
IsBounded stages.Draining stages.Draining most x y = (objects_popped x y ≤ most) × Across DrawsNone x.seat y.seat × Across (AtMost (tracing_steps most x)) x.seat y.seat
IsBounded stages.Draining stages.Looking most x y = (objects_popped x y ≤ most) × Across DrawsNone x.seat y.seat × Across (AtMost (tracing_steps most x)) x.seat y.seat
IsBounded stages.Looking stages.Looking most x y = Across (DoesFew most) x.seat y.seat
IsBounded stages.Looking stages.Cleaning most x y = Across (DoesFew most) x.seat y.seat
IsBounded stages.Looking stages.Draining most x y = Across (DoesFew (most + 1)) x.seat y.seat
IsBounded stages.Looking stages.Clearing most x y = Across (DoesFew (most + 2)) x.seat y.seat
IsBounded stages.Looking stages.Sweeping most x y = Across (DoesFew (most + 3)) x.seat y.seat
IsBounded stages.Cleaning stages.Cleaning most x y = Across (CleansFewCards x.next most) x.seat y.seat × Across (DoesFew (cleaning_steps most x)) x.seat y.seat
IsBounded stages.Cleaning stages.Draining most x y = Across (CleansFewCards x.next most) x.seat y.seat × Across (DoesFew (cleaning_steps most x)) x.seat y.seat
IsBounded stages.Clearing stages.Clearing most x y = (stretches_drawn x y ≤ draws_for most x) × Across (PassesFew (clearing_steps (draws_for most x) x)) x.seat y.seat
IsBounded stages.Clearing stages.Rooting most x y = (stretches_drawn x y ≤ draws_for most x) × Across (PassesFew (clearing_steps (draws_for most x) x + 3)) x.seat y.seat
IsBounded stages.Sweeping stages.Sweeping most x y = (stretches_drawn x y ≤ draws_for most x) × Across (PassesFew (sweeping_steps (draws_for most x) x)) x.seat y.seat
IsBounded stages.Sweeping stages.Parting most x y = (stretches_drawn x y ≤ draws_for most x) × Across (PassesFew (sweeping_steps (draws_for most x) x + 1)) x.seat y.seat
IsBounded stages.Rooting stages.Sharing most x y = Across (DoesFew (rooting_steps most x + 1)) x.seat y.seat
IsBounded stages.Sharing stages.Sharing most x y = (objects_popped x y ≤ most) × Across DrawsNone x.seat y.seat × Across (AtMost (tracing_steps most x)) x.seat y.seat
IsBounded stages.Sharing stages.Passing most x y = (objects_popped x y ≤ most) × Across DrawsNone x.seat y.seat × Across (AtMost (tracing_steps most x)) x.seat y.seat
IsBounded stages.Passing stages.Passing most x y = Across (DoesFew (cleaning_steps most x)) x.seat y.seat
IsBounded stages.Passing stages.Sharing most x y = Across (DoesFew (cleaning_steps most x)) x.seat y.seat
IsBounded stages.Passing stages.Emptying most x y = Across (DoesFew (cleaning_steps most x)) x.seat y.seat
IsBounded stages.Emptying stages.Emptying most x y = (objects_popped x y ≤ most) × Across DrawsNone x.seat y.seat × Across (AtMost (tracing_steps most x + 1)) x.seat y.seat
IsBounded stages.Emptying stages.Closing most x y = (objects_popped x y ≤ most) × Across DrawsNone x.seat y.seat × Across (AtMost (tracing_steps most x + 2)) x.seat y.seat
IsBounded stages.Closing stages.Closing most x y = Across (DoesFew 1) x.seat y.seat
IsBounded stages.Closing stages.Rooting most x y = Across (DoesFew 2) x.seat y.seat
IsBounded stages.Parting stages.Parting most x y = Across (DoesFew 1) x.seat y.seat
IsBounded stages.Parting stages.Counting most x y = Across (DoesFew 2) x.seat y.seat
IsBounded stages.Counting stages.Counting most x y = Across (DoesFew most) x.seat y.seat
IsBounded stages.Counting stages.Ending most x y = Across (DoesFew most) x.seat y.seat
IsBounded stages.Ending stages.Inside most x y = Across EndsInFew x.seat y.seat
IsBounded stages.Ending stages.Outside most x y = Across EndsInFew x.seat y.seat
IsBounded s t most x y = ⊥

-- a step of a collection with this bound
abbrev pub IsBoundedStep : ℕ → Stepper → Stepper → Type 0
IsBoundedStep most x y = IsBounded x.stage y.stage most x y

-- what a step with this bound came to; a collection that it began is to be precise, or not
abbrev pub CollectsAtMost : Bool → ℕ → Came → Stepper → Stepper → Type 0
CollectsAtMost precise most cames.OutOfRange x y = (most ≡ 0) × (y ≡ x)
CollectsAtMost precise most came x y = StepsCollection precise most came x y × IsBoundedStep most x y
