-- What a world comes to whose mutators share all objects.
use Rattle.std.specs.Prelude.{◌≡◌, ◌<◌, ◌+◌, ◌⊎◌, ◌++◌, [], ◌∷◌, IsFalse, vec_len}
use Rattle.std.specs.Arc.{arc_value}
use Rattle.gc_table.specs.Seats.{Across, view_of}
use Rattle.stop_world.specs.Gates.{TurnsBack}
use Rattle.mutator_ops.specs.Few.{AtMost}
use Rattle.seat_turns.specs.Sharing.{LeavesHeap}
use Rattle.seat_turns.specs.Standing.{flush_steps}
use Rattle.seat_turns.specs.TracerTries.{Dismisses}
use Rattle.seat_turns.specs.declared.background.Tracer.{Tracer}
use Rattle.seat_steps.specs.Handing.{IsNewStepper, StopsFrom}
use Rattle.seat_steps.specs.declared.stepper.Stage.TheVariants as stages
use Rattle.seat_steps.specs.declared.stepper.Stepper.{Stepper}
use Rattle.shared_heap.specs.Handing.{IsInSteps, IsOfSteps}
use Rattle.shared_heap.specs.Lending.{HasAllStill, IsBack, KeepsRest}
use Rattle.shared_heap.specs.declared.mutator.Place.TheVariants.{Outside}
use Rattle.shared_heap.specs.declared.mutator.SharedMutator.{SharedMutator}
use Rattle.managed_heap.specs.Numbers.{ReadsStatistics}
use Rattle.managed_heap.specs.declared.numbers.Statistics.{Statistics}
use Rattle.shared_heap.specs.declared.world.SharedWorld.{SharedWorld}
use Rattle.managed_heap_c.specs.declared.sizes.CNumbers.{CNumbers}

-- all of the world is as it was, but that its mutators may be others
abbrev pub KeepsAllButMutators : SharedWorld → SharedWorld → Type 0
KeepsAllButMutators w x = KeepsRest w x × (x.tracers ≡ w.tracers)

-- all of the world is as it was, but that its tracers may be others
abbrev pub KeepsAllButTracers : SharedWorld → SharedWorld → Type 0
KeepsAllButTracers w x = KeepsRest w x × (x.mutators ≡ w.mutators)

-- the world had this mutator, which it lends in steps, and has the others still
abbrev pub LendsSteps : Stepper → SharedWorld → SharedWorld → Type 0
LendsSteps s w x = (m : SharedMutator) × (w.mutators.items ≡ m ∷ x.mutators.items) × KeepsAllButMutators w x × IsInSteps m s

-- the world has no mutator left, and has all that it had
abbrev pub LacksMutator : SharedWorld → SharedWorld → Type 0
LacksMutator w x = (w.mutators.items ≡ []) × (x.mutators.items ≡ []) × KeepsAllButMutators w x

-- the world has the mutator back
abbrev pub GoesBack : SharedMutator → SharedWorld → SharedWorld → Type 0
GoesBack m w x = IsBack m w x × KeepsAllButMutators w x

-- the world doesn't take the mutator, which is in steps again, new and outside, by no step if it was outside, and has all that it had
abbrev pub StaysOut : SharedMutator → Stepper → SharedWorld → SharedWorld → Type 0
StaysOut m t w x = Across LeavesHeap m.seat t.seat × (arc_value t.heap ≡ arc_value m.heap) × (t.name ≡ m.name) × (x.mutators.items ≡ w.mutators.items) × KeepsAllButMutators w x × (m.place ≡ Outside → t.seat ≡ m.seat) × (t.stage ≡ stages.Outside) × IsNewStepper t × IsFalse t.in_stops

-- the world has the mutator back; no step was taken that a plain heap sees
abbrev pub TakesBack : Stepper → SharedWorld → SharedWorld → Type 0
TakesBack s w x = (m : SharedMutator) × IsOfSteps s m × GoesBack m w x

-- the mutator is in steps anew, outside: if it was inside it stored the roots that lagged, gave up its cache and left, and it did nothing if not
pub record IsTakenAnew (s t : Stepper) : Type 0 where
  pub outside : t.stage ≡ stages.Outside
  pub new : IsNewStepper t
  pub stops : IsFalse t.in_stops
  pub stopped : Across (StopsFrom s.stage) s.seat t.seat

-- the world doesn't take the mutator, which is as it was or in steps anew, took no step that a plain heap sees, and five at most beside the stores of roots that lag; and has all that it had
pub record Refuses (s t : Stepper) (w x : SharedWorld) : Type 0 where
  pub leaves : Across LeavesHeap s.seat t.seat
  pub of_world : (arc_value t.heap ≡ arc_value s.heap) × (t.name ≡ s.name)
  pub mutators : x.mutators.items ≡ w.mutators.items
  pub rest : KeepsAllButMutators w x
  pub few : Across (AtMost (flush_steps (view_of s.seat) + 5)) s.seat t.seat
  pub came : (t ≡ s) ⊎ IsTakenAnew s t

-- the world had this tracer, and has the others still
abbrev pub LendsTracer : Tracer → SharedWorld → SharedWorld → Type 0
LendsTracer t w x = (w.tracers.items ≡ x.tracers.items ++ t ∷ []) × KeepsAllButTracers w x

-- the world has no tracer left, and has all that it had
abbrev pub LacksTracer : SharedWorld → SharedWorld → Type 0
LacksTracer w x = (w.tracers.items ≡ []) × (x.tracers.items ≡ []) × KeepsAllButTracers w x

-- the tracer has the world's name, one was out, and it is the world's now
abbrev pub TakesTracer : Tracer → SharedWorld → SharedWorld → Type 0
TakesTracer t w x = (x.tracers.items ≡ w.tracers.items ++ t ∷ []) × (t.name ≡ w.sizes.name) × (vec_len w.tracers < w.sizes.tracers) × KeepsAllButTracers w x

-- the world doesn't take the tracer, and has all that it had
abbrev pub RefusesTracer : SharedWorld → SharedWorld → Type 0
RefusesTracer w x = (x.tracers.items ≡ w.tracers.items) × KeepsAllButTracers w x

-- the tracers were told that they are dismissed
abbrev pub TellsTracers : SharedWorld → SharedWorld → Type 0
TellsTracers w x = Across Dismisses w.zero x.zero × HasAllStill w x

-- a stop was under way, and nothing was told
abbrev pub FindsStop : SharedWorld → SharedWorld → Type 0
FindsStop w x = Across TurnsBack w.zero x.zero × HasAllStill w x

-- the numbers that C has
abbrev pub numbers_of : CNumbers → Statistics
numbers_of out = record { cells = out.cells; free = out.free; marked = out.marked }

-- the numbers that C got are those that were read
abbrev pub Counts : SharedWorld → SharedWorld → CNumbers → Type 0
Counts w x out = ReadsStatistics (numbers_of out) (arc_value w.heap) (view_of w.zero) (view_of x.zero) × HasAllStill w x
