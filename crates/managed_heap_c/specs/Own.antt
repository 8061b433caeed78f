-- What a world comes to whose mutators have objects of their own.
use Rattle.std.specs.Prelude.{◌≡◌, ◌<◌, ◌⊎◌, ◌++◌, [], ◌∷◌, IsFalse, vec_len}
use Rattle.std.specs.Arc.{arc_value}
use Rattle.gc_table.specs.Seats.{Across, view_of}
use Rattle.mutator_ops.specs.Few.{AtMost}
use Rattle.stop_world.specs.Gates.{TurnsBack}
use Rattle.seat_turns.specs.TracerTries.{Dismisses}
use Rattle.seat_turns.specs.declared.background.Tracer.{Tracer}
use Rattle.seat_steps.specs.Handing.{IsNewStepper, StopsFrom}
use Rattle.seat_steps.specs.Stepping.{heap_of_stepper, shares}
use Rattle.seat_steps.specs.declared.stepper.Stage.TheVariants.{Outside}
use Rattle.seat_steps.specs.declared.stepper.Stepper.{Stepper}
use Rattle.managed_heap.specs.Calls.{heap_of}
use Rattle.managed_heap.specs.Lending.{HasAllStill, IsBack, KeepsRest}
use Rattle.managed_heap.specs.declared.mutator.Mutator.{Mutator}
use Rattle.managed_heap.specs.declared.mutator.Place.TheVariants as places
use Rattle.managed_heap.specs.Numbers.{ReadsStatistics}
use Rattle.managed_heap.specs.declared.numbers.Statistics.{Statistics}
use Rattle.managed_heap.specs.declared.world.World.{World}
use Rattle.managed_heap_c.specs.declared.sizes.CNumbers.{CNumbers}

-- all of the world is as it was, but that its mutators may be others
abbrev pub KeepsAllButMutators : World → World → Type 0
KeepsAllButMutators w x = KeepsRest w x × (x.tracers ≡ w.tracers)

-- all of the world is as it was, but that its tracers may be others
abbrev pub KeepsAllButTracers : World → World → Type 0
KeepsAllButTracers w x = KeepsRest w x × (x.mutators ≡ w.mutators)

-- the stepper is this mutator for a thread that may not wait: outside the world, with the same objects and variables, and new
pub record IsInSteps (m : Mutator) (s : Stepper) : Type 0 where
  pub outside : s.stage ≡ Outside
  pub same : heap_of_stepper s ≡ heap_of m
  pub world : (arc_value s.heap ≡ arc_value m.heap) × (s.name ≡ m.name)
  pub owned : IsFalse (shares s)
  pub stops : s.in_stops ≡ m.in_stops
  pub new : IsNewStepper s

-- the world had this mutator, which it lends in steps, and has the others still
abbrev pub LendsSteps : Stepper → World → World → Type 0
LendsSteps s w x = (m : Mutator) × (w.mutators.items ≡ x.mutators.items ++ m ∷ []) × KeepsAllButMutators w x × IsInSteps m s

-- the world has no mutator left, and has all that it had
abbrev pub LacksMutator : World → World → Type 0
LacksMutator w x = (w.mutators.items ≡ []) × (x.mutators.items ≡ []) × KeepsAllButMutators w x

-- the world has the mutator back
abbrev pub GoesBack : Mutator → World → World → Type 0
GoesBack m w x = IsBack m w x × KeepsAllButMutators w x

-- the world doesn't take the mutator, which is in steps again, new and outside, by no step if it was outside, and has all that it had
abbrev pub StaysOut : Mutator → Stepper → World → World → Type 0
StaysOut m t w x = (heap_of_stepper t ≡ heap_of m) × (arc_value t.heap ≡ arc_value m.heap) × (t.name ≡ m.name) × (x.mutators.items ≡ w.mutators.items) × KeepsAllButMutators w x × (m.place ≡ places.Outside → t.seat ≡ m.seat) × (t.stage ≡ Outside) × IsNewStepper t × (t.in_stops ≡ m.in_stops)

-- the world has a mutator back with these objects and variables: if it was inside it gave up its cache and left, by five steps at most, and it did nothing if not
abbrev pub TakesBack : Stepper → World → World → Type 0
TakesBack s w x = (m : Mutator) × (m.place ≡ places.Outside) × Across (AtMost 5) s.seat m.seat × Across (StopsFrom s.stage) s.seat m.seat × (heap_of m ≡ heap_of_stepper s) × (arc_value m.heap ≡ arc_value s.heap) × (m.name ≡ s.name) × (m.in_stops ≡ s.in_stops) × GoesBack m w x

-- the mutator is in steps anew, outside: it gave up its cache and left if it was inside, and did nothing if not
pub record IsTakenAnew (s t : Stepper) : Type 0 where
  pub outside : t.stage ≡ Outside
  pub new : IsNewStepper t
  pub stops : t.in_stops ≡ s.in_stops
  pub stopped : Across (StopsFrom s.stage) s.seat t.seat

-- the world doesn't take the mutator, which is as it was or in steps anew, and keeps its objects and variables, by five steps at most; and has all that it had
pub record Refuses (s t : Stepper) (w x : World) : Type 0 where
  pub same : heap_of_stepper t ≡ heap_of_stepper s
  pub of_world : (arc_value t.heap ≡ arc_value s.heap) × (t.name ≡ s.name)
  pub mutators : x.mutators.items ≡ w.mutators.items
  pub rest : KeepsAllButMutators w x
  pub few : Across (AtMost 5) s.seat t.seat
  pub came : (t ≡ s) ⊎ IsTakenAnew s t

-- the world had this tracer, and has the others still
abbrev pub LendsTracer : Tracer → World → World → Type 0
LendsTracer t w x = (w.tracers.items ≡ x.tracers.items ++ t ∷ []) × KeepsAllButTracers w x

-- the world has no tracer left, and has all that it had
abbrev pub LacksTracer : World → World → Type 0
LacksTracer w x = (w.tracers.items ≡ []) × (x.tracers.items ≡ []) × KeepsAllButTracers w x

-- the tracer has the world's name, one was out, and it is the world's now
abbrev pub TakesTracer : Tracer → World → World → Type 0
TakesTracer t w x = (x.tracers.items ≡ w.tracers.items ++ t ∷ []) × (t.name ≡ w.sizes.name) × (vec_len w.tracers < w.sizes.tracers) × KeepsAllButTracers w x

-- the world doesn't take the tracer, and has all that it had
abbrev pub RefusesTracer : World → World → Type 0
RefusesTracer w x = (x.tracers.items ≡ w.tracers.items) × KeepsAllButTracers w x

-- the tracers were told that they are dismissed
abbrev pub TellsTracers : World → World → Type 0
TellsTracers w x = Across Dismisses w.zero x.zero × HasAllStill w x

-- a stop was under way, and nothing was told
abbrev pub FindsStop : World → World → Type 0
FindsStop w x = Across TurnsBack w.zero x.zero × HasAllStill w x

-- the numbers that C has
abbrev pub statistics_of : CNumbers → Statistics
statistics_of out = record { cells = out.cells; free = out.free; marked = out.marked }

-- the numbers that C got are those that were read
abbrev pub Counts : World → World → CNumbers → Type 0
Counts w x out = ReadsStatistics (statistics_of out) (arc_value w.heap) (view_of w.zero) (view_of x.zero) × HasAllStill w x
