-- What a world of either kind comes to.
use Rattle.std.specs.Prelude.{◌≡◌}
use Rattle.managed_heap.specs.Lending.{AreAllBack, IsOpened}
use Rattle.shared_heap.specs.Lending.{AreAllBack as AreSharedBack, IsSharedOpened}
use Rattle.seat_turns.specs.declared.background.Tracer.{Tracer}
use Rattle.seat_steps.specs.declared.stepper.Stepper.{Stepper}
use Rattle.managed_heap_c.specs.Own as own
use Rattle.managed_heap_c.specs.Sharing as sharing
use Rattle.managed_heap_c.specs.Sizing.{AsksOwn, shared_sizes_of, sizes_of}
use Rattle.managed_heap_c.specs.declared.hands.AnyWorld.{AnyWorld}
use Rattle.managed_heap_c.specs.declared.hands.AnyWorld.TheVariants.{Owned, Shared}
use Rattle.managed_heap_c.specs.declared.sizes.CNumbers.{CNumbers}
use Rattle.managed_heap_c.specs.declared.sizes.CSizes.{CSizes}

-- it is new, and of these sizes
abbrev pub IsOpenedAs : CSizes → AnyWorld → Type 0
IsOpenedAs c (Owned w) = AsksOwn c × IsOpened (sizes_of c) w
IsOpenedAs c (Shared w) = (c.shared ≡ 1) × IsSharedOpened (shared_sizes_of c) w

-- all mutators and tracers are back
abbrev pub HasAll : AnyWorld → Type 0
HasAll (Owned w) = AreAllBack w
HasAll (Shared w) = AreSharedBack w

-- it lends a mutator, in steps
abbrev pub LendsSteps : Stepper → AnyWorld → AnyWorld → Type 0
LendsSteps s (Owned w) (Owned x) = own.LendsSteps s w x
LendsSteps s (Shared w) (Shared x) = sharing.LendsSteps s w x
LendsSteps s w x = ⊥

-- it has no mutator left
abbrev pub LacksMutator : AnyWorld → AnyWorld → Type 0
LacksMutator (Owned w) (Owned x) = own.LacksMutator w x
LacksMutator (Shared w) (Shared x) = sharing.LacksMutator w x
LacksMutator w x = ⊥

-- it has the mutator back
abbrev pub TakesBack : Stepper → AnyWorld → AnyWorld → Type 0
TakesBack s (Owned w) (Owned x) = own.TakesBack s w x
TakesBack s (Shared w) (Shared x) = sharing.TakesBack s w x
TakesBack s w x = ⊥

-- it doesn't take the mutator
abbrev pub Refuses : Stepper → Stepper → AnyWorld → AnyWorld → Type 0
Refuses s t (Owned w) (Owned x) = own.Refuses s t w x
Refuses s t (Shared w) (Shared x) = sharing.Refuses s t w x
Refuses s t w x = ⊥

-- it lends a tracer
abbrev pub LendsTracer : Tracer → AnyWorld → AnyWorld → Type 0
LendsTracer t (Owned w) (Owned x) = own.LendsTracer t w x
LendsTracer t (Shared w) (Shared x) = sharing.LendsTracer t w x
LendsTracer t w x = ⊥

-- it has no tracer left
abbrev pub LacksTracer : AnyWorld → AnyWorld → Type 0
LacksTracer (Owned w) (Owned x) = own.LacksTracer w x
LacksTracer (Shared w) (Shared x) = sharing.LacksTracer w x
LacksTracer w x = ⊥

-- it has the tracer back
abbrev pub TakesTracer : Tracer → AnyWorld → AnyWorld → Type 0
TakesTracer t (Owned w) (Owned x) = own.TakesTracer t w x
TakesTracer t (Shared w) (Shared x) = sharing.TakesTracer t w x
TakesTracer t w x = ⊥

-- it doesn't take the tracer
abbrev pub RefusesTracer : AnyWorld → AnyWorld → Type 0
RefusesTracer (Owned w) (Owned x) = own.RefusesTracer w x
RefusesTracer (Shared w) (Shared x) = sharing.RefusesTracer w x
RefusesTracer w x = ⊥

-- the tracers were told that they are dismissed
abbrev pub TellsTracers : AnyWorld → AnyWorld → Type 0
TellsTracers (Owned w) (Owned x) = own.TellsTracers w x
TellsTracers (Shared w) (Shared x) = sharing.TellsTracers w x
TellsTracers w x = ⊥

-- a stop was under way, and nothing was told
abbrev pub FindsStop : AnyWorld → AnyWorld → Type 0
FindsStop (Owned w) (Owned x) = own.FindsStop w x
FindsStop (Shared w) (Shared x) = sharing.FindsStop w x
FindsStop w x = ⊥

-- its numbers were read
abbrev pub Counts : AnyWorld → AnyWorld → CNumbers → Type 0
Counts (Owned w) (Owned x) out = own.Counts w x out
Counts (Shared w) (Shared x) out = sharing.Counts w x out
Counts w x out = ⊥
