-- What a step of a stepper's collection came to, by the stage that it was in and the one that it is in.
use Rattle.std.specs.Prelude.{ℕ, ◌≡◌, ◌≤◌, ◌<◌, ◌+◌, ◌-◌, ◌⊎◌, min, Bool, true, false, IsTrue, IsFalse}
use Rattle.std.specs.Arc.{arc_value}
use Rattle.mark_core.specs.Layout.{block_count, card_count, root_count}
use Rattle.mark_core.specs.declared.kinds.Phase.TheVariants.{Clear, Sweep}
use Rattle.mark_core.specs.declared.kinds.Shape.{Shape}
use Rattle.gc_table.specs.Log.{steps_of}
use Rattle.gc_table.specs.Rule.{KnowsFull}
use Rattle.gc_table.specs.Seats.{Across, did, view_of}
use Rattle.packet_pools.specs.Counts.{count_of}
use Rattle.card_clean.specs.Leaving.{rescanned_in}
use Rattle.sweeper.specs.Freeing.{freed_in}
use Rattle.gc_cycle.specs.Finishing.{IsOpenPart, IsPart, most as greatest}
use Rattle.gc_cycle.specs.Pieces.{CleansCards, LooksAt, stretches_in}
use Rattle.gc_cycle.specs.Settling.{alloc_reads}
use Rattle.gc_cycle.specs.Sorts.{clears, draws_block, pops}
use Rattle.gc_cycle.specs.RoundParts.{LacksPacket}
use Rattle.gc_cycle.specs.Stepping.{FindsRunning}
use Rattle.gc_cycle.specs.declared.card_steps.Look.TheVariants as looks
use Rattle.gc_cycle.specs.declared.counts.Counts.{Counts}
use Rattle.seat_steps.specs.Course.{AsksForStop, BeginsMarking, EndsBy, FindsHeapFull}
use Rattle.seat_steps.specs.Passes.{BeginsAgain, BeginsClear, BeginsSharing, BeginsSweep, DrainsAlone, EndsAlone, EndsSharing, EndsSweep, FindsHelpers, FindsPacketLeft, LeavesPacket, SeesRoots, SharesFor, TracesFor}
use Rattle.seat_steps.specs.declared.came.Came.{Came}
use Rattle.seat_steps.specs.declared.came.Came.TheVariants as cames
use Rattle.seat_steps.specs.Stepping.{KeepsCycle, KeepsRest}
use Rattle.seat_steps.specs.declared.stepper.Stage.{Stage}
use Rattle.seat_steps.specs.declared.stepper.Stage.TheVariants as stages
use Rattle.seat_steps.specs.declared.stepper.Stepper.{Stepper}

-- the sizes of its heap
abbrev pub shape_of : Stepper → Shape
shape_of x = (arc_value x.heap).shape

-- how many roots, cards and blocks are left of the pass that it is in
abbrev pub roots_left : Stepper → ℕ
roots_left x = root_count (shape_of x) - x.next

abbrev pub cards_left : Stepper → ℕ
cards_left x = card_count (shape_of x) - x.next

abbrev pub blocks_left : Stepper → ℕ
blocks_left x = block_count (shape_of x) - x.next

-- how many objects were popped
abbrev pub objects_popped : Stepper → Stepper → ℕ
objects_popped x y = count_of pops (did x.seat y.seat)

-- how many stretches of blocks came in hand
abbrev pub stretches_drawn : Stepper → Stepper → ℕ
stretches_drawn x y = count_of (draws_block (block_count (shape_of x))) (did x.seat y.seat)

-- how many stretches a step takes that is to clear or sweep at most this many blocks: as many as have no more between them, but at least one
abbrev pub draws_for : ℕ → Stepper → ℕ
draws_for most x = stretches_in (shape_of x) most

-- the cells that the step freed were added to those freed before
abbrev pub CountsFreed : Stepper → Stepper → Type 0
CountsFreed x y = y.freed ≡ min (x.freed + freed_in (view_of x.seat) (did x.seat y.seat)) greatest

-- how many cards were cleaned
abbrev pub cards_cleaned : Stepper → Stepper → ℕ
cards_cleaned x y = count_of clears (did x.seat y.seat)

-- how many objects were scanned again
abbrev pub objects_rescanned : Stepper → Stepper → ℕ
objects_rescanned x y = rescanned_in (view_of x.seat) (did x.seat y.seat)

-- what its collection is to be stays: precise, and exact
abbrev pub KeepsAim : Stepper → Stepper → Type 0
KeepsAim x y = (y.precise ≡ x.precise) × (y.exact ≡ x.exact)

-- and whether it is to mark once more, and whether helpers were let into its drain
abbrev pub KeepsCourse : Stepper → Stepper → Type 0
KeepsCourse x y = KeepsAim x y × (y.again ≡ x.again) × (y.shared ≡ x.shared)

-- what its collection has traced, cleaned and scanned again is counted as before
abbrev pub KeepsWork : Stepper → Stepper → Type 0
KeepsWork x y = (y.traced ≡ x.traced) × (y.cleaned ≡ x.cleaned) × (y.rescanned ≡ x.rescanned)

-- the objects that the step traced were added to those traced before
abbrev pub CountsTraced : Stepper → Stepper → Type 0
CountsTraced x y = (y.traced ≡ min (x.traced + objects_popped x y) greatest) × (y.cleaned ≡ x.cleaned) × (y.rescanned ≡ x.rescanned)

-- the cards that the step cleaned, and the objects that it scanned again, were added to those before
abbrev pub CountsCleaned : Stepper → Stepper → Type 0
CountsCleaned x y = (y.traced ≡ x.traced) × (y.cleaned ≡ min (x.cleaned + cards_cleaned x y) greatest) × (y.rescanned ≡ min (x.rescanned + objects_rescanned x y) greatest)

-- nothing is counted yet
abbrev pub CountsNone : Stepper → Type 0
CountsNone y = (y.traced ≡ 0) × (y.cleaned ≡ 0) × (y.rescanned ≡ 0)

-- this many roots were seen to, or no packet was found for it
abbrev pub SeesSome : ℕ → Stepper → Stepper → Type 0
SeesSome most x y = ((most ≤ roots_left x) × (y.next ≡ x.next + most) × Across (SeesRoots x.next most) x.seat y.seat) ⊎ ((y.next ≡ x.next) × Across LacksPacket x.seat y.seat)

-- this many cards were passed, and cleaned if they were dirty
abbrev pub PassesSome : ℕ → Stepper → Stepper → Type 0
PassesSome most x y = (most ≤ cards_left x) × (y.next ≡ x.next + most) × Across (CleansCards x.next most) x.seat y.seat × CountsCleaned x y

-- no packet was found for it
abbrev pub LacksSome : Stepper → Stepper → Type 0
LacksSome x y = (y.next ≡ x.next) × Across LacksPacket x.seat y.seat × (cards_cleaned x y ≡ 0) × (objects_rescanned x y ≡ 0) × KeepsWork x y

-- this many cards were passed, and cleaned if they were dirty, or no packet was found for it
abbrev pub CleansSome : ℕ → Stepper → Stepper → Type 0
CleansSome most x y = PassesSome most x y ⊎ LacksSome x y

-- this many objects were popped; or fewer, and a packet isn't empty
abbrev pub Empties : ℕ → Stepper → Stepper → Type 0
Empties most x y = ((objects_popped x y ≡ most) × Across (SharesFor most) x.seat y.seat) ⊎ ((objects_popped x y < most) × Across (LeavesPacket most) x.seat y.seat)

-- what a step did after which there is more to do. A collection that it began is to be precise, or not
abbrev pub StepsOn : Bool → Stage → Stage → ℕ → Stepper → Stepper → Type 0
StepsOn precise stages.Inside stages.Stopping most x y = Across (AsksForStop true) x.seat y.seat × (y.precise ≡ precise)
StepsOn precise stages.Stopping stages.Stopping most x y = Across FindsRunning x.seat y.seat × (y.precise ≡ x.precise)
StepsOn precise stages.Stopping stages.Rooting most x y = Across (BeginsMarking x.precise y.exact y.again) x.seat y.seat × (y.precise ≡ x.precise) × (y.next ≡ 0) × CountsNone y × (y.shared ≡ y.again)
StepsOn precise stages.Rooting stages.Rooting most x y = SeesSome most x y × KeepsCourse x y × KeepsWork x y
StepsOn precise stages.Rooting stages.Draining most x y = (roots_left x < most) × Across (SeesRoots x.next (roots_left x)) x.seat y.seat × KeepsCourse x y × KeepsWork x y
StepsOn precise stages.Draining stages.Draining most x y = (objects_popped x y ≡ most) × Across (TracesFor most) x.seat y.seat × KeepsCourse x y × CountsTraced x y
StepsOn precise stages.Draining stages.Looking most x y = (objects_popped x y < most) × Across (TracesFor most) x.seat y.seat × (y.next ≡ 0) × KeepsCourse x y × CountsTraced x y
StepsOn precise stages.Looking stages.Looking most x y = LooksAt (shape_of x) x.next most (looks.Clean most) (did x.seat y.seat) × (y.next ≡ x.next + most) × KeepsCourse x y × KeepsWork x y
StepsOn precise stages.Looking stages.Cleaning most x y = LooksAt (shape_of x) x.next most (looks.Dirty y.next) (did x.seat y.seat) × KeepsCourse x y × KeepsWork x y
StepsOn precise stages.Looking stages.Draining most x y = (cards_left x < most) × Across (FindsPacketLeft x.next) x.seat y.seat × KeepsCourse x y × KeepsWork x y
StepsOn precise stages.Looking stages.Clearing most x y = (cards_left x < most) × Across (BeginsClear x.next) x.seat y.seat × IsTrue x.again × KeepsCourse x y × KeepsWork x y
StepsOn precise stages.Looking stages.Sweeping most x y = (cards_left x < most) × Across (BeginsSweep x.next) x.seat y.seat × IsFalse x.again × (y.freed ≡ 0) × KeepsCourse x y × KeepsWork x y
StepsOn precise stages.Cleaning stages.Cleaning most x y = CleansSome most x y × KeepsCourse x y
StepsOn precise stages.Cleaning stages.Draining most x y = (cards_left x < most) × Across (CleansCards x.next (cards_left x)) x.seat y.seat × KeepsCourse x y × CountsCleaned x y
StepsOn precise stages.Clearing stages.Clearing most x y = (stretches_drawn x y ≡ draws_for most x) × Across (IsPart Clear) x.seat y.seat × KeepsCourse x y × KeepsWork x y
StepsOn precise stages.Clearing stages.Rooting most x y = Across (BeginsAgain (draws_for most x)) x.seat y.seat × (y.next ≡ 0) × IsFalse y.again × KeepsAim x y × KeepsWork x y × IsFalse y.shared
StepsOn precise stages.Rooting stages.Sharing most x y = (roots_left x < most) × Across (BeginsSharing x.next (roots_left x)) x.seat y.seat × IsFalse x.shared × IsTrue y.shared × (y.next ≡ 0) × KeepsAim x y × (y.again ≡ x.again) × KeepsWork x y
StepsOn precise stages.Sharing stages.Sharing most x y = (objects_popped x y ≡ most) × Across (SharesFor most) x.seat y.seat × (y.next ≡ x.next) × KeepsCourse x y × CountsTraced x y
StepsOn precise stages.Sharing stages.Passing most x y = (objects_popped x y < most) × Across (SharesFor most) x.seat y.seat × (y.next ≡ x.next) × KeepsCourse x y × CountsTraced x y
StepsOn precise stages.Passing stages.Passing most x y = PassesSome most x y × KeepsCourse x y
StepsOn precise stages.Passing stages.Sharing most x y = LacksSome x y × KeepsCourse x y
StepsOn precise stages.Passing stages.Emptying most x y = (cards_left x < most) × Across (CleansCards x.next (cards_left x)) x.seat y.seat × KeepsCourse x y × CountsCleaned x y
StepsOn precise stages.Emptying stages.Emptying most x y = Empties most x y × KeepsCourse x y × CountsTraced x y
StepsOn precise stages.Emptying stages.Closing most x y = (objects_popped x y < most) × Across (EndsSharing most) x.seat y.seat × KeepsCourse x y × CountsTraced x y
StepsOn precise stages.Closing stages.Closing most x y = Across FindsHelpers x.seat y.seat × KeepsCourse x y × KeepsWork x y
StepsOn precise stages.Closing stages.Rooting most x y = Across DrainsAlone x.seat y.seat × (y.next ≡ 0) × KeepsCourse x y × KeepsWork x y
StepsOn precise stages.Sweeping stages.Sweeping most x y = (stretches_drawn x y ≡ draws_for most x) × Across (IsOpenPart Sweep) x.seat y.seat × CountsFreed x y × KeepsCourse x y × KeepsWork x y
StepsOn precise stages.Sweeping stages.Parting most x y = (stretches_drawn x y < draws_for most x) × CountsFreed x y × Across EndsSweep x.seat y.seat × KeepsCourse x y × KeepsWork x y
StepsOn precise stages.Parting stages.Parting most x y = Across FindsHelpers x.seat y.seat × (y.freed ≡ x.freed) × KeepsCourse x y × KeepsWork x y
StepsOn precise stages.Parting stages.Counting most x y = Across EndsAlone x.seat y.seat × (y.freed ≡ x.freed) × (y.next ≡ 0) × (y.counted ≡ 0) × KeepsCourse x y × KeepsWork x y
StepsOn precise stages.Counting stages.Counting most x y = (most ≤ blocks_left x) × (steps_of (did x.seat y.seat) ≡ alloc_reads x.next most) × (y.next ≡ x.next + most) × (y.freed ≡ x.freed) × KeepsCourse x y × KeepsWork x y
StepsOn precise stages.Counting stages.Ending most x y = (blocks_left x < most) × (steps_of (did x.seat y.seat) ≡ alloc_reads x.next (blocks_left x)) × (y.freed ≡ x.freed) × KeepsCourse x y × KeepsWork x y
StepsOn precise s t most x y = ⊥

-- what its last collection traced, cleaned, scanned again, freed and counted, and from where its pass goes on, is as it was
abbrev pub KeepsTally : Stepper → Stepper → Type 0
KeepsTally x y = (y.shared ≡ x.shared) × KeepsWork x y × (y.freed ≡ x.freed) × (y.counted ≡ x.counted) × (y.next ≡ x.next)

-- what a step leaves as it was, by the stage that it comes to: the cells that were freed until it sweeps and after that, the cells in use until it counts them, and
-- while it waits for its stop all that is known of the collection before
abbrev pub KeepsTold : Stage → Stepper → Stepper → Type 0
KeepsTold stages.Stopping x y = (y.exact ≡ x.exact) × (y.again ≡ x.again) × KeepsTally x y
KeepsTold stages.Sweeping x y = y.counted ≡ x.counted
KeepsTold stages.Parting x y = y.counted ≡ x.counted
KeepsTold stages.Counting x y = y.freed ≡ x.freed
KeepsTold stages.Ending x y = y.freed ≡ x.freed
KeepsTold stage x y = (y.freed ≡ x.freed) × (y.counted ≡ x.counted)

-- the stop was reached, but the heap was full: the world went on, and the stepper left, and counted nothing
abbrev pub FindsFull : Stepper → Stepper → Type 0
FindsFull x y = (x.stage ≡ stages.Stopping) × Across (FindsHeapFull x.precise y.exact y.again) x.seat y.seat × (y.precise ≡ x.precise) × KeepsTally x y

-- what its collection has counted
abbrev pub counts_of : Stepper → Counts
counts_of x = record { marked = x.counted; freed = x.freed; rescanned = x.rescanned }

-- what the last step did; the stepper goes on telling what its collection was and what it counted
abbrev pub Finishes : Came → Stepper → Stepper → Type 0
Finishes came x y = (x.stage ≡ stages.Ending) × Across (EndsBy x.exact (counts_of x) came) x.seat y.seat × KeepsCycle x y

-- another seat's stop was under way: the stepper left, and tells of the same collection as before
abbrev pub FindsAnother : Stepper → Stepper → Type 0
FindsAnother x y = (x.stage ≡ stages.Inside) × Across (AsksForStop false) x.seat y.seat × KeepsCycle x y

-- what a step of a collection came to, of this many roots, objects, cards or blocks
abbrev pub StepsCollection : Bool → ℕ → Came → Stepper → Stepper → Type 0
StepsCollection precise most cames.NotYet x y = StepsOn precise x.stage y.stage most x y × KeepsRest x y × KeepsTold y.stage x y
StepsCollection precise most cames.Done x y = Finishes cames.Done x y × (y.stage ≡ stages.Inside) × KeepsRest x y
StepsCollection precise most cames.Stopped x y = (FindsAnother x y ⊎ Finishes cames.Stopped x y) × (y.stage ≡ stages.Outside) × KeepsRest x y
StepsCollection precise most cames.Full x y = (FindsFull x y ⊎ Finishes cames.Full x y) × KnowsFull (view_of y.seat) × (y.stage ≡ stages.Outside) × KeepsRest x y
StepsCollection precise most cames.Outside x y = (x.stage ≡ stages.Outside) × (y ≡ x)
StepsCollection precise most c x y = ⊥
