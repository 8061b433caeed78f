-- What a handle is once what it lent is done with.
use base.Fml.{Fml}
use denote.Follow.{follows}
use denote.Ref.{MutBor}
use Rattle.managed_heap_c.specs.contracts.handles.MutatorHandle as mutator
use Rattle.managed_heap_c.specs.contracts.handles.TracerHandle as tracer
use Rattle.managed_heap_c.specs.contracts.handles.WorldHandle as world
use Rattle.managed_heap_c.specs.contracts.hands.Hand as hand
use Rattle.managed_heap_c.specs.contracts.hands.TracerHand as tracing
use Rattle.managed_heap_c.specs.contracts.hands.Whole as whole

-- a mutator's handle with something else at its address
abbrev pub with_hand : mutator.the_row.Denot → hand.the_row.Denot → mutator.the_row.Denot
with_hand h w = record { at = h.at; hand = w }

-- once the borrow r ends, the mutator's handle b has at its address what r left
abbrev pub hand_follows : MutBor mutator.the_row.Denot → MutBor hand.the_row.Denot → Fml
hand_follows b r = follows mutator.the_row hand.the_row b.ghost_name r.ghost_name (with_hand b.now)

-- a tracer's handle with something else at its address
abbrev pub with_tracer : tracer.the_row.Denot → tracing.the_row.Denot → tracer.the_row.Denot
with_tracer h w = record { at = h.at; hand = w }

-- once the borrow r ends, the tracer's handle b has at its address what r left
abbrev pub tracer_follows : MutBor tracer.the_row.Denot → MutBor tracing.the_row.Denot → Fml
tracer_follows b r = follows tracer.the_row tracing.the_row b.ghost_name r.ghost_name (with_tracer b.now)

-- a world's handle with something else at its address
abbrev pub with_whole : world.the_row.Denot → whole.the_row.Denot → world.the_row.Denot
with_whole h w = record { at = h.at; whole = w }

-- once the borrow r ends, the world's handle b has at its address what r left
abbrev pub whole_follows : MutBor world.the_row.Denot → MutBor whole.the_row.Denot → Fml
whole_follows b r = follows world.the_row whole.the_row b.ghost_name r.ghost_name (with_whole b.now)
