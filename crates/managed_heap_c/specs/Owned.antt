-- What a handle owns: what lies at its address.
use base.Fraction.{full_share}
use base.Fml.{Fml}
use base.Stored.{Coded}
use denote.RawPtr.{Ptr, lies_at}
use Rattle.managed_heap_c.specs.contracts.hands.Hand as hand
use Rattle.managed_heap_c.specs.contracts.hands.TracerHand as tracing
use Rattle.managed_heap_c.specs.contracts.hands.Whole as whole

-- all of a mutator's record lies at this address, and nobody else has a part of it
abbrev pub hand_owned : Ptr → hand.the_row.Denot → Fml
hand_owned = lies_at hand.the_row full_share

-- how memory holds a mutator's record
abbrev pub hand_coded : Coded hand.the_row.Denot
hand_coded = hand.the_row.coded

-- all of a tracer's record lies at this address, and nobody else has a part of it
abbrev pub tracer_owned : Ptr → tracing.the_row.Denot → Fml
tracer_owned = lies_at tracing.the_row full_share

-- how memory holds a tracer's record
abbrev pub tracer_coded : Coded tracing.the_row.Denot
tracer_coded = tracing.the_row.coded

-- all of a world's record lies at this address, and nobody else has a part of it
abbrev pub whole_owned : Ptr → whole.the_row.Denot → Fml
whole_owned = lies_at whole.the_row full_share

-- how memory holds a world's record
abbrev pub whole_coded : Coded whole.the_row.Denot
whole_coded = whole.the_row.coded
