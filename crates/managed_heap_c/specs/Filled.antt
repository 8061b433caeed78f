-- What a handle owns that may be empty.
use base.Fml.{Fml, ftrue}
use base.Stored.{Coded}
use denote.RawPtr.{Ptr}
use Rattle.std.specs.Coded.{coded_option}
use Rattle.std.specs.Prelude.{Option, Some, None}
use Rattle.managed_heap_c.specs.Owned.{hand_owned, tracer_owned, whole_owned}
use Rattle.managed_heap_c.specs.contracts.hands.Hand as hand
use Rattle.managed_heap_c.specs.contracts.hands.TracerHand as tracing
use Rattle.managed_heap_c.specs.contracts.hands.Whole as whole

-- a mutator's handle owns what lies at its address, if it has an address
abbrev pub hand_filled : Ptr → Option hand.the_row.Denot → Fml
hand_filled p None = ftrue
hand_filled p (Some x) = hand_owned p x

-- how memory holds a mutator's handle that may be empty
abbrev pub hands_coded : Coded (Option hand.the_row.Denot)
hands_coded = coded_option hand.the_row.coded

-- a tracer's handle owns what lies at its address, if it has an address
abbrev pub tracer_filled : Ptr → Option tracing.the_row.Denot → Fml
tracer_filled p None = ftrue
tracer_filled p (Some x) = tracer_owned p x

-- how memory holds a tracer's handle that may be empty
abbrev pub tracers_coded : Coded (Option tracing.the_row.Denot)
tracers_coded = coded_option tracing.the_row.coded

-- a world's handle owns what lies at its address, if it has an address
abbrev pub whole_filled : Ptr → Option whole.the_row.Denot → Fml
whole_filled p None = ftrue
whole_filled p (Some x) = whole_owned p x

-- how memory holds a world's handle that may be empty
abbrev pub wholes_coded : Coded (Option whole.the_row.Denot)
wholes_coded = coded_option whole.the_row.coded
