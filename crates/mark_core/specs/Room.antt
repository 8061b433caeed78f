-- Room for what a step counts.
use Rattle.std.specs.Prelude.{◌<◌}
use Rattle.mark_core.specs.Held.{length_in_hand}
use Rattle.mark_core.specs.declared.kinds.Shape.{Shape}
use Rattle.mark_core.specs.declared.kinds.Step.{Step}
use Rattle.mark_core.specs.declared.kinds.Step.TheVariants.{Push, ReadField, StoreRoot, StoreNew, StoreValue, HoldRoot, FlushRoot}
use Rattle.mark_core.specs.declared.seat.SeatState.{SeatState}
use Rattle.mark_core.specs.Numbers.{section_variables, value_bound}

-- what the step adds one to has room for it, and the variable that it sets exists
abbrev pub HasRoom : SeatState → Step → Type 0
HasRoom s (Push p c) = length_in_hand s.held p < 4294967295
HasRoom s (ReadField c i) = i < 255
HasRoom s (StoreRoot v r) = v < section_variables
HasRoom s (HoldRoot v r) = v < section_variables
HasRoom s (FlushRoot v) = v < section_variables
HasRoom s (StoreNew c part word) = part < 255
HasRoom s step = Unit {0}

-- the last word of a new cell counts one more object, and the count has room for it
abbrev pub HasNumber : Shape → SeatState → Step → Type 0
HasNumber sh s (StoreNew c part word) = sh.fields < part → s.made < 4294967295
HasNumber sh s step = Unit {0}

-- the value that the step stores is a number of thirty-two bits
abbrev pub HasValue : Step → Type 0
HasValue (StoreValue v n) = n < value_bound
HasValue step = Unit {0}
