-- What the calls of the collector leave of a part that is being played.
use Rattle.std.specs.Prelude.{◌==◌, not, Bool, true, false, Some}
use Rattle.mark_core.specs.Numbers.{done_count}
use Rattle.mark_core.specs.Seats.{saw}
use Rattle.mark_core.specs.declared.kinds.Phase.TheVariants.{Full}
use Rattle.mark_core.specs.declared.kinds.Step.{Step}
use Rattle.mark_core.specs.declared.kinds.Step.TheVariants.{StoreField, StoreValue, StoreRoot, StoreNew, StorePhase, ReadSeason, NextSeason, AddStat, ExchangeField, ExchangeValue, StoreSlot, HoldRoot}
use Rattle.gc_table.specs.Log.{Only}
use Rattle.gc_table.specs.Rule.{KnowsFull}
use Rattle.gc_table.specs.declared.view.View.{View}
use Rattle.gc_cycle.specs.declared.counts.Refill.{Refill}
use Rattle.gc_cycle.specs.declared.counts.Refill.TheVariants as refills
use Rattle.gc_cycle.specs.declared.counts.Safe.{Safe}
use Rattle.gc_cycle.specs.declared.counts.Safe.TheVariants as safes

-- the step is none of a command, reads and moves no season, and counts no part that was played
abbrev pub fills_part : Step → Bool
fills_part (StoreField v i w) = false
fills_part (StoreValue v n) = false
fills_part (StoreRoot v r) = false
fills_part (HoldRoot v r) = false
fills_part (StoreSlot k r) = false
fills_part (ExchangeField v i x y) = false
fills_part (ExchangeValue v m n) = false
fills_part (StoreNew c part word) = false
fills_part ReadSeason = false
fills_part NextSeason = false
fills_part (AddStat which by down) = not (which == done_count)
fills_part step = true

-- the step is none of a command, reads and moves no season, counts no part that was played, and does not say that the heap is full
abbrev pub spares_part : Step → Bool
spares_part (StorePhase to) = not (saw (Some to) Full)
spares_part step = fills_part step

-- if the answer is Full, the seat knows it
abbrev pub KnowsAnswer : Safe → View → Type 0
KnowsAnswer (safes.Going kept) w = Unit {0}
KnowsAnswer safes.Full w = KnowsFull w

-- the heap is said to be full only if the answer is Full, and then the seat knows it
abbrev pub SparesRefill : Refill → View → View → Type 0
SparesRefill (refills.Cache h paid) v w = Only spares_part v w
SparesRefill refills.Full v w = KnowsFull w
