-- The records of a seat that stops the world, and what of its section stays meanwhile.
use Rattle.std.specs.Prelude.{ℕ, ◌≡◌, true, Some}
use Rattle.mark_core.specs.Start.{start_seat}
use Rattle.mark_core.specs.declared.kinds.Phase.TheVariants.{Idle}
use Rattle.mark_core.specs.declared.kinds.Shape.{Shape}
use Rattle.mark_core.specs.declared.seat.SeatState.{SeatState}
use Rattle.gc_table.specs.declared.view.View.{View}

-- its flag is up
abbrev pub flagged : Shape → ℕ → SeatState
flagged sh k = record (start_seat sh k) { raised = true }

-- it is alone in the stopped world, and no cycle is under way
abbrev pub stopped : Shape → ℕ → SeatState
stopped sh k = record (start_seat sh k) { raised = true; knows = true; alone = true; phase_seen = Some Idle }

-- what the words of the section mean is as it was, and so are its seasons and its plan
abbrev pub KeepsMeaningAndPlan : View → View → Type 0
KeepsMeaningAndPlan v w = (w.own.meaning ≡ v.own.meaning) × (w.own.seasons ≡ v.own.seasons) × (w.plan ≡ v.plan)
