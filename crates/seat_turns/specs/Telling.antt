-- What a watch is told while a mutator comes to a free cell.
use Rattle.std.specs.Prelude.{◌≡◌, Bool, true, false, List, [], ◌∷◌, ◌++◌}
use Rattle.mark_core.specs.declared.kinds.Shape.{Shape}
use Rattle.gc_table.specs.Log.{Only}
use Rattle.gc_table.specs.Running.{Ran}
use Rattle.gc_table.specs.declared.view.View.{View}
use Rattle.gc_cycle.specs.Mutating.{spares_blocks}
use Rattle.gc_cycle.specs.declared.counts.Refill.{Refill}
use Rattle.cache_refills.specs.Notices.{Notice}
use Rattle.cache_refills.specs.Telling.{TellsRefill, TellsStops}
use Rattle.seat_turns.specs.Coming.{RefillsBy}

-- steps that neither try to raise the flag, nor resume the world, nor end a cycle, nor claim a block
abbrev pub GoesUntold : View → View → Type 0
GoesUntold v w = Ran v w × Only spares_blocks v w

-- a refill tells of its stops, and of its payment if the mutator doesn't collect only in stops
abbrev pub TellsBy : Bool → Refill → List Notice → View → View → Type 0
TellsBy false r ns v w = TellsRefill r ns v w
TellsBy true r ns v w = TellsStops ns v w

-- a refill, of which this was told
abbrev pub TellsFill : Bool → Shape → List Notice → View → View → Type 0
TellsFill in_stops sh ns v w = (r : Refill) × RefillsBy in_stops sh r v w × TellsBy in_stops r ns v w

-- refills, of each of which these notices were told, and nothing between them
abbrev pub TellsEach : Bool → Shape → List (List Notice) → View → View → Type 0
TellsEach in_stops sh [] v w = GoesUntold v w
TellsEach in_stops sh (ns ∷ rounds) v w = (before : View) × (after : View) × GoesUntold v before × Ran before after × TellsFill in_stops sh ns before after × TellsEach in_stops sh rounds after w

-- these notices, one list after another
abbrev pub all_notices : List (List Notice) → List Notice
all_notices [] = []
all_notices (ns ∷ rounds) = ns ++ all_notices rounds

-- what the seat's refills tell, one after another
pub record TellsFills (in_stops : Bool) (sh : Shape) (ns : List Notice) (v w : View) : Type 0 where
  pub rounds : List (List Notice)
  pub all : ns ≡ all_notices rounds
  pub tells : TellsEach in_stops sh rounds v w
