-- What a mutator's seat has done since it asked for the stop of its collection.
use Rattle.std.specs.Prelude.{ℕ, ◌≡◌, Bool, true, IsTrue, IsFalse}
use Rattle.gc_table.specs.Log.{events}
use Rattle.gc_table.specs.Running.{Ran}
use Rattle.gc_table.specs.declared.view.View.{View}
use Rattle.packet_pools.specs.Counts.{count_of}
use Rattle.gc_cycle.specs.Events.{never}
use Rattle.gc_cycle.specs.Pieces.{HasCollectedSince}
use Rattle.gc_cycle.specs.Sorts.{ends_cycle, raises_flag}
use Rattle.gc_cycle.specs.Stepping.{AsksOnce, IsExactSince}

-- the seat asked for its stop at that moment, and for none since; so many cycles have ended since then
pub record HasAsked (ended : ℕ) (u v : View) : Type 0 where
  pub done : ℕ
  pub asked : View
  pub asks : AsksOnce done true u asked
  pub began : Ran u asked
  pub ran : Ran asked v
  pub calm : IsTrue (never raises_flag (events asked v))
  pub ends : count_of ends_cycle (events asked v) ≡ ended

-- the seat waits for the stop that it asked for
abbrev pub WaitsSinceAsked : View → Type 0
WaitsSinceAsked v = ∥ ((u : View) × HasAsked 0 u v) ∥₁

-- if the collection is to be exact, a drain began with no cell marked since it asked, unless it is to mark once more
abbrev pub MarksSinceAsked : Bool → Bool → View → Type 0
MarksSinceAsked exact again v = ∥ ((u : View) × HasAsked 0 u v × (IsTrue exact → IsFalse again → IsExactSince u v)) ∥₁

-- if it is to be exact, a drain began with no cell marked since it asked
abbrev pub SweepsSinceAsked : Bool → View → Type 0
SweepsSinceAsked exact v = ∥ ((u : View) × HasAsked 0 u v × (IsTrue exact → IsExactSince u v)) ∥₁

-- since it asked one cycle ended; if it was to be exact, its drain began with no cell marked
abbrev pub CountsSinceAsked : Bool → View → Type 0
CountsSinceAsked exact v = ∥ ((u : View) × HasAsked 1 u v × (IsTrue exact → HasCollectedSince u v)) ∥₁ × (IsTrue exact → IsTrue v.state.exact)
