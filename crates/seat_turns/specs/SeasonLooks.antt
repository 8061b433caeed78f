-- The season, as a mutator reads it.
use Rattle.std.specs.Prelude.{ℕ, ◌≡◌, ◌≢◌, ◌⊎◌, Some}
use Rattle.mark_core.specs.declared.kinds.Step.TheVariants.{ReadSeason}
use Rattle.gc_table.specs.Seats.{Found}
use Rattle.gc_table.specs.declared.view.View.{View}

-- the season is read if the seat doesn't know it any more, as after a stop, and nothing else is done
abbrev pub LooksAtSeason : View → View → Type 0
LooksAtSeason v w = (w ≡ v) ⊎ ((n : ℕ) × Found ReadSeason n v w)

-- the season that the seat has seen is another than this
abbrev pub SeesOther : ℕ → View → Type 0
SeesOther turn v = (season : ℕ) × (v.state.season_seen ≡ Some season) × (season ≢ turn)
