-- Where a mutator's objects lie.
use Rattle.std.specs.Prelude.{ℕ, Option, slice_get}
use Rattle.std.specs.Option.{option_map}
use Rattle.gc_table.specs.declared.view.Place.{Place}
use Rattle.gc_table.specs.declared.view.View.{View}

-- the cell in which object n of the seat's section was made
abbrev pub place_of : View → ℕ → Option ℕ
place_of v n = option_map (λ (p : Place). p.cell) (slice_get v.own.places n)
