-- What a play is asked.
use Rattle.std.specs.Prelude.{◌+◌, ◌≤◌, length, false, IsFalse}
use Rattle.std.specs.List.{list_any}
use Rattle.mark_core.specs.Shapes.{usual_stretch}
use Rattle.mark_core.specs.declared.kinds.Shape.{Shape}
use Rattle.plain_heap.specs.Sections.{Sections, joined, parts_of, seasons, lends}
use Rattle.play_end.specs.declared.options.Options.{Options}

-- the sections of a script that was read
pub record IsPlayable (s : Sections) : Type 0 where
  pub fields : (1 ≤ s.fields) × (s.fields ≤ 16)
  pub warehouses : length s.warehouses ≤ 32
  pub few : seasons s ≤ 64
  -- the catalogue reads no variable of the catalogue
  pub alone : IsFalse (list_any (λ e. lends e.op) (joined (parts_of s 0)))

-- the sizes of the heap in which a script is played
abbrev pub shape_for : Options → Sections → Shape
shape_for o s = record { cells = o.cells; packets = o.packets; entries = o.entries; sections = 1 + length s.warehouses; fields = s.fields; objects = 2000000; sharing = false; slots = 0; stretch = usual_stretch o.cells }
