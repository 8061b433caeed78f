-- The sizes that C asks for.
use Rattle.std.specs.Prelude.{◌≡◌, ◌⊎◌, false}
use Rattle.managed_heap.specs.Lending.{FitsWorld}
use Rattle.shared_heap.specs.Lending.{FitsShared}
use Rattle.managed_heap.specs.Sizing.{usual_entries}
use Rattle.managed_heap.specs.declared.sizes.Sizes.{Sizes}
use Rattle.managed_heap_c.specs.declared.sizes.CSizes.{CSizes}

-- those of a world whose mutators have objects of their own; there are as many packets as when nothing is said of them
abbrev pub sizes_of : CSizes → Sizes
sizes_of c = record { cells = c.cells; fields = c.fields; mutators = c.mutators; tracers = c.tracers; slots = 0; packets = 64; entries = usual_entries c.cells; name = c.name; in_stops = false }

-- those of a world whose mutators share all objects
abbrev pub shared_sizes_of : CSizes → Sizes
shared_sizes_of c = record (sizes_of c) { slots = c.slots }

-- a world is asked for whose mutators have objects of their own, and have no slots
abbrev pub AsksOwn : CSizes → Type 0
AsksOwn c = (c.shared ≡ 0) × (c.slots ≡ 0)

-- each size is in its range, for one kind of world or the other
abbrev pub FitEither : CSizes → Type 0
FitEither c = (AsksOwn c × FitsWorld (sizes_of c)) ⊎ ((c.shared ≡ 1) × FitsShared (shared_sizes_of c))
