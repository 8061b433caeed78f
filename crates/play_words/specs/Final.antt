-- The heap at the end of a play, by the plain runs of its sections only.
use Rattle.std.specs.Prelude.{ℕ, ◌≡◌, ◌+◌, ◌-◌, ◌*◌, ◌<◌, ◌≤◌, ◌⊎◌, length, map, Some, slice_get, slice_index_or, get_or}
use Rattle.plain_heap.specs.declared.object.Ref.{Ref}
use Rattle.plain_heap.specs.declared.object.Ref.TheVariants as refs
use Rattle.plain_heap.specs.declared.object.Object.{Object as PlainObject}
use Rattle.plain_heap.specs.PlainHeap.{variable}
use Rattle.plain_heap.specs.Sections.{Sections, section_numbers}
use Rattle.plain_heap.specs.PlainRun.{last_heap, last_heaps}
use Rattle.plain_heap.specs.Paths.{Name, Names, Survivor, AreSurvivors}
use Rattle.heap_dump.specs.Final.{Object, DumpedHeap, object}

-- the object of a record
abbrev pub name_in : Object → Name
name_in o = record { section = o.section; number = o.number }

-- a record without its references
abbrev pub survivor_in : Object → Survivor
survivor_in o = record { section = o.section; number = o.number; value = o.value }

-- what a reference of a section is in a dump: 0 if it is nil, else one more than the place of its object's record
abbrev pub IsNumberOf : DumpedHeap → ℕ → Ref → ℕ → Type 0
IsNumberOf h section ref n = ((ref ≡ refs.Nil) × (n ≡ 0)) ⊎ ((0 < n) × (n ≤ length h.records) × Names section ref (name_in (object h (n - 1))))

-- record k has the references of its object
pub record HasRefs (s : Sections) (h : DumpedHeap) (k : ℕ) : Type 0 where
  pub count : length (object h k).refs ≡ s.fields
  -- all of them: by no other field does the object refer to anything
  pub others : (o : PlainObject) → slice_get (last_heap s (object h k).section).objects (object h k).number ≡ Some o → (i : ℕ) → s.fields ≤ i
      → slice_index_or o.refs i refs.Nil ≡ refs.Nil
  pub each : (o : PlainObject) → slice_get (last_heap s (object h k).section).objects (object h k).number ≡ Some o → (i : ℕ) → i < s.fields
      → IsNumberOf h (object h k).section (slice_index_or o.refs i refs.Nil) (get_or (object h k).refs i 0)

-- the records are exactly the objects that are reachable when each section has played all its parts, with their values and in order;
-- the roots are the sections' variables then, and the references those of the objects
pub record IsFinalHeap (s : Sections) (h : DumpedHeap) : Type 0 where
  pub fields : h.fields ≡ s.fields
  pub sections : h.sections ≡ length (section_numbers s)
  pub survivors : AreSurvivors (last_heaps s) (map survivor_in h.records)
  pub count : length h.roots ≡ 32 * h.sections
  pub variables : (w v : ℕ) → w < h.sections → v < 32 → IsNumberOf h w (variable (last_heap s w) v) (get_or h.roots (32 * w + v) 0)
  pub objects : (k : ℕ) → k < length h.records → HasRefs s h k
