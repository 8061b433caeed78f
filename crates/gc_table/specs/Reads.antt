-- What a seat reads, in the words of the plain heaps.
use Rattle.std.specs.Prelude.{ℕ, ◌≡◌, ◌+◌, ◌/◌, ◌%◌, ◌↔◌, IsFalse, Some}
use Rattle.mark_core.specs.Numbers.{first_position}
use Rattle.mark_core.specs.Bits.{flag}
use Rattle.mark_core.specs.declared.kinds.Step.{Step}
use Rattle.mark_core.specs.declared.kinds.Step.TheVariants.{ReadOwn, ReadValue, ReadIdent, ReadCat, ReadStat, ReadSeason}
use Rattle.plain_heap.specs.declared.object.Ref.TheVariants as refs
use Rattle.plain_heap.specs.declared.object.Object.{Object}
use Rattle.plain_heap.specs.PlainStep.{object_of}
use Rattle.plain_heap.specs.Paths.{Names}
use Rattle.gc_table.specs.declared.view.View.{View}
use Rattle.gc_table.specs.PlainSteps.{own_section, known_as}
use Rattle.gc_table.specs.Sections.{seen_by, section_after}

-- what n is, if a step of the seat with this view found it
abbrev pub Reads : Step → ℕ → View → Type 0
-- the value of the object that the seat knows by this cell
Reads (ReadValue c) n v = IsFalse v.shape.sharing → (o : Object) × (object_of v.own.meaning.heap (seen_by v.shape v.plan v.state) (known_as v.state v.own.meaning c) ≡ Some o) × (n ≡ o.value)
-- the section and the number of this object
Reads (ReadIdent c) n v = IsFalse v.shape.sharing → Names (own_section v.state) (known_as v.state v.own.meaning c) (record { section = n / flag; number = n % flag })
-- nil exactly if the plain heap has nil
Reads (ReadOwn c i) n v = IsFalse v.shape.sharing → (n ≡ 0) ↔ ((section_after v.shape v.plan v.state (ReadOwn c i) v.own).meaning.got ≡ refs.Nil)
Reads (ReadCat u) n v = IsFalse v.shape.sharing → (n ≡ 0) ↔ ((section_after v.shape v.plan v.state (ReadCat u) v.own).meaning.got ≡ refs.Nil)
-- how many times the catalogue's seat moved the season on
Reads ReadSeason n v = v.state.section ≡ Some 0 → n ≡ v.own.seasons
-- how many commands the seat's own section has done
Reads (ReadStat which) n v = (w : ℕ) → v.state.section ≡ Some w → which ≡ first_position + w → n ≡ v.own.position
Reads step n v = Unit {0}
