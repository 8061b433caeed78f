-- What a section comes to by the steps of its seat: its plain heap, where its objects were made, and what its seat did besides. A seat can tell all of it by
-- itself.
use Rattle.std.specs.Prelude.{ℕ, zero, suc, ◌≡◌, ◌+◌, ◌/◌, ◌%◌, ◌==◌, ◌&&◌, ◌||◌, if◌then◌else◌, List, [], ◌∷◌, ◌++◌, length, map, false, Option, Some, None, IsTrue, IsFalse, unwrap_or}
use Rattle.std.specs.List.{range_with_len}
use Rattle.mark_core.specs.Steps.MutatorSteps.{names_last}
use Rattle.mark_core.specs.Seats.{is_the, saw}
use Rattle.mark_core.specs.declared.kinds.Shape.{Shape}
use Rattle.mark_core.specs.declared.kinds.Phase.TheVariants.{Idle, Full}
use Rattle.mark_core.specs.declared.kinds.Step.{Step}
use Rattle.mark_core.specs.declared.kinds.Step.TheVariants.{ReadOwn, ReadCat, StoreField, StoreValue, StoreRoot, StoreNew, StorePosition, StorePhase, NextSeason, ExchangeField, ExchangeValue, StoreSlot, ReadSlot, ReadWeak, HoldRoot}
use Rattle.mark_core.specs.declared.seat.SeatState.{SeatState}
use Rattle.plain_heap.specs.declared.object.Ref.{Ref}
use Rattle.plain_heap.specs.declared.object.Ref.TheVariants as refs
use Rattle.plain_heap.specs.declared.operation.Op.{Op}
use Rattle.plain_heap.specs.PlainHeap.{Heap, variable}
use Rattle.plain_heap.specs.PlainStep.{followed, lent_variable, stored_at, with_field, with_value, with_new, assigned}
use Rattle.plain_heap.specs.PlainRun.{plan_end}
use Rattle.gc_table.specs.declared.view.Meaning.{Meaning}
use Rattle.gc_table.specs.declared.view.SectionState.{SectionState}
use Rattle.gc_table.specs.StandsFor.{start_meaning}
use Rattle.gc_table.specs.PlainSteps.{known_as, with_got, with_part, Asks, HasSeenPhase}

-- what a warehouse sees of the catalogue in season z, in which the season word is 2z - 1: what the plan says of the end of part z
abbrev pub planned : Shape → List (List Op) → ℕ → Heap
planned sh plan season = plan_end sh.fields plan ((season + 1) / 2)

-- what a section sees of the catalogue
abbrev pub seen_of : Shape → List (List Op) → Option ℕ → ℕ → Option Heap
seen_of sh plan None season = None
seen_of sh plan (Some zero) season = None
seen_of sh plan (Some (suc w)) season = Some (planned sh plan season)

-- the season word that the seat has read
abbrev pub season_of : SeatState → ℕ
season_of s = unwrap_or s.season_seen 0

-- what a seat sees of the catalogue, by the plan only
abbrev pub seen_by : Shape → List (List Op) → SeatState → Option Heap
seen_by sh plan s = seen_of sh plan s.section (season_of s)

-- the reference that a word is, as the seat knows it
abbrev pub named_by : SeatState → Meaning → ℕ → Ref
named_by s m zero = refs.Nil
named_by s m (suc c) = known_as s m c

-- what is stored in a field
abbrev pub stored_ref : Heap → Option ℕ → Ref
stored_ref heap None = refs.Nil
stored_ref heap (Some w) = variable heap w

-- the plain heap when a root is stored: the first store of a new cell makes its object
abbrev pub rooted : SeatState → Meaning → ℕ → ℕ → Heap
rooted s m v r = if names_last s.cache r && (length m.heap.objects + 1 == s.made) then with_new m.heap v m.value else assigned m.heap v (named_by s m r)

-- what the words of a section mean after a step of its seat, told by the seat's record and by what it sees of the catalogue
abbrev pub meaning_by : Shape → SeatState → Option Heap → Step → Meaning → Meaning
meaning_by sh s catalogue (StoreField v i w) m = record m { heap = stored_at m.heap (variable m.heap v) (λ object. with_field object i (stored_ref m.heap w)) }
meaning_by sh s catalogue (StoreValue v n) m = record m { heap = stored_at m.heap (variable m.heap v) (λ object. with_value object n) }
meaning_by sh s catalogue (StoreRoot v r) m = with_got refs.Nil (record m { heap = rooted s m v r })
meaning_by sh s catalogue (HoldRoot v r) m = with_got refs.Nil (record m { heap = rooted s m v r })
meaning_by sh s catalogue (ReadOwn c i) m = with_got (followed m.heap catalogue (known_as s m c) i) m
meaning_by sh s catalogue (ReadCat v) m = with_got (lent_variable catalogue v) m
-- if objects aren't shared, slots are nil, and otherwise nothing is told of the register
meaning_by sh s catalogue (ReadSlot k) m = with_got refs.Nil m
meaning_by sh s catalogue (StoreNew c part word) m = with_part sh part word m
meaning_by sh s catalogue step m = m

-- a plain step was done
abbrev pub with_plain_step : SeatState → SectionState → SectionState
with_plain_step s x = record x { history = x.history ++ record { season = season_of s; heap = x.meaning.heap } ∷ []; settled = false }

-- a word of a new cell was stored, and with the last one the cell has its object's identity
abbrev pub placed : Shape → SeatState → ℕ → ℕ → SectionState → SectionState
placed sh s c part x =
    record x { places = if part == sh.fields + 1 then x.places ++ record { cell = c; season = season_of s; heap = x.meaning.heap } ∷ [] else x.places; settled = false }

-- what the seat did besides
abbrev pub noted : Shape → SeatState → Step → SectionState → SectionState
noted sh s (StoreField v i w) x = with_plain_step s x
noted sh s (StoreValue v n) x = with_plain_step s x
noted sh s (StoreRoot v r) x = with_plain_step s x
noted sh s (HoldRoot v r) x = with_plain_step s x
noted sh s (ExchangeField v i y z) x = record x { settled = false }
noted sh s (ExchangeValue v m n) x = record x { settled = false }
noted sh s (StoreSlot k r) x = record x { settled = false }
noted sh s (StoreNew c part word) x = placed sh s c part x
noted sh s (StorePosition done) x = record x { position = done }
noted sh s (StorePhase to) x =
    record x { full = x.full || saw (Some to) Full; settled = x.settled || (saw (Some to) Idle && s.exact && is_the s.section 0 && (x.seasons % 2 == 0)) }
noted sh s NextSeason x = record x { seasons = x.seasons + 1; settled = false }
noted sh s step x = x

-- the section after a step of its seat
abbrev pub section_after : Shape → List (List Op) → SeatState → Step → SectionState → SectionState
section_after sh plan s step x = noted sh s step (record x { meaning = meaning_by sh s (seen_by sh plan s) step x.meaning })

-- what is asked of a step besides its own condition, by the seat's record, its section and what it knows of the section that is named when the heap is full
abbrev pub AskedOf : Shape → List (List Op) → SeatState → SectionState → Option ℕ → Step → Type 0
AskedOf sh plan s x named (StoreField v i w) = HasSeenPhase s × (IsFalse sh.sharing → (op : Op) × Asks s x.meaning (seen_by sh plan s) (StoreField v i w) op)
AskedOf sh plan s x named (StoreValue v n) = HasSeenPhase s × (IsFalse sh.sharing → (op : Op) × Asks s x.meaning (seen_by sh plan s) (StoreValue v n) op)
AskedOf sh plan s x named (StoreRoot v r) = HasSeenPhase s × (IsFalse sh.sharing → (op : Op) × Asks s x.meaning (seen_by sh plan s) (StoreRoot v r) op)
AskedOf sh plan s x named (HoldRoot v r) = HasSeenPhase s × (IsFalse sh.sharing → (op : Op) × Asks s x.meaning (seen_by sh plan s) (HoldRoot v r) op)
AskedOf sh plan s x named (ExchangeField v i y z) = HasSeenPhase s
AskedOf sh plan s x named (ExchangeValue v m n) = HasSeenPhase s
-- slots are for heaps whose objects are shared
AskedOf sh plan s x named (StoreSlot k r) = HasSeenPhase s × IsTrue sh.sharing
-- a cell is asked for where objects are shared
AskedOf sh plan s x named (ReadWeak c) = IsTrue sh.sharing
AskedOf sh plan s x named (StoreNew c part word) = part ≡ 0 → length x.meaning.heap.objects ≡ s.made
-- the seat has named its section before it says that the heap is full
AskedOf sh plan s x named (StorePhase to) = IsTrue (saw (Some to) Full) → (w : ℕ) × (s.section ≡ Some w) × (named ≡ Some w)
-- only the catalogue's seat moves the season on, and its own turn ends where the plan's part ends
AskedOf sh plan s x named NextSeason = (s.section ≡ Some 0) × (IsTrue (x.seasons % 2 == 0) → x.meaning.heap ≡ planned sh plan (x.seasons + 1))
AskedOf sh plan s x named step = Unit {0}

-- a section that has done nothing
abbrev pub start_section : Shape → ℕ → SectionState
start_section sh w = record { meaning = start_meaning sh w; places = []; history = []; position = 0; seasons = 0; full = false; settled = false }

-- all sections at the start
abbrev pub start_sections : Shape → List SectionState
start_sections sh = map (start_section sh) (range_with_len 0 sh.sections)
