-- What each step does to the plain heap of its seat's section, and what is asked of the steps that store.
use Rattle.std.specs.Prelude.{ℕ, zero, suc, ◌≡◌, ◌+◌, ◌<◌, ◌==◌, if◌then◌else◌, List, [], ◌∷◌, length, Bool, true, false, Option, Some, None, IsTrue, unwrap_or, slice_get, slice_set, slice_index_or}
use Rattle.mark_core.specs.Bits.{flag}
use Rattle.mark_core.specs.Steps.MutatorSteps.{names_last, seat_variable as word_in}
use Rattle.mark_core.specs.declared.kinds.Shape.{Shape}
use Rattle.mark_core.specs.declared.kinds.Phase.{Phase}
use Rattle.mark_core.specs.declared.kinds.Phase.TheVariants.{Full}
use Rattle.mark_core.specs.declared.kinds.Step.{Step}
use Rattle.mark_core.specs.declared.kinds.Step.TheVariants.{ReadOwn, ReadCat, StoreField, StoreValue, StoreRoot, StoreNew, StoreSlot, ReadSlot, ReadWeak, HoldRoot}
use Rattle.mark_core.specs.declared.seat.SeatState.{SeatState}
use Rattle.plain_heap.specs.declared.object.Ref.{Ref}
use Rattle.plain_heap.specs.declared.object.Ref.TheVariants as refs
use Rattle.plain_heap.specs.declared.operation.Op.{Op}
use Rattle.plain_heap.specs.declared.operation.Op.TheVariants as ops
use Rattle.plain_heap.specs.PlainHeap.{Heap, variable}
use Rattle.plain_heap.specs.PlainStep.{heap_after, followed, lent_variable}
use Rattle.gc_table.specs.declared.view.Meaning.{Meaning}
use Rattle.mark_core.specs.Numbers.{section_variables}

-- the heap of a meaning, if there is one
abbrev pub heap_in : Option Meaning → Option Heap
heap_in None = None
heap_in (Some m) = Some m.heap

-- what a section sees of the catalogue
abbrev pub catalogue_seen : List Meaning → ℕ → Option Heap
catalogue_seen ms zero = None
catalogue_seen ms (suc w) = heap_in (slice_get ms 0)

-- the section of a seat
abbrev pub own_section : SeatState → ℕ
own_section s = unwrap_or s.section 0

-- what stands before anything is known
abbrev pub no_meaning : Meaning
no_meaning = record { heap = record { section = 0; fields = 0; objects = []; variables = []; dropped = 0 }; got = refs.Nil; value = 0 }

-- what the words of section w mean
abbrev pub meaning_of : List Meaning → ℕ → Meaning
meaning_of ms w = slice_index_or ms w no_meaning

-- the meanings when that of section w changes
abbrev pub changed : List Meaning → ℕ → (Meaning → Meaning) → List Meaning
changed ms w f = slice_set ms w (f (meaning_of ms w))

-- a meaning after a plain step
abbrev pub stepped : Option Heap → Op → Meaning → Meaning
stepped catalogue op m = record m { heap = heap_after m.heap catalogue op }

-- the first variable that has this word, counted from k
abbrev pub place_of : List ℕ → ℕ → ℕ → ℕ
place_of [] word k = k
place_of (x ∷ xs) word k = if x == word then k else place_of xs word (k + 1)

-- the reference by which the seat knows cell c: its register's, or that of the first variable with this cell
abbrev pub known_as : SeatState → Meaning → ℕ → Ref
known_as s m c = if s.got == c + 1 then m.got else variable m.heap (place_of s.env (c + 1) 0)

-- the register is given a reference
abbrev pub with_got : Ref → Meaning → Meaning
with_got ref m = record m { got = ref }

-- the value of a new cell is stored after its fields
abbrev pub with_part : Shape → ℕ → ℕ → Meaning → Meaning
with_part sh part word m = record m { value = if part == sh.fields then word else m.value }

-- what the words of its section mean after a step of a seat, whose plain step is `op` if it has one
abbrev pub meaning_after : Shape → SeatState → Option Heap → Step → Op → Meaning → Meaning
meaning_after sh s catalogue (StoreField v i w) op m = stepped catalogue op m
meaning_after sh s catalogue (StoreValue v n) op m = stepped catalogue op m
meaning_after sh s catalogue (StoreRoot v r) op m = with_got refs.Nil (stepped catalogue op m)
meaning_after sh s catalogue (HoldRoot v r) op m = with_got refs.Nil (stepped catalogue op m)
meaning_after sh s catalogue (ReadOwn c i) op m = with_got (followed m.heap catalogue (known_as s m c) i) m
meaning_after sh s catalogue (ReadCat v) op m = with_got (lent_variable catalogue v) m
meaning_after sh s catalogue (ReadSlot k) op m = with_got refs.Nil m
meaning_after sh s catalogue (StoreNew c part word) op m = with_part sh part word m
meaning_after sh s catalogue step op m = m

-- the meanings of all sections, when a step changes that of its seat's own
abbrev pub changed_by : Shape → SeatState → Step → Op → List Meaning → List Meaning
changed_by sh s step op ms = changed ms (own_section s) (meaning_after sh s (catalogue_seen ms (own_section s)) step op)

-- the meanings of all sections after a step
abbrev pub meanings_after : Shape → SeatState → Step → Op → List Meaning → List Meaning
meanings_after sh s (StoreField v i w) op ms = changed_by sh s (StoreField v i w) op ms
meanings_after sh s (StoreValue v n) op ms = changed_by sh s (StoreValue v n) op ms
meanings_after sh s (StoreRoot v r) op ms = changed_by sh s (StoreRoot v r) op ms
meanings_after sh s (HoldRoot v r) op ms = changed_by sh s (HoldRoot v r) op ms
meanings_after sh s (ReadOwn c i) op ms = changed_by sh s (ReadOwn c i) op ms
meanings_after sh s (ReadCat v) op ms = changed_by sh s (ReadCat v) op ms
meanings_after sh s (ReadSlot k) op ms = changed_by sh s (ReadSlot k) op ms
meanings_after sh s (StoreNew c part word) op ms = changed_by sh s (StoreNew c part word) op ms
meanings_after sh s step op ms = ms

-- the seat has seen a phase in which it may store
abbrev pub HasSeenPhase : SeatState → Type 0
HasSeenPhase s = (p : Phase) × (s.phase_seen ≡ Some p) × (p ≡ Full → ⊥)

-- what is stored in a field: a variable, or nil by the name of a variable that is nil
abbrev pub IsSet : Heap → ℕ → ℕ → Option ℕ → Op → Type 0
IsSet heap v i None op = (u : ℕ) × (u < section_variables) × (variable heap u ≡ refs.Nil) × (op ≡ ops.Set v i u)
IsSet heap v i (Some w) op = op ≡ ops.Set v i w

-- what becomes of variable v when its root is stored, or it is held: the object for which a cell was made, nil, another variable, or what the register has by a field or from
-- the catalogue
abbrev pub IsAssignment : SeatState → Meaning → Option Heap → ℕ → ℕ → Op → Type 0
IsAssignment s m catalogue v r (ops.New u n) = (u ≡ v) × (n ≡ m.value) × IsTrue (names_last s.cache r) × (length m.heap.objects + 1 ≡ s.made)
IsAssignment s m catalogue v r (ops.Nil u) = (u ≡ v) × (r ≡ 0)
IsAssignment s m catalogue v r (ops.Let u x) = (u ≡ v) × (x < section_variables) × (r ≡ word_in s x)
IsAssignment s m catalogue v r (ops.Get u x i) = (u ≡ v) × (r ≡ s.got) × (m.got ≡ followed m.heap catalogue (variable m.heap x) i) × (x < section_variables) × (i < m.heap.fields)
IsAssignment s m catalogue v r (ops.Cat u x) = (u ≡ v) × (r ≡ s.got) × (m.got ≡ lent_variable catalogue x) × (x < section_variables)
IsAssignment s m catalogue v r op = ⊥

-- what is asked of a step besides its own condition, by the seat's record, what it stands for, and what it sees of the catalogue
abbrev pub Asks : SeatState → Meaning → Option Heap → Step → Op → Type 0
Asks s m catalogue (StoreField v i w) op = HasSeenPhase s × IsSet m.heap v i w op
Asks s m catalogue (StoreValue v n) op = HasSeenPhase s × (op ≡ ops.Put v n) × (n < flag)
Asks s m catalogue (StoreRoot v r) op = HasSeenPhase s × IsAssignment s m catalogue v r op
Asks s m catalogue (HoldRoot v r) op = HasSeenPhase s × IsAssignment s m catalogue v r op
-- a plain heap has no slots
Asks s m catalogue (StoreSlot k r) op = ⊥
-- and nothing leads back to what it doesn't reach
Asks s m catalogue (ReadWeak c) op = ⊥
Asks s m catalogue (StoreNew c part word) op = part ≡ 0 → length m.heap.objects ≡ s.made
Asks s m catalogue step op = Unit {0}

-- what is asked besides of a step of this seat, by what all sections mean
abbrev pub AsksIn : SeatState → List Meaning → Step → Op → Type 0
AsksIn s ms step op = Asks s (meaning_of ms (own_section s)) (catalogue_seen ms (own_section s)) step op

-- the step changes the plain heap of its seat's section
abbrev pub changes_heap : Step → Bool
changes_heap (StoreField v i w) = true
changes_heap (StoreValue v n) = true
changes_heap (StoreRoot v r) = true
changes_heap (HoldRoot v r) = true
changes_heap step = false
