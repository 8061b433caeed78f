-- Why a call on a structure was refused, and where the mutator is then.
use Rattle.std.specs.Prelude.{ℕ, ◌≡◌, ◌<◌, ◌≤◌, ◌⊎◌}
use Rattle.seat_turns.specs.declared.refused.Refused.{Refused}
use Rattle.seat_turns.specs.declared.refused.Refused.TheVariants as refusals
use Rattle.shared_heap.specs.Calls.{IsFull, field_count_of}
use Rattle.shared_heap.specs.declared.mutator.Place.TheVariants.{Inside, Outside}
use Rattle.shared_heap.specs.declared.mutator.SharedMutator.{SharedMutator}

-- variable v is the caller's, and the world's objects have as many references
abbrev pub IsFor : ℕ → ℕ → SharedMutator → Type 0
IsFor v least m = (v < 20) × (least ≤ field_count_of m)

-- why a call did nothing at all: a number is out of range, or the mutator is outside
abbrev pub CantBegin : Refused → Type 0 → SharedMutator → Type 0
CantBegin refusals.OutOfRange range m = range → ⊥
CantBegin refusals.Outside range m = m.place ≡ Outside
CantBegin e range m = ⊥

-- so it was refused
pub record NotBegun (e : Refused) (range : Type 0) (x y : SharedMutator) : Type 0 where
  pub why : CantBegin e range x
  pub same : y ≡ x

-- why a call was given up that had begun inside: the heap was found full, for good, and the mutator is outside; or it is inside still, and has made all objects that
-- have numbers, or found nothing where a structure always has an object
abbrev pub GivenUp : Refused → SharedMutator → Type 0
GivenUp refusals.Full m = IsFull m × (m.place ≡ Outside)
GivenUp refusals.Spent m = m.place ≡ Inside
GivenUp refusals.Nil m = m.place ≡ Inside
GivenUp e m = ⊥

-- so it was refused: it did nothing, or began inside and was given up
abbrev pub IsRefused : Refused → Type 0 → SharedMutator → SharedMutator → Type 0
IsRefused e range x y = NotBegun e range x y ⊎ ((x.place ≡ Inside) × GivenUp e y)
