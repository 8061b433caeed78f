-- The calls of a mutator that want an object: exchanges, and the place and number of an object.
use Rattle.std.specs.Prelude.{ℕ, ◌≡◌, ◌<◌}
use Rattle.mark_core.specs.Numbers.{section_variables}
use Rattle.mark_core.specs.Steps.MutatorSteps.{seat_variable as word_in}
use Rattle.gc_table.specs.Seats.{state_of}
use Rattle.seat_turns.specs.declared.refused.Refused.{Refused}
use Rattle.seat_turns.specs.declared.refused.Refused.TheVariants as refusals
use Rattle.shared_heap.specs.Calls.{field_count_of}
use Rattle.shared_heap.specs.declared.mutator.Place.TheVariants.{Inside, Outside}
use Rattle.shared_heap.specs.declared.mutator.SharedMutator.{SharedMutator}

-- the mutator has a variable of this number
abbrev pub IsVariable : ℕ → Type 0
IsVariable v = v < section_variables

-- the numbers of an exchange of a field are in range
abbrev pub CanExchange : SharedMutator → ℕ → ℕ → ℕ → ℕ → Type 0
CanExchange x v i expected new = IsVariable v × (i < field_count_of x) × IsVariable expected × IsVariable new

-- why a call isn't done that wants variable v's object: a number is out of range, the mutator is outside, or the variable refers to nothing; no step was taken
abbrev pub WantsObject : Refused → Type 0 → ℕ → SharedMutator → SharedMutator → Type 0
WantsObject refusals.OutOfRange range v x y = (range → ⊥) × (y ≡ x)
WantsObject refusals.Outside range v x y = (x.place ≡ Outside) × (y ≡ x)
WantsObject refusals.Nil range v x y = range × (x.place ≡ Inside) × (word_in (state_of x.seat) v ≡ 0) × (y ≡ x)
WantsObject e range v x y = ⊥
