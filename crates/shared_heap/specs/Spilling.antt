-- The slots of a mutator.
use Rattle.std.specs.Prelude.{ℕ, ◌≤◌, ◌<◌}
use Rattle.std.specs.Arc.{arc_value}
use Rattle.mark_core.specs.Numbers.{section_variables}
use Rattle.shared_heap.specs.declared.mutator.SharedMutator.{SharedMutator}

-- how many slots the mutator has
abbrev pub slot_count_of : SharedMutator → ℕ
slot_count_of m = (arc_value m.heap).shape.slots

-- the mutator has this variable and this slot
abbrev pub IsSlot : SharedMutator → ℕ → ℕ → Type 0
IsSlot m v k = (v < section_variables) × (k < slot_count_of m)

-- the mutator has the slots from the one number on and below the other
abbrev pub HasSlots : SharedMutator → ℕ → ℕ → Type 0
HasSlots m from to = (from ≤ to) × (to ≤ slot_count_of m)
