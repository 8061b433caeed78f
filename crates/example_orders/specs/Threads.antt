-- What each of the four threads adds to its log.
use Rattle.std.specs.Prelude.{ℕ, ◌≡◌, ◌+◌, ◌==◌, not, List, ◌∷◌, ◌++◌, Bool, true, false, Some, IsTrue}
use Rattle.mark_core.specs.Bits.{reference_in}
use Rattle.mark_core.specs.Steps.MutatorSteps.{seat_variable as word_in}
use Rattle.mark_core.specs.declared.kinds.Step.{Step}
use Rattle.mark_core.specs.declared.kinds.Step.TheVariants.{ExchangeField, ExchangeValue, HoldRoot, ReadOwn, StoreField, StoreRoot, StoreValue}
use Rattle.gc_table.specs.Entries.{event}
use Rattle.gc_table.specs.Log.{all_steps}
use Rattle.gc_table.specs.Seats.{state_of}
use Rattle.gc_table.specs.declared.view.Entry.{Entry}
use Rattle.shared_heap.specs.Logs.{Adds}
use Rattle.shared_heap.specs.declared.mutator.SharedMutator.{SharedMutator}
use Rattle.example_orders.specs.Orders.{FieldThenValue, ValueThenField, is_object, is_root}
use Rattle.example_orders.specs.Variables.{after_log, all_nil}
use Rattle.example_orders.specs.declared.reading.Reading.{Reading}

-- the step stores in no object: it changes no value and no field
abbrev pub spares_objects : Step → Bool
spares_objects (StoreField v i x) = false
spares_objects (StoreValue v n) = false
spares_objects (ExchangeField v i x y) = false
spares_objects (ExchangeValue v m n) = false
spares_objects step = true

-- nor does it change variable 0
abbrev pub spares_root : Step → Bool
spares_root (StoreRoot v r) = not (v == 0)
spares_root (HoldRoot v r) = not (v == 0)
spares_root step = spares_objects step

-- none of these entries stores in an object
abbrev pub StoresNone : List Entry → Type 0
StoresNone es = IsTrue (all_steps spares_objects es)

-- these let variable 0 refer to the root, by this cell, and store in no object
pub record FindsRoot (cell : ℕ) (es : List Entry) : Type 0 where
  pub none : StoresNone es
  pub root : IsTrue (is_root (after_log all_nil es) cell)

-- the mutator let its variable 0 refer to the root
pub record ComesToRoot (x y : SharedMutator) : Type 0 where
  pub cell : ℕ
  pub adds : Adds (FindsRoot cell) x y
  pub word : word_in (state_of y.seat) 0 ≡ cell + 1

-- field 0 of the object in this cell was read, and found to refer to an object or to nothing; variable 0 is as it was
pub record Looks (cell : ℕ) (some : Bool) (x y : SharedMutator) : Type 0 where
  pub found : ℕ
  pub rest : List Entry
  pub adds : Adds (λ es. es ≡ event (ReadOwn cell 0) found ∷ rest) x y
  pub spares : IsTrue (all_steps spares_root rest)
  pub is : some ≡ not (reference_in found == 0)
  pub word : word_in (state_of y.seat) 0 ≡ cell + 1

-- that cell is the one of variable 0's object, if there is one
abbrev pub LooksAtField : Bool → SharedMutator → SharedMutator → Type 0
LooksAtField some x y = (cell : ℕ) → word_in (state_of x.seat) 0 ≡ cell + 1 → Looks cell some x y

-- once the root's value 0 was exchanged for 1, or was something else; nothing else was stored in an object
pub record StoresValue (es : List Entry) : Type 0 where
  pub before : List Entry
  pub found : ℕ
  pub after : List Entry
  pub is : es ≡ before ++ event (ExchangeValue 0 0 1) found ∷ after
  pub root : IsTrue (after_log all_nil before).lent
  pub once : StoresNone before × StoresNone after

-- once the root's field 0 came to refer to the object of variable 1; nothing else was stored in an object
pub record StoresField (es : List Entry) : Type 0 where
  pub before : List Entry
  pub stored : Entry
  pub after : List Entry
  pub is : es ≡ before ++ stored ∷ after
  pub step : stored.step ≡ StoreField 0 0 (Some 1)
  pub root : IsTrue (after_log all_nil before).lent
  pub object : IsTrue (is_object (after_log all_nil before) (Some 1))
  pub once : StoresNone before × StoresNone after

-- both words of the root were read, the value first, with this outcome, and nothing was stored in an object
abbrev pub ReadsValueFirst : Reading → List Entry → Type 0
ReadsValueFirst r es = ValueThenField r.value r.stored es × StoresNone es

-- the same, the field first
abbrev pub ReadsFieldFirst : Reading → List Entry → Type 0
ReadsFieldFirst r es = FieldThenValue r.stored r.value es × StoresNone es
