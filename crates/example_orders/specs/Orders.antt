-- Two words of the root that threads only fill: its value, which becomes 1, and its field 0, which comes to refer to an object. And who reads both, by his log.
use Rattle.std.specs.Prelude.{ℕ, ◌≡◌, ◌+◌, ◌==◌, ◌&&◌, not, List, [], ◌∷◌, ◌++◌, Bool, true, false, Option, None, Some, IsTrue}
use Rattle.mark_core.specs.Bits.{reference_in}
use Rattle.mark_core.specs.declared.kinds.Step.{Step}
use Rattle.mark_core.specs.declared.kinds.Step.TheVariants.{ExchangeField, ExchangeValue, ReadOwn, ReadValue, StoreField, StoreValue}
use Rattle.gc_table.specs.Entries.{event}
use Rattle.gc_table.specs.declared.view.Entry.{Entry}
use Rattle.example_orders.specs.Variables.{Variables, after_log, after_step, all_nil}

-- this is variable 1, and it refers to an object
abbrev pub is_object : Variables → Option ℕ → Bool
is_object k None = false
is_object k (Some v) = (v == 1) && not (k.second == 0)

-- the step takes nothing back: no value becomes another than 1, and no field nil
abbrev pub fills : Variables → Step → Bool
fills k (StoreValue v n) = n == 1
fills k (ExchangeValue v m n) = n == 1
fills k (StoreField v i x) = is_object k x
fills k (ExchangeField v i x y) = is_object k y
fills k step = true

-- nor does any of these entries
abbrev pub all_fill : Variables → List Entry → Bool
all_fill k [] = true
all_fill k (e ∷ es) = fills k e.step && all_fill (after_step k e.step e.found) es

abbrev pub OnlyFills : List Entry → Type 0
OnlyFills log = IsTrue (all_fill all_nil log)

-- variable 0 refers to the root, by this cell
abbrev pub is_root : Variables → ℕ → Bool
is_root k cell = k.lent && (k.first == cell + 1)

-- after these entries the root's value was read, and found to be n
abbrev pub ReadsValue : List Entry → Entry → ℕ → Type 0
ReadsValue before e n = (cell : ℕ) × (e ≡ event (ReadValue cell) n) × IsTrue (is_root (after_log all_nil before) cell)

-- after them the root's field 0 was read, and found to refer to an object, or to nothing
abbrev pub ReadsField : List Entry → Entry → Bool → Type 0
ReadsField before e some = (cell found : ℕ) × (e ≡ event (ReadOwn cell 0) found) × IsTrue (is_root (after_log all_nil before) cell) × (some ≡ not (reference_in found == 0))

-- the log has a read of the value, which found n, and behind it one of the field, which found an object or nothing
pub record ValueThenField (n : ℕ) (some : Bool) (log : List Entry) : Type 0 where
  pub before : List Entry
  pub first : Entry
  pub between : List Entry
  pub second : Entry
  pub after : List Entry
  pub is : log ≡ before ++ first ∷ (between ++ second ∷ after)
  pub value : ReadsValue before first n
  pub field : ReadsField (before ++ first ∷ between) second some

-- the log has a read of the field, which found an object or nothing, and behind it one of the value, which found n
pub record FieldThenValue (some : Bool) (n : ℕ) (log : List Entry) : Type 0 where
  pub before : List Entry
  pub first : Entry
  pub between : List Entry
  pub second : Entry
  pub after : List Entry
  pub is : log ≡ before ++ first ∷ (between ++ second ∷ after)
  pub field : ReadsField before first some
  pub value : ReadsValue (before ++ first ∷ between) second n

-- one reader found that the value was stored and the field not yet, another that the field was stored and the value not yet
abbrev pub Contradict : List Entry → List Entry → Type 0
Contradict log other = ValueThenField 1 false log × FieldThenValue true 0 other
