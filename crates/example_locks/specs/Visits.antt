-- What a thread adds to its log that takes and leaves a lock, and changes inside the pair that it guards. The lock is the value of the root, the pair its fields 0 and 1; variable 0 of each thread refers to the root.
use Rattle.std.specs.Prelude.{ℕ, ◌≡◌, ◌<◌, ◌==◌, not, List, ◌∷◌, ◌++◌, Bool, true, false, Option, None, IsTrue}
use Rattle.mark_core.specs.Bits.{reference_in}
use Rattle.mark_core.specs.declared.kinds.Step.{Step}
use Rattle.mark_core.specs.declared.kinds.Step.TheVariants.{ExchangeField, ExchangeValue, HoldRoot, ReadCat, StoreField, StoreRoot}
use Rattle.gc_table.specs.Entries.{event}
use Rattle.gc_table.specs.Log.{all_steps}
use Rattle.gc_table.specs.Single.{is_inside, takes_turns, won_count}
use Rattle.gc_table.specs.declared.view.Entry.{Entry}
use Rattle.heap_laws.specs.LentLocks.{makes_zero}
use Rattle.heap_laws.specs.Locks.{stores_none}
use Rattle.heap_laws.specs.Pairs.{fits_pairs, pending}
use Rattle.seat_turns.specs.Sharing.{spares_heap}
use Rattle.shared_heap.specs.Calls.{field_count_of}
use Rattle.shared_heap.specs.Logs.{Adds}
use Rattle.shared_heap.specs.declared.mutator.SharedMutator.{SharedMutator}

-- the step exchanges a value, or stores in a field, through variable 0 only, and leaves this variable
abbrev pub keeps_root : Step → Bool
keeps_root (ExchangeValue v m n) = v == 0
keeps_root (StoreField v i x) = v == 0
keeps_root (StoreRoot v r) = not (v == 0)
keeps_root (HoldRoot v r) = not (v == 0)
keeps_root step = true

-- the step leaves the lock and the pair
abbrev pub spares_root : Step → Bool
spares_root (ExchangeValue v m n) = false
spares_root (StoreField v i x) = false
spares_root (ExchangeField v i x y) = false
spares_root (StoreRoot v r) = not (v == 0)
spares_root (HoldRoot v r) = not (v == 0)
spares_root step = true

-- these events exchange 0 for 1 while the seat is outside the lock, and 1 for 0 while it is inside; this many were won. Before them it was inside or not, and
-- after them it is or not. Inside, each store in field 0 is followed by one in field 1 of the same; before them the first of the two was done or not, and after
-- them it is or not. They store no value, and what they make has the value 0
pub record Visits (fields : ℕ) (was is : Bool) (p q : Option (Option ℕ)) (n : ℕ) (es : List Entry) : Type 0 where
  pub turns : IsTrue (takes_turns was es)
  pub inside : is_inside was es ≡ is
  pub pairs : IsTrue (fits_pairs was p es)
  pub waits : pending p es ≡ q
  pub through : IsTrue (all_steps keeps_root es)
  pub unstored : IsTrue (all_steps stores_none es)
  pub zeros : IsTrue (all_steps (makes_zero fields) es)
  pub won : won_count es ≡ n

-- so did the mutator, with whole pairs
abbrev pub AddsVisits : Bool → Bool → ℕ → SharedMutator → SharedMutator → Type 0
AddsVisits was is n x y = Adds (Visits (field_count_of x) was is None None n) x y

-- the mutator left the lock and the pair, stored no value, and made objects of value 0 only
pub record Spares (fields : ℕ) (es : List Entry) : Type 0 where
  pub root : IsTrue (all_steps spares_root es)
  pub unstored : IsTrue (all_steps stores_none es)
  pub zeros : IsTrue (all_steps (makes_zero fields) es)

abbrev pub AddsSpares : SharedMutator → SharedMutator → Type 0
AddsSpares x y = Adds (Spares (field_count_of x)) x y

-- the log of a thread: it did nothing that a plain heap sees, then it asked for the root, found it and let variable 0 refer to it, and then it visited the lock
pub record VisitsRoot (fields n : ℕ) (es : List Entry) : Type 0 where
  pub before : List Entry
  pub word : ℕ
  pub visits : List Entry
  pub old : ℕ
  pub log : es ≡ before ++ event (ReadCat 0) word ∷ event (HoldRoot 0 (reference_in word)) old ∷ visits
  pub quiet : IsTrue (all_steps spares_heap before)
  pub some : 0 < reference_in word
  pub visited : Visits fields false false None None n visits

abbrev pub AddsWhole : ℕ → SharedMutator → SharedMutator → Type 0
AddsWhole n x y = Adds (VisitsRoot (field_count_of x) n) x y
