-- A pair that a lent lock guards: fields 0 and 1 of the lock itself, which each visit leaves alike; told by the logs of threads alone.
use Rattle.std.specs.Prelude.{ℕ, ◌≡◌, ◌+◌, ◌<◌, ◌==◌, ◌&&◌, if◌then◌else◌, is_none, not, List, [], ◌∷◌, ◌++◌, Bool, true, false, Option, None, Some, IsTrue, IsFalse, length, take}
use Rattle.plain_heap.specs.Paths.{Name}
use Rattle.mark_core.specs.Numbers.{section_variables}
use Rattle.mark_core.specs.declared.kinds.Event.{Event}
use Rattle.mark_core.specs.declared.kinds.Shape.{Shape}
use Rattle.mark_core.specs.declared.kinds.Step.{Step}
use Rattle.mark_core.specs.declared.kinds.Step.TheVariants.{ExchangeField, ExchangeValue, StoreField, StoreRoot, HoldRoot}
use Rattle.gc_table.specs.Past.{log_of}
use Rattle.gc_table.specs.RunWorlds.{World, WorldObject, object_of, reference_of}
use Rattle.gc_table.specs.Sharing.{heap_after_events}
use Rattle.gc_table.specs.Single.{is_inside, turned}
use Rattle.gc_table.specs.declared.view.Entry.{Entry}
use Rattle.heap_laws.specs.Lent.{holds_lent}
use Rattle.heap_laws.specs.LentLocks.{TakesLent}

-- the variable, or nil, that was stored in field 0 and is yet to be stored in field 1
abbrev pub pending_after : Option (Option ℕ) → Step → Option (Option ℕ)
pending_after p (StoreField v i x) = if i == 0 then Some x else if i == 1 then None else p
pending_after p step = p

-- the same after these entries
abbrev pub pending : Option (Option ℕ) → List Entry → Option (Option ℕ)
pending p [] = p
pending p (e ∷ es) = pending (pending_after p e.step) es

-- both are nil, or one variable
abbrev pub is_source : Option ℕ → Option ℕ → Bool
is_source None None = true
is_source None (Some y) = false
is_source (Some x) None = false
is_source (Some x) (Some y) = x == y

-- this is yet to be stored
abbrev pub is_pending : Option (Option ℕ) → Option ℕ → Bool
is_pending None x = false
is_pending (Some y) x = is_source y x

-- fields are stored only inside: in field 1 what was stored in field 0, before the lock or the variable is changed
abbrev pub fits_pair : Bool → Option (Option ℕ) → Step → Bool
fits_pair b p (StoreField v i x) = b && (if i == 0 then is_none p else if i == 1 then is_pending p x else true)
fits_pair b p (ExchangeField v i x y) = false
fits_pair b p (ExchangeValue v m n) = is_none p
fits_pair b p (StoreRoot w r) = not (is_pending p (Some w))
fits_pair b p (HoldRoot w r) = not (is_pending p (Some w))
fits_pair b p step = true

-- so does each of these entries
abbrev pub fits_pairs : Bool → Option (Option ℕ) → List Entry → Bool
fits_pairs b p [] = true
fits_pairs b p (e ∷ es) = fits_pair b p e.step && fits_pairs (turned b e.step e.won) (pending_after p e.step) es

-- each store in a field goes through a variable that refers to what section 0 lends in its variable u
abbrev pub IsStoredLent : ℕ → List Entry → Type 0
IsStoredLent u log = (before after : List Entry) (e : Entry) (v i : ℕ) (x : Option ℕ) → log ≡ before ++ e ∷ after → e.step ≡ StoreField v i x → (v < section_variables) × IsTrue (holds_lent u v None false before)

-- the seats take what is lent for a lock, and change its fields 0 and 1 in pairs
pub record KeepsPair (sh : Shape) (es : List Event) (u : ℕ) (name : Name) : Type 0 where
  pub takes : TakesLent sh es u name
  pub pairs : (i : ℕ) → IsTrue (fits_pairs false None (log_of sh es i))
  pub stored : (i : ℕ) → IsStoredLent u (log_of sh es i)

-- both fields of the object refer to the same
abbrev pub IsWholePair : World → Name → Type 0
IsWholePair world name = (object : WorldObject) → object_of world name ≡ Some object → reference_of object 0 ≡ reference_of object 1

-- whoever comes in finds the pair whole, for every schedule
abbrev pub PairByLog : Type 0
PairByLog =
    (sh : Shape) (es : List Event) (u : ℕ) (name : Name) → KeepsPair sh es u name → (k i : ℕ) → k < length es → IsFalse (is_inside false (log_of sh (take k es) i)) → IsTrue (is_inside false (log_of sh (take (k + 1) es) i))
    → IsWholePair (heap_after_events sh es k) name × IsWholePair (heap_after_events sh es (k + 1)) name
