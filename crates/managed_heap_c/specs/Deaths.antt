-- Which of many weak references have dead objects.
use Rattle.std.specs.Prelude.{ℕ, zero, suc, ◌≡◌, ◌≢◌, ◌≤◌, ◌<◌, ◌^◌, ◌⊎◌, List, [], ◌∷◌, ◌++◌, length, slice_get, Some, take}
use Rattle.plain_heap.specs.declared.operation.Op.TheVariants as ops
use Rattle.seat_turns.specs.declared.weak.Weak.{Weak}
use Rattle.seat_steps.specs.Deaths.{AsksTo}
use Rattle.seat_steps.specs.Stepping.{Operates}
use Rattle.seat_steps.specs.declared.came.Came.{Came}
use Rattle.seat_steps.specs.declared.came.Came.TheVariants as cames
use Rattle.seat_steps.specs.declared.stepper.Stepper.{Stepper}

-- there is room for the numbers of all entries, and each is a number of C
abbrev pub HasRoom : List Weak → ℕ → Type 0
HasRoom weaks room = (length weaks ≤ room) × (length weaks < 2 ^ 32)

-- what an entry of the table came to: there is none yet, and nothing was done; or asking for its object came to this
abbrev pub EntryCame : Weak → ℕ → Came → Stepper → Stepper → Type 0
EntryCame weak v came x y = ((weak.world ≡ 0) × (came ≡ cames.Done) × (y ≡ x)) ⊎ ((weak.world ≢ 0) × AsksTo came weak v x y)

-- entry k came to this, and these numbers became those
abbrev pub Counts : Came → ℕ → List ℕ → List ℕ → Type 0
Counts cames.Done k before after = after ≡ before
Counts cames.Dead k before after = after ≡ before ++ k ∷ []
Counts came k before after = ⊥

-- the first k entries were asked for, one after another, and these are the numbers of those whose objects are dead, in order
unfoldable pub AsksFirst : ℕ → ℕ → List Weak → List ℕ → Stepper → Stepper → Type 0
AsksFirst zero v weaks ns x y = (ns ≡ []) × (y ≡ x)
AsksFirst (suc k) v weaks ns x y =
    (z : Stepper) × (before : List ℕ) × (weak : Weak) × (came : Came) × AsksFirst k v weaks before x z × (slice_get weaks k ≡ Some weak) × EntryCame weak v came z y × Counts came k before ns

-- an entry was refused
abbrev pub IsRefusal : Came → Type 0
IsRefusal came = (came ≢ cames.Done) × (came ≢ cames.Dead)

-- why a table isn't gone through to its end: entry k is refused, and those before it are told
pub record StopsAt (v : ℕ) (weaks : List Weak) (ns : List ℕ) (came : Came) (x y : Stepper) : Type 0 where
  pub k : ℕ
  pub there : Stepper
  pub weak : Weak
  pub first : AsksFirst k v weaks ns x there
  pub entry : slice_get weaks k ≡ Some weak
  pub refused : (weak.world ≢ 0) × AsksTo came weak v there y
  pub why : IsRefusal came

-- what going through the table came to, from a variable that is nil on
abbrev pub GoesThrough : ℕ → List Weak → List ℕ → Came → Stepper → Stepper → Type 0
GoesThrough v weaks ns cames.Done x y = AsksFirst (length weaks) v weaks ns x y
GoesThrough v weaks ns came x y = StopsAt v weaks ns came x y

-- why no entry was asked for: there isn't room for all, or the variable wasn't emptied
abbrev pub AsksNone : ℕ → List Weak → ℕ → Came → Stepper → Stepper → Type 0
AsksNone v weaks room came x y =
    ((came ≡ cames.OutOfRange) × (HasRoom weaks room → ⊥) × (y ≡ x)) ⊎ (HasRoom weaks room × (came ≢ cames.Done) × Operates came (ops.Nil v) x y)

-- the variable was emptied, and then the table was gone through: the numbers stand at the beginning of `dead`
pub record AsksAll (v : ℕ) (weaks : List Weak) (dead : List ℕ) (many : ℕ) (came : Came) (x y : Stepper) : Type 0 where
  pub emptied : Stepper
  pub empties : Operates cames.Done (ops.Nil v) x emptied
  pub within : many ≤ length dead
  pub goes : GoesThrough v weaks (take many dead) came emptied y

-- what asking for the deaths in a table came to, by what the variables of C were and are: nothing was asked for or written, or all was
abbrev pub DeathsTo : ℕ → List Weak → List ℕ → ℕ → List ℕ → ℕ → Came → Stepper → Stepper → Type 0
DeathsTo v weaks dead_before many_before dead many came x y =
    (AsksNone v weaks (length dead_before) came x y × (dead ≡ dead_before) × (many ≡ many_before)) ⊎ (HasRoom weaks (length dead_before) × AsksAll v weaks dead many came x y)
