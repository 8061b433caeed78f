-- A table of weak references is gone through, one entry after the other.
use Rattle.std.proofs.Common.{ℕ, ◌≡◌, ◌≢◌, ◌<◌, ◌+◌, suc, List, [], length, take, set, Some, refl, sym, subst, arith, ⊎_elim, inl, inr}
use Rattle.std.specs.Prelude.{slice_get}
use Rattle.std.proofs.lemmas.List.{take_more_set}
use Rattle.plain_heap.specs.declared.operation.Op.TheVariants as ops
use Rattle.seat_turns.specs.declared.weak.Weak.{Weak}
use Rattle.seat_steps.specs.Deaths.{AsksTo}
use Rattle.seat_steps.specs.Stepping.{Operates}
use Rattle.seat_steps.specs.declared.came.Came.{Came}
use Rattle.seat_steps.specs.declared.came.Came.TheVariants as cames
use Rattle.seat_steps.specs.declared.stepper.Stepper.{Stepper}
use Rattle.managed_heap_c.specs.Bytes.{IsByteOf}
use Rattle.managed_heap_c.specs.Deaths.{AsksAll, AsksFirst, AsksNone, Counts, DeathsTo, EntryCame, GoesThrough, HasRoom, IsRefusal}
use Rattle.managed_heap_c.proofs.Numbered.{same}
use Rattle.managed_heap_c.proofs.Widened.{nil-one, operates-by}

-- the object is alive, or there is none yet
pub none-noted : (came : Came) (k : ℕ) (ns : List ℕ) → came ≡ cames.Done → Counts came k ns ns
none-noted came k ns e = subst (λ c. Counts c k ns ns) (sym e) refl

-- its number is noted
pub noted : (came : Came) (k many : ℕ) (dead : List ℕ) → came ≡ cames.Dead → many < length dead → Counts came k (take many dead) (take (many + 1) (set dead many k))
noted came k many dead e l = subst (λ c. Counts c k (take many dead) (take (many + 1) (set dead many k))) (sym e) (take_more_set dead many k l)

pub asks-none : (v : ℕ) (weaks : List Weak) (ns : List ℕ) (x : Stepper) → ns ≡ [] → AsksFirst 0 v weaks ns x x
unfolding AsksFirst
asks-none v weaks ns x e = (e, refl)

pub asks-more :
    (k v : ℕ) (weaks : List Weak) (before ns : List ℕ) (weak : Weak) (came : Came) (x z y : Stepper) → AsksFirst k v weaks before x z → slice_get weaks k ≡ Some weak → EntryCame weak v came z y → Counts came k before ns
    → AsksFirst (k + 1) v weaks ns x y
unfolding AsksFirst
asks-more k v weaks before ns weak came x z y first entry asked counts =
    let e : suc k ≡ k + 1 = omega arith in subst (λ n. AsksFirst n v weaks ns x y) e (z, before, weak, came, first, entry, asked, counts)

-- an entry that is refused was asked for
asked-for : (weak : Weak) (v : ℕ) (came : Came) (x y : Stepper) → IsRefusal came → EntryCame weak v came x y → (weak.world ≢ 0) × AsksTo came weak v x y
asked-for weak v came x y why e =
    ⊎_elim (λ (none : (weak.world ≡ 0) × (came ≡ cames.Done) × (y ≡ x)). absurd (why.0 none.1)) (λ (asked : (weak.world ≢ 0) × AsksTo came weak v x y). asked) e

pub stopped :
    (k v : ℕ) (weaks : List Weak) (ns : List ℕ) (weak : Weak) (came : Came) (x z y : Stepper) → AsksFirst k v weaks ns x z → slice_get weaks k ≡ Some weak → IsRefusal came → EntryCame weak v came z y → GoesThrough v weaks ns came x y
stopped k v weaks ns weak cames.Done x z y first entry why e = absurd (why.0 refl)
stopped k v weaks ns weak came x z y first entry why e = record { k = k; there = z; weak = weak; first = first; entry = entry; refused = asked-for weak v came z y why e; why = why }

none-by : (came : Came) (v b room : ℕ) (weaks : List Weak) (x y : Stepper) → IsByteOf v b → AsksNone b weaks room came x y → AsksNone v weaks room came x y
none-by came v b room weaks x y i e =
    ⊎_elim (λ (o : (came ≡ cames.OutOfRange) × (HasRoom weaks room → ⊥) × (y ≡ x)). inl o)
    (λ (f : HasRoom weaks room × (came ≢ cames.Done) × Operates came (ops.Nil b) x y). inr (f.0, f.1, operates-by came (ops.Nil b) (ops.Nil v) x y (nil-one x v b i) f.2)) e

all-by : (came : Came) (v b many : ℕ) (weaks : List Weak) (dead : List ℕ) (x y : Stepper) → IsByteOf v b → AsksAll b weaks dead many came x y → AsksAll v weaks dead many came x y
all-by came v b many weaks dead x y i e = subst (λ k. AsksAll k weaks dead many came x y) (same v b i e.empties.0.range) e

pub deaths-by :
    (came : Came) (v b : ℕ) (weaks : List Weak) (dead_before : List ℕ) (many_before : ℕ) (dead : List ℕ) (many : ℕ) (x y : Stepper) → IsByteOf v b → DeathsTo b weaks dead_before many_before dead many came x y
    → DeathsTo v weaks dead_before many_before dead many came x y
deaths-by came v b weaks dead_before many_before dead many x y i e =
    ⊎_elim (λ (n : AsksNone b weaks (length dead_before) came x y × (dead ≡ dead_before) × (many ≡ many_before)). inl (none-by came v b (length dead_before) weaks x y i n.0, n.1, n.2))
    (λ (a : HasRoom weaks (length dead_before) × AsksAll b weaks dead many came x y). inr (a.0, all-by came v b many weaks dead x y i a.1)) e
