-- What two calls of a mutator add, one after the other.
use Rattle.std.proofs.Common.{ℕ, ◌≡◌, ◌+◌, List, [], ◌∷◌, ◌++◌, ap, arith, refl, subst, sym, Bool, true}
use Rattle.std.proofs.lemmas.Bool.{and_from, and_parts}
use Rattle.seat_turns.specs.declared.refused.Refused.{Refused}
use Rattle.seat_turns.specs.declared.refused.Refused.TheVariants.{Full, Nil, OutOfRange, Outside, Spent}
use Rattle.gc_table.specs.Log.{all_steps}
use Rattle.gc_table.specs.declared.seat.Heap.{Heap}
use Rattle.gc_table.specs.declared.view.Entry.{Entry}
use Rattle.shared_heap.specs.Calls.{ReadsNone, field_count_of}
use Rattle.shared_heap.specs.Logs.{Adds, AddsLocks, AddsQuiet, AddsRaises, Locks, Raises, is_quiet}
use Rattle.shared_heap.specs.declared.mutator.SharedMutator.{SharedMutator}
use Rattle.shared_heap.proofs.Logs.{adds-as, adds-join, adds-none, locks-join, quiet-locks, quiet-raises, raises-join, same-quiet}

all_quiet : (xs ys : List Entry) → all_steps is_quiet xs ≡ true → all_steps is_quiet ys ≡ true → all_steps is_quiet (xs ++ ys) ≡ true
all_quiet [] ys a b = b
all_quiet (x ∷ xs) ys a b = let p = and_parts (is_quiet x.step) (all_steps is_quiet xs) a in and_from (is_quiet x.step) (all_steps is_quiet (xs ++ ys)) p.0 (all_quiet xs ys p.1 b)

module _ (x y z : SharedMutator) where
  pub quiet-then : AddsQuiet x y → AddsQuiet y z → AddsQuiet x z
  quiet-then a b = adds-join _ _ (λ es. all_steps is_quiet es ≡ true) all_quiet x y z a b

  pub raises-then : (m n : ℕ) → AddsRaises m x y → AddsRaises n y z → AddsRaises (m + n) x z
  raises-then m n a b =
      let f : ℕ = field_count_of x in
      let same : field_count_of y ≡ f = ap (λ (h : Heap). h.shape.fields) a.heap in
      adds-join (Raises f m) (Raises f n) (Raises f (m + n)) (raises-join f m n) x y z a (subst (λ (k : ℕ). Adds (Raises k n) y z) same b)

  pub locks-then : (b c d : Bool) (m n : ℕ) → AddsLocks b c m x y → AddsLocks c d n y z → AddsLocks b d (m + n) x z
  locks-then b c d m n a e =
      let f : ℕ = field_count_of x in
      let same : field_count_of y ≡ f = ap (λ (h : Heap). h.shape.fields) a.heap in
      adds-join (Locks f b c m) (Locks f c d n) (Locks f b d (m + n)) (locks-join f b c d m n) x y z a (subst (λ (k : ℕ). Adds (Locks k c d n) y z) same e)

pub raises-none : (x y : SharedMutator) → AddsQuiet x y → AddsRaises 0 x y
raises-none x y q = adds-as _ (Raises (field_count_of x) 0) (quiet-raises (field_count_of x)) x y q

pub locks-none : (b : Bool) (x y : SharedMutator) → AddsQuiet x y → AddsLocks b b 0 x y
locks-none b x y q = adds-as _ (Locks (field_count_of x) b b 0) (quiet-locks (field_count_of x) b) x y q

module _ (x y z : SharedMutator) where
  pub raises-first : (n : ℕ) → AddsRaises n x y → AddsQuiet y z → AddsRaises n x z
  raises-first n a q = let sum : n + 0 ≡ n = omega arith in subst (λ (k : ℕ). AddsRaises k x z) sum (raises-then x y z n 0 a (raises-none y z q))

  pub raises-last : (n : ℕ) → AddsQuiet x y → AddsRaises n y z → AddsRaises n x z
  raises-last n q a = let sum : 0 + n ≡ n = omega arith in subst (λ (k : ℕ). AddsRaises k x z) sum (raises-then x y z 0 n (raises-none x y q) a)

  pub locks-first : (b c : Bool) (n : ℕ) → AddsLocks b c n x y → AddsQuiet y z → AddsLocks b c n x z
  locks-first b c n a q = let sum : n + 0 ≡ n = omega arith in subst (λ (k : ℕ). AddsLocks b c k x z) sum (locks-then x y z b c c n 0 a (locks-none c y z q))

  pub locks-last : (b c : Bool) (n : ℕ) → AddsQuiet x y → AddsLocks b c n y z → AddsLocks b c n x z
  locks-last b c n q a = let sum : 0 + n ≡ n = omega arith in subst (λ (k : ℕ). AddsLocks b c k x z) sum (locks-then x y z b b c 0 n (locks-none b x y q) a)

-- a read that finds nothing adds nothing that counts
pub none-quiet : (e : Refused) (v : ℕ) (x y : SharedMutator) → ReadsNone e v x y → AddsQuiet x y
none-quiet OutOfRange v x y k = subst (AddsQuiet x) (sym k.1) (adds-none _ refl x)
none-quiet Outside v x y k = subst (AddsQuiet x) (sym k.1) (adds-none _ refl x)
none-quiet Nil v x y k = same-quiet x y k.4
none-quiet Full v x y k = absurd k
none-quiet Spent v x y k = absurd k
