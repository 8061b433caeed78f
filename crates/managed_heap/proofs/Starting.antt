-- Seats that have done nothing, and the first of them.
use Rattle.std.proofs.Common.{[], ℕ, zero, suc, ◌≡◌, ◌<◌, ◌+◌, List, ◌∷◌, ◌++◌, ◌∙◌, Bool, Option, None, Some, ap, arith, cond, length, subst}
use Rattle.std.specs.Prelude.{nat_lt, slice_get}
use Rattle.std.proofs.lemmas.Bool.{lt-ltb}
use Rattle.std.proofs.lemmas.Option.{same_Some}
use Rattle.mark_core.specs.Seats.{is_bare}
use Rattle.mark_core.specs.Steps.WorldSteps.{has_nothing}
use Rattle.mark_core.specs.declared.kinds.Shape.{Shape}
use Rattle.plain_heap.specs.declared.operation.Op.{Op}
use Rattle.gc_table.specs.declared.seat.Heap.{Heap}
use Rattle.gc_table.specs.declared.seat.HeapSeat.{HeapSeat}
use Rattle.seat_turns.specs.Standing.{RestsOutside}
use Rattle.managed_heap.specs.WorldOpening.{AreNewOf, AreNumbered, IsNewSeatOf}

module _ (plan : List (List Op)) (h : Heap) (k : ℕ) (x : HeapSeat) (xs ys : List HeapSeat) (first : ys ≡ x ∷ xs) (new : AreNewOf plan h k ys) where
  -- of seats that have done nothing, from seat k on, the first is seat k
  pub first-new : IsNewSeatOf plan h k x
  first-new = subst (λ n. IsNewSeatOf plan h n x) (let e : k + 0 ≡ k = omega arith in e) (new 0 x (ap (λ (l : List HeapSeat). slice_get l 0) first))

  -- and the others are those from the next one on
  pub rest-new : AreNewOf plan h (k + 1) xs
  rest-new = λ i s at. subst (λ n. IsNewSeatOf plan h n s) (let e : k + suc i ≡ k + 1 + i = omega arith in e) (new (suc i) s (ap (λ (l : List HeapSeat). slice_get l (suc i)) first ∙ at))

-- a seat that has done nothing is outside the world
pub new-rests : (plan : List (List Op)) (h : Heap) (k : ℕ) (x : HeapSeat) → IsNewSeatOf plan h k x → RestsOutside h x
new-rests plan h k x new = record { sits = new.0; out = record { bare = ap is_bare new.1.state; rest = λ i. has_nothing (new.1.shape i) (new.1.state i) } }

-- a section that the heap has is the seat's own
pub own-section : (sh : Shape) (k : ℕ) → k < sh.sections → cond {A = Option ℕ} (nat_lt k sh.sections) (Some k) None ≡ Some k
own-section sh k l = ap (λ (b : Bool). cond {A = Option ℕ} b (Some k) None) (lt-ltb k sh.sections l)

-- one more at the end of a numbered list
pub numbered-push : {X : Type 0} (P : ℕ → X → Type 0) (k : ℕ) (xs : List X) (x : X) → AreNumbered P k xs → P (k + length xs) x → AreNumbered P k (xs ++ x ∷ [])
numbered-push P k [] x a p = let e : k + 0 ≡ k = omega arith in (subst (λ n. P n x) e p, tt)
numbered-push P k (y ∷ ys) x a p = let e : k + suc (length ys) ≡ k + 1 + length ys = omega arith in (a.0, numbered-push P (k + 1) ys x a.1 (subst (λ n. P n x) e p))

-- one of a numbered list
pub numbered-at : {X : Type 0} (P : ℕ → X → Type 0) (k : ℕ) (xs : List X) → AreNumbered P k xs → (i : ℕ) (x : X) → slice_get xs i ≡ Some x → P (k + i) x
numbered-at P k [] a i x e = absurd (cc)
numbered-at P k (y ∷ ys) a zero x e = let n : k ≡ k + 0 = omega arith in subst (λ m. P m x) n (subst (P k) (same_Some y x e) a.0)
numbered-at P k (y ∷ ys) a (suc i) x e = let n : k + 1 + i ≡ k + suc i = omega arith in subst (λ m. P m x) n (numbered-at P (k + 1) ys a.1 i x e)
