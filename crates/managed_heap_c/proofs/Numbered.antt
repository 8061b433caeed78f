-- What a call for a shared world came to by bytes, it came to by the numbers of C.
use Rattle.std.proofs.Common.{ℕ, ◌≡◌, ◌≤◌, ◌<◌, sym, subst, arith, ⊎_elim}
use Rattle.std.proofs.lemmas.Bool.{cases_lt}
use Rattle.std.specs.Arc.{arc_value}
use Rattle.seat_steps.specs.declared.came.Came.{Came}
use Rattle.seat_steps.specs.declared.came.Came.TheVariants as cames
use Rattle.seat_steps.specs.Acting.{CanExchange, IsSlot, IsVariable, TakesRoot, slots_in}
use Rattle.seat_steps.specs.Stepping.{fields_in}
use Rattle.seat_steps.specs.declared.stepper.Stepper.{Stepper}
use Rattle.managed_heap_c.specs.Acting.{ExchangesTo, ExchangesValueTo, Fills, NumbersTo, PlacesTo, Spills}
use Rattle.managed_heap_c.specs.Bytes.{IsByteOf}

pub few : (x : Stepper) → fields_in x ≤ 16
few x = (arc_value x.heap).shaped.fields.1

-- a variable's number is its byte
pub same : (v b : ℕ) → IsByteOf v b → IsVariable b → b ≡ v
same v b i l = i.1 (omega (arith, l))

pub byte-in : (v b : ℕ) → IsByteOf v b → IsVariable v → IsVariable b
byte-in v b i l = omega (arith, i.0 (omega (arith, l)), l)

pub root-by : (came : Came) (v b : ℕ) (x y : Stepper) → IsByteOf v b → TakesRoot came b x y → TakesRoot came v x y
root-by cames.Done v b x y i d = subst (λ k. TakesRoot cames.Done k x y) (same v b i d.0.in_range) d
root-by cames.Nil v b x y i d = subst (λ k. TakesRoot cames.Nil k x y) (same v b i d.0.in_range) d
root-by cames.OutOfRange v b x y i d = (λ l. d.0 (byte-in v b i l), d.1)
root-by came v b x y i d = d

-- the numbers of an exchange and their bytes
pub record AreBytes (v i m n a b c d : ℕ) : Type 0 where
  pub object : IsByteOf v a
  pub field : IsByteOf i b
  pub expected : IsByteOf m c
  pub next : IsByteOf n d

exchange-same : (came : Came) (v i m n a b c d before after : ℕ) (x y : Stepper) → AreBytes v i m n a b c d → CanExchange x a b c d → ExchangesTo a b c d before after came x y → ExchangesTo v i m n before after came x y
exchange-same came v i m n a b c d before after x y are can e =
    subst (λ k. ExchangesTo k i m n before after came x y) (same v a are.object can.0)
    (subst (λ k. ExchangesTo a k m n before after came x y) (are.field.1 (omega (arith, can.1, few x)))
    (subst (λ k. ExchangesTo a b k n before after came x y) (same m c are.expected can.2) (subst (λ k. ExchangesTo a b c k before after came x y) (same n d are.next can.3) e)))

can-by : (v i m n a b c d : ℕ) (x : Stepper) → AreBytes v i m n a b c d → CanExchange x v i m n → CanExchange x a b c d
can-by v i m n a b c d x are can =
    (byte-in v a are.object can.0, subst (λ k. k < fields_in x) (sym (are.field.0 (omega (arith, can.1, few x)))) can.1, byte-in m c are.expected can.2, byte-in n d are.next can.3)

pub exchange-by : (came : Came) (v i m n a b c d before after : ℕ) (x y : Stepper) → AreBytes v i m n a b c d → ExchangesTo a b c d before after came x y → ExchangesTo v i m n before after came x y
exchange-by cames.Done v i m n a b c d before after x y are e = exchange-same cames.Done v i m n a b c d before after x y are e.2.in_range e
exchange-by cames.Nil v i m n a b c d before after x y are e = exchange-same cames.Nil v i m n a b c d before after x y are e.0.0 e
exchange-by cames.OutOfRange v i m n a b c d before after x y are e = ((λ can. e.0.0 (can-by v i m n a b c d x are can), e.0.1), e.1)
exchange-by came v i m n a b c d before after x y are e = e

pub count-by : (came : Came) (v b m n before after : ℕ) (x y : Stepper) → IsByteOf v b → ExchangesValueTo b m n before after came x y → ExchangesValueTo v m n before after came x y
count-by cames.Done v b m n before after x y i e = subst (λ k. ExchangesValueTo k m n before after cames.Done x y) (same v b i e.2.in_range) e
count-by cames.Nil v b m n before after x y i e = subst (λ k. ExchangesValueTo k m n before after cames.Nil x y) (same v b i e.0.0) e
count-by cames.OutOfRange v b m n before after x y i e = ((λ l. e.0.0 (byte-in v b i l), e.0.1), e.1)
count-by came v b m n before after x y i e = e

pub place-by : (came : Came) (v b before after : ℕ) (x y : Stepper) → IsByteOf v b → PlacesTo b before after came x y → PlacesTo v before after came x y
place-by cames.Done v b before after x y i e = subst (λ k. PlacesTo k before after cames.Done x y) (same v b i e.2) e
place-by cames.Nil v b before after x y i e = subst (λ k. PlacesTo k before after cames.Nil x y) (same v b i e.0.0.0) e
place-by cames.OutOfRange v b before after x y i e = (λ l. e.0 (byte-in v b i l), e.1, e.2)
place-by came v b before after x y i e = e

pub number-by : (came : Came) (v b p q r s : ℕ) (x y : Stepper) → IsByteOf v b → NumbersTo b p q r s came x y → NumbersTo v p q r s came x y
number-by cames.Done v b p q r s x y i e = subst (λ k. NumbersTo k p q r s cames.Done x y) (same v b i e.3.in_range) e
number-by cames.Nil v b p q r s x y i e = subst (λ k. NumbersTo k p q r s cames.Nil x y) (same v b i e.0.0) e
number-by cames.OutOfRange v b p q r s x y i e = ((λ l. e.0.0 (byte-in v b i l), e.0.1), e.1, e.2)
number-by came v b p q r s x y i e = e

-- the number of a slot in 16 bits, and the byte of the variable beside it, which is none if the slot's number has more
pub record IsBeside (v k b h : ℕ) : Type 0 where
  pub byte : k < 65536 → IsByteOf v b
  pub none : 65536 ≤ k → b ≡ 255
  pub half : k < 65536 → h ≡ k

-- a variable's byte stands beside a slot's number that 16 bits have
fits : (v k b h : ℕ) → IsBeside v k b h → IsVariable b → k < 65536
fits v k b h beside l = ⊎_elim (λ low. low) (λ high. absurd (omega (arith, beside.none high, l))) (cases_lt k 65536)

slot-by : (v k b h : ℕ) (x : Stepper) → IsBeside v k b h → IsSlot x v k → IsSlot x b h
slot-by v k b h x beside r =
    let low : k < 65536 = omega (arith, r.1, (arc_value x.heap).shaped.slots) in
    (byte-in v b (beside.byte low) r.0, subst (λ j. j < slots_in x) (sym (beside.half low)) r.1)

pub spill-by : (came : Came) (v k b h : ℕ) (x y : Stepper) → IsBeside v k b h → Spills b h came x y → Spills v k came x y
spill-by cames.Done v k b h x y beside e =
    let low = fits v k b h beside e.in_range.0 in
    subst (λ j. Spills j k cames.Done x y) (same v b (beside.byte low) e.in_range.0) (subst (λ j. Spills b j cames.Done x y) (beside.half low) e)
spill-by cames.OutOfRange v k b h x y beside e = (λ r. e.0 (slot-by v k b h x beside r), e.1)
spill-by came v k b h x y beside e = e

pub fill-by : (came : Came) (v k b h : ℕ) (x y : Stepper) → IsBeside v k b h → Fills b h came x y → Fills v k came x y
fill-by cames.Done v k b h x y beside e =
    let low = fits v k b h beside e.in_range.0 in
    subst (λ j. Fills j k cames.Done x y) (same v b (beside.byte low) e.in_range.0) (subst (λ j. Fills b j cames.Done x y) (beside.half low) e)
fill-by cames.OutOfRange v k b h x y beside e = (λ r. e.0 (slot-by v k b h x beside r), e.1)
fill-by came v k b h x y beside e = e
