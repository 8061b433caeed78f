-- What a call came to by bytes, it came to by the numbers of C.
use Rattle.std.proofs.Common.{ℕ, ◌≡◌, ◌≤◌, sym, ap, ◌∙◌, subst, arith}
use Rattle.std.specs.Arc.{arc_value}
use Rattle.plain_heap.specs.PlainStep.{IsInRange}
use Rattle.plain_heap.specs.declared.operation.Op.{Op}
use Rattle.plain_heap.specs.declared.operation.Op.TheVariants as ops
use Rattle.seat_steps.specs.declared.came.Came.{Came}
use Rattle.seat_steps.specs.declared.came.Came.TheVariants as cames
use Rattle.seat_steps.specs.Refilling.{MakesCached}
use Rattle.seat_steps.specs.Stepping.{Operates, StepperDoes, StepperMakes, TakesFew, fields_in}
use Rattle.seat_steps.specs.declared.stepper.Stepper.{Stepper}
use Rattle.managed_heap_c.specs.Answering.{ReadsTo}
use Rattle.managed_heap_c.specs.Asking.{IsNil, AreOne, TestsTo}
use Rattle.managed_heap_c.specs.Bytes.{IsByteOf}
use Rattle.managed_heap_c.specs.Storing.{Stores, StoresNothing}

-- the operation by bytes and the one by the numbers of C are one, if one of them is in range
abbrev pub AreSame : Stepper → Op → Op → Type 0
AreSame x by op = (IsInRange (fields_in x) by → by ≡ op) × (IsInRange (fields_in x) op → by ≡ op)

few : (x : Stepper) → fields_in x ≤ 16
few x = (arc_value x.heap).shaped.fields.1

pub new-one : (x : Stepper) (v b n : ℕ) → IsByteOf v b → AreSame x (ops.New b n) (ops.New v n)
new-one x v b n i = (λ r. ap (λ k. ops.New k n) (i.1 (omega (arith, r.0))), λ r. ap (λ k. ops.New k n) (i.0 (omega (arith, r.0))))

pub nil-one : (x : Stepper) (v b : ℕ) → IsByteOf v b → AreSame x (ops.Nil b) (ops.Nil v)
nil-one x v b i = (λ r. ap (λ k. ops.Nil k) (i.1 (omega (arith, r))), λ r. ap (λ k. ops.Nil k) (i.0 (omega (arith, r))))

pub put-one : (x : Stepper) (v b n : ℕ) → IsByteOf v b → AreSame x (ops.Put b n) (ops.Put v n)
put-one x v b n i = (λ r. ap (λ k. ops.Put k n) (i.1 (omega (arith, r.0))), λ r. ap (λ k. ops.Put k n) (i.0 (omega (arith, r.0))))

let-same : (v w b c : ℕ) → b ≡ v → c ≡ w → ops.Let b c ≡ ops.Let v w
let-same v w b c e d = ap (λ k. ops.Let k c) e ∙ ap (λ k. ops.Let v k) d

pub let-one : (x : Stepper) (v w b c : ℕ) → IsByteOf v b → IsByteOf w c → AreSame x (ops.Let b c) (ops.Let v w)
let-one x v w b c i j = (λ r. let-same v w b c (i.1 (omega (arith, r.0))) (j.1 (omega (arith, r.1))), λ r. let-same v w b c (i.0 (omega (arith, r.0))) (j.0 (omega (arith, r.1))))

set-same : (v i w a b c : ℕ) → a ≡ v → b ≡ i → c ≡ w → ops.Set a b c ≡ ops.Set v i w
set-same v i w a b c p q r = ap (λ k. ops.Set k b c) p ∙ ap (λ k. ops.Set v k c) q ∙ ap (λ k. ops.Set v i k) r

pub set-one : (x : Stepper) (v i w a b c : ℕ) → IsByteOf v a → IsByteOf i b → IsByteOf w c → AreSame x (ops.Set a b c) (ops.Set v i w)
set-one x v i w a b c p q s = (
  λ r. set-same v i w a b c (p.1 (omega (arith, r.0))) (q.1 (omega (arith, r.1, few x))) (s.1 (omega (arith, r.2))),
  λ r. set-same v i w a b c (p.0 (omega (arith, r.0))) (q.0 (omega (arith, r.1, few x))) (s.0 (omega (arith, r.2))),
)

get-same : (w v i a b c : ℕ) → a ≡ w → b ≡ v → c ≡ i → ops.Get a b c ≡ ops.Get w v i
get-same w v i a b c p q r = ap (λ k. ops.Get k b c) p ∙ ap (λ k. ops.Get w k c) q ∙ ap (λ k. ops.Get w v k) r

pub get-one : (x : Stepper) (w v i a b c : ℕ) → IsByteOf w a → IsByteOf v b → IsByteOf i c → AreSame x (ops.Get a b c) (ops.Get w v i)
get-one x w v i a b c p q s = (
  λ r. get-same w v i a b c (p.1 (omega (arith, r.0))) (q.1 (omega (arith, r.1))) (s.1 (omega (arith, r.2, few x))),
  λ r. get-same w v i a b c (p.0 (omega (arith, r.0))) (q.0 (omega (arith, r.1))) (s.0 (omega (arith, r.2, few x))),
)

pub operates-by : (came : Came) (by op : Op) (x y : Stepper) → AreSame x by op → Operates came by x y → Operates came op x y
operates-by cames.Done by op x y one d = (subst (λ o. StepperDoes o x y) (one.0 d.0.range) d.0, subst (λ o. TakesFew o x y) (one.0 d.0.range) d.1, d.2)
operates-by cames.OutOfRange by op x y one d = (λ r. d.0 (subst (λ o. IsInRange (fields_in x) o) (sym (one.1 r)) r), d.1)
operates-by came by op x y one d = d

pub makes-by : (came : Came) (by op : Op) (x y : Stepper) → AreSame x by op → StepperMakes came by x y → StepperMakes came op x y
makes-by cames.Done by op x y one d = (subst (λ o. StepperDoes o x y) (one.0 d.0.range) d.0, d.1, d.2)
makes-by cames.OutOfRange by op x y one d = (λ r. d.0 (subst (λ o. IsInRange (fields_in x) o) (sym (one.1 r)) r), d.1)
makes-by came by op x y one d = d

pub caches-by : (came : Came) (by op : Op) (x y : Stepper) → AreSame x by op → MakesCached came by x y → MakesCached came op x y
caches-by cames.Done by op x y one d = (subst (λ o. StepperDoes o x y) (one.0 d.0.range) d.0, d.1, d.2)
caches-by cames.OutOfRange by op x y one d = (λ r. d.0 (subst (λ o. IsInRange (fields_in x) o) (sym (one.1 r)) r), d.1)
caches-by came by op x y one d = d

pub stores-by : (came : Came) (v b : ℕ) (by op : Op) (x y : Stepper) → AreSame x by op → (IsInRange (fields_in x) by → b ≡ v) → Stores b by came x y → Stores v op came x y
stores-by cames.Done v b by op x y one same d =
    (subst (λ o. StepperDoes o x y) (one.0 d.0.range) d.0, subst (λ o. TakesFew o x y) (one.0 d.0.range) d.1, (λ n. d.2 (subst (λ k. IsNil k x) (sym (same d.0.range)) n)), d.3)
stores-by cames.Nil v b by op x y one same d = subst (λ o. StoresNothing v o x y) (one.0 d.range) (subst (λ k. StoresNothing k by x y) (same d.range) d)
stores-by cames.OutOfRange v b by op x y one same d = (λ r. d.0 (subst (λ o. IsInRange (fields_in x) o) (sym (one.1 r)) r), d.1)
stores-by came v b by op x y one same d = d

pub reads-by : (came : Came) (v b before after : ℕ) (x y : Stepper) → IsByteOf v b → ReadsTo b before after came x y → ReadsTo v before after came x y
reads-by cames.Done v b before after x y i d = subst (λ k. ReadsTo k before after cames.Done x y) (i.1 (omega (arith, d.2))) d
reads-by cames.Nil v b before after x y i d = subst (λ k. ReadsTo k before after cames.Nil x y) (i.1 (omega (arith, d.2))) d
reads-by cames.OutOfRange v b before after x y i d = (λ l. d.0 (omega (arith, i.0 (omega (arith, l)), l)), d.1, d.2)
reads-by came v b before after x y i d = d

pub nil-by : (came : Came) (v b before after : ℕ) (x y : Stepper) → IsByteOf v b → TestsTo (IsNil b) (ops.Say b) before after came x y → TestsTo (IsNil v) (ops.Say v) before after came x y
nil-by cames.Done v b before after x y i d = subst (λ k. TestsTo (IsNil k) (ops.Say k) before after cames.Done x y) (i.1 (omega (arith, d.1.0))) d
nil-by cames.OutOfRange v b before after x y i d = (λ l. d.0 (omega (arith, i.0 (omega (arith, l)), l)), d.1, d.2)
nil-by came v b before after x y i d = d

one-done : (v w b c before after : ℕ) (x y : Stepper) → b ≡ v → c ≡ w → TestsTo (AreOne b c) (ops.Let b c) before after cames.Done x y → TestsTo (AreOne v w) (ops.Let v w) before after cames.Done x y
one-done v w b c before after x y e f d =
    subst (λ k. TestsTo (AreOne v k) (ops.Let v k) before after cames.Done x y) f (subst (λ k. TestsTo (AreOne k c) (ops.Let k c) before after cames.Done x y) e d)

pub one-by :
    (came : Came) (v w b c before after : ℕ) (x y : Stepper) → IsByteOf v b → IsByteOf w c → TestsTo (AreOne b c) (ops.Let b c) before after came x y
    → TestsTo (AreOne v w) (ops.Let v w) before after came x y
one-by cames.Done v w b c before after x y i j d = one-done v w b c before after x y (i.1 (omega (arith, d.1.0.0))) (j.1 (omega (arith, d.1.0.1))) d
one-by cames.OutOfRange v w b c before after x y i j d = (λ r. d.0 (subst (λ o. IsInRange (fields_in x) o) (sym ((let-one x v w b c i j).1 r)) r), d.1, d.2)
one-by came v w b c before after x y i j d = d
