-- What a call of a mutator that was refused comes to: who calls it is inside, and its numbers are in range.
use Rattle.std.proofs.Common.{ℕ, ◌≡◌, ◌<◌, ◌-◌, ◌^◌, ◌∙◌, ap, arith, subst, sym}
use Rattle.std.specs.Prelude.{IfErr, IfOk}
use Rattle.std.specs.declared.result.Result.{Result}
use Rattle.std.specs.declared.result.Result.TheVariants.{Err, Ok}
use Rattle.plain_heap.specs.declared.operation.Op.{Op}
use Rattle.plain_heap.specs.declared.operation.Op.TheVariants as ops
use Rattle.mark_core.specs.Numbers.{section_variables}
use Rattle.seat_turns.specs.declared.refused.Refused.{Refused}
use Rattle.seat_turns.specs.declared.refused.Refused.TheVariants as refusals
use Rattle.shared_heap.specs.Calls.{ActRefused, CantAct, MakesNone, ReadsNone, StaysOut, field_count_of}
use Rattle.shared_heap.specs.Wanting.{WantsObject}
use Rattle.shared_heap.specs.declared.mutator.Place.{Place}
use Rattle.shared_heap.specs.declared.mutator.Place.TheVariants.{Inside, Outside}
use Rattle.shared_heap.specs.declared.mutator.SharedMutator.{SharedMutator}
use Rattle.example_structures.specs.Changes.{ChangesNone, IsTold, changes_of}
use Rattle.example_structures.specs.Refusing.{CantBegin, GivenUp, IsFor, NotBegun}
use Rattle.example_structures.proofs.Called.{same-none, same-told}

-- what is so whether a call was done or refused
pub either-way : {A E : Type 0} (r : Result A E) (Q : Type 0) (P : A → Type 0) (R : E → Type 0) → IfOk r P → IfErr r R → ((a : A) → P a → Q) → ((e : E) → R e → Q) → Q
either-way (Ok a) Q P R p q f g = f a p
either-way (Err e) Q P R p q f g = g e q

pub by-result : {A E : Type 0} (r : Result A E) (Q : Result A E → Type 0) (P : A → Type 0) (R : E → Type 0) → IfOk r P → IfErr r R → ((a : A) → P a → Q (Ok a)) → ((e : E) → R e → Q (Err e)) → Q r
by-result (Ok a) Q P R p q f g = f a p
by-result (Err e) Q P R p q f g = g e q

pub when-ok : {A E : Type 0} (r : Result A E) (P Q : A → Type 0) → IfOk r P → ((a : A) → P a → Q a) → IfOk r Q
when-ok (Ok a) P Q p f = f a p
when-ok (Err e) P Q p f = tt

pub when-err : {A E : Type 0} (r : Result A E) (P Q : E → Type 0) → IfErr r P → ((e : E) → P e → Q e) → IfErr r Q
when-err (Ok a) P Q p f = tt
when-err (Err e) P Q p f = f e p

not_outside : (p : Place) → p ≡ Inside → p ≡ Outside → ⊥
not_outside p i o = cc

-- a call whose numbers are in range is done inside
pub cant-act : (x : SharedMutator) (e : Refused) (range : Type 0) → x.place ≡ Inside → range → CantAct e range x → ⊥
cant-act x refusals.OutOfRange range i r k = k r
cant-act x refusals.Outside range i r k = not_outside x.place i k
cant-act x refusals.Full range i r k = k
cant-act x refusals.Spent range i r k = k
cant-act x refusals.Nil range i r k = k

module _ (x y : SharedMutator) where
  stays_none : y ≡ x → ChangesNone x y
  stays_none e = ap changes_of e

  stays_told : (u : ℕ) → y ≡ x → IsTold u x → IsTold u y
  stays_told u e = subst (IsTold u) (sym e)

  pub act-none : (e : Refused) (range : Type 0) → ActRefused e range x y → ChangesNone x y
  act-none e range r = stays_none r.same

  pub act-told : (u : ℕ) (e : Refused) (range : Type 0) → ActRefused e range x y → IsTold u x → IsTold u y
  act-told u e range r = stays_told u r.same

  pub not-begun : (e : Refused) (least v : ℕ) → 0 < least → ActRefused e ((20 < section_variables) × (20 < section_variables) × (least - 1 < field_count_of x)) x y → NotBegun e (IsFor v least x) x y
  not-begun e least v some r = record { why = why e r.why; same = r.same }
    where
      why : (e : Refused) → CantAct e ((20 < section_variables) × (20 < section_variables) × (least - 1 < field_count_of x)) x → CantBegin e (IsFor v least x) x
      why refusals.OutOfRange k = λ range. k (omega arith, omega arith, let wide = range.1 in omega (arith, some, wide))
      why refusals.Outside k = k
      why refusals.Full k = k
      why refusals.Spent k = k
      why refusals.Nil k = k

  pub make-none : (e : Refused) (op : Op) → MakesNone e op x y → ChangesNone x y
  make-none refusals.OutOfRange op k = stays_none k.1
  make-none refusals.Outside op k = stays_none k.1
  make-none refusals.Full op k = same-none x y k.3
  make-none refusals.Spent op k = same-none x y k.3
  make-none refusals.Nil op k = absurd k

  pub make-given-up : (e : Refused) (v n : ℕ) → x.place ≡ Inside → v < section_variables → n < 2 ^ 32 → MakesNone e (ops.New v n) x y → GivenUp e y
  make-given-up refusals.OutOfRange v n i below fits k = absurd (k.0 (below, fits))
  make-given-up refusals.Outside v n i below fits k = absurd (not_outside x.place i k.0)
  make-given-up refusals.Full v n i below fits k = (k.0, k.2)
  make-given-up refusals.Spent v n i below fits k = k.2
  make-given-up refusals.Nil v n i below fits k = absurd k

  pub stay-none : (e : Refused) → StaysOut e x y → ChangesNone x y
  stay-none refusals.OutOfRange k = absurd k
  stay-none refusals.Outside k = stays_none k.1
  stay-none refusals.Full k = same-none x y k.3
  stay-none refusals.Spent k = absurd k
  stay-none refusals.Nil k = absurd k

  pub stay-given-up : (e : Refused) → x.place ≡ Inside → StaysOut e x y → GivenUp e y
  stay-given-up refusals.OutOfRange i k = absurd k
  stay-given-up refusals.Outside i k = absurd (not_outside x.place i k.0)
  stay-given-up refusals.Full i k = (k.0, k.2)
  stay-given-up refusals.Spent i k = absurd k
  stay-given-up refusals.Nil i k = absurd k

  pub read-none : (e : Refused) (v : ℕ) → ReadsNone e v x y → ChangesNone x y
  read-none refusals.OutOfRange v k = stays_none k.1
  read-none refusals.Outside v k = stays_none k.1
  read-none refusals.Nil v k = same-none x y k.4
  read-none refusals.Full v k = absurd k
  read-none refusals.Spent v k = absurd k

  pub read-told : (u : ℕ) (e : Refused) (v : ℕ) → ReadsNone e v x y → IsTold u x → IsTold u y
  read-told u refusals.OutOfRange v k = stays_told u k.1
  read-told u refusals.Outside v k = stays_told u k.1
  read-told u refusals.Nil v k = same-told x y u k.4
  read-told u refusals.Full v k = absurd k
  read-told u refusals.Spent v k = absurd k

  pub read-inside : (e : Refused) (v : ℕ) → x.place ≡ Inside → v < section_variables → ReadsNone e v x y → (y.place ≡ Inside) × GivenUp e y
  read-inside refusals.OutOfRange v i below k = absurd (k.0 below)
  read-inside refusals.Outside v i below k = absurd (not_outside x.place i k.0)
  read-inside refusals.Nil v i below k = (k.2, k.2)
  read-inside refusals.Full v i below k = absurd k
  read-inside refusals.Spent v i below k = absurd k

  pub want-none : (e : Refused) (range : Type 0) (v : ℕ) → WantsObject e range v x y → ChangesNone x y
  want-none refusals.OutOfRange range v k = stays_none k.1
  want-none refusals.Outside range v k = stays_none k.1
  want-none refusals.Nil range v k = stays_none k.3
  want-none refusals.Full range v k = absurd k
  want-none refusals.Spent range v k = absurd k

  pub want-same : (e : Refused) (range : Type 0) (v : ℕ) → WantsObject e range v x y → y ≡ x
  want-same refusals.OutOfRange range v k = k.1
  want-same refusals.Outside range v k = k.1
  want-same refusals.Nil range v k = k.3
  want-same refusals.Full range v k = absurd k
  want-same refusals.Spent range v k = absurd k

  pub want-inside : (e : Refused) (range : Type 0) (v : ℕ) → x.place ≡ Inside → range → WantsObject e range v x y → (y.place ≡ Inside) × GivenUp e y
  want-inside refusals.OutOfRange range v i r k = absurd (k.0 r)
  want-inside refusals.Outside range v i r k = absurd (not_outside x.place i k.0)
  want-inside refusals.Nil range v i r k = let here = ap (λ (m : SharedMutator). m.place) k.3 ∙ i in (here, here)
  want-inside refusals.Full range v i r k = absurd k
  want-inside refusals.Spent range v i r k = absurd k
