-- What looking at a variable's object came to, by what asking for its place and reading its value came to.
use Rattle.std.proofs.Common.{ℕ, ◌≡◌, refl, subst, ⊎_elim, inl, inr}
use Rattle.seat_steps.specs.declared.came.Came.{Came}
use Rattle.seat_steps.specs.declared.came.Came.TheVariants as cames
use Rattle.seat_steps.specs.Asking.{LacksObject}
use Rattle.seat_steps.specs.Stepping.{ReadsValue}
use Rattle.seat_steps.specs.declared.stepper.Stepper.{Stepper}
use Rattle.managed_heap_c.specs.Bytes.{IsByteOf}
use Rattle.managed_heap_c.specs.Looking.{DeclinesToLook, LooksTo}
use Rattle.managed_heap_c.specs.declared.looking.CObject.{CObject}
use Rattle.managed_heap_c.proofs.Numbered.{byte-in, same}

-- the place wasn't told
pub unlooked : (why : Came) (v : ℕ) (before : CObject) (x : Stepper) → LacksObject why v x → LooksTo v before before why x x
unlooked cames.Done v before x d = absurd d
unlooked why v before x d = (inl (d, refl), refl)

-- the value wasn't read
pub unread : (came : Came) (v value : ℕ) (before : CObject) (x y : Stepper) → (came ≡ cames.Done → ⊥) → ReadsValue came v x y 0 value → LooksTo v before before came x y
unread cames.Done v value before x y other r = absurd (other refl)
unread cames.Nil v value before x y other r = (inr (r.0, r.1, r.2, r.3, refl), refl)
unread cames.OutOfRange v value before x y other r = (inr (r.0, r.1, refl), refl)
unread cames.Outside v value before x y other r = (inr (r.0, r.1, refl), refl)
unread cames.Collecting v value before x y other r = (inr (r.0, r.1, refl), refl)
unread came v value before x y other r = absurd r

nil-by : (v b value : ℕ) (x y : Stepper) → IsByteOf v b → DeclinesToLook cames.Nil b value x y → DeclinesToLook cames.Nil v value x y
nil-by v b value x y i e =
    ⊎_elim (λ (w : LacksObject cames.Nil b x × (y ≡ x)). inl (subst (λ k. LacksObject cames.Nil k x × (y ≡ x)) (same v b i w.0.0.0) w))
    (λ (r : ReadsValue cames.Nil b x y value value). inr (subst (λ k. ReadsValue cames.Nil k x y value value) (same v b i r.2) r)) e

range-by : (v b value : ℕ) (x y : Stepper) → IsByteOf v b → DeclinesToLook cames.OutOfRange b value x y → DeclinesToLook cames.OutOfRange v value x y
range-by v b value x y i e =
    ⊎_elim (λ (w : LacksObject cames.OutOfRange b x × (y ≡ x)). inl (λ l. w.0 (byte-in v b i l), w.1))
    (λ (r : ReadsValue cames.OutOfRange b x y value value). inr (λ l. r.0 (byte-in v b i l), r.1, r.2)) e

pub looks-by : (came : Came) (v b : ℕ) (before after : CObject) (x y : Stepper) → IsByteOf v b → LooksTo b before after came x y → LooksTo v before after came x y
looks-by cames.Done v b before after x y i e = subst (λ k. LooksTo k before after cames.Done x y) (same v b i e.1.2) e
looks-by cames.Nil v b before after x y i e = (nil-by v b before.value x y i e.0, e.1)
looks-by cames.OutOfRange v b before after x y i e = (range-by v b before.value x y i e.0, e.1)
looks-by came v b before after x y i e = e
