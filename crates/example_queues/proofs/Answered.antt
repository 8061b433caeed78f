-- What a call's answer says.
use Rattle.std.proofs.Common.{◌≡◌, false}
use Rattle.std.specs.Prelude.{IfOk, is_err}
use Rattle.std.specs.declared.result.Result.{Result}
use Rattle.std.specs.declared.result.Result.TheVariants.{Err, Ok}
use Rattle.std.proofs.lemmas.Bool.{false≢true}

-- a call that wasn't refused was done
pub if-ok : {A E : Type 0} (r : Result A E) (P : A → Type 0) → false ≡ is_err r → IfOk r P → (a : A) × P a
if-ok (Ok a) P e k = (a, k)
if-ok (Err z) P e k = absurd (false≢true e)

pub on-ok : {A E : Type 0} (r : Result A E) (X Y : Type 0) → IfOk r (λ _. X) → (X → Y) → IfOk r (λ _. Y)
on-ok (Ok a) X Y k f = f k
on-ok (Err z) X Y k f = tt

pub ok-always : {A E : Type 0} (r : Result A E) (X : Type 0) → X → IfOk r (λ _. X)
ok-always (Ok a) X k = k
ok-always (Err z) X k = tt
