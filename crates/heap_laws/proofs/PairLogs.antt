-- The log of a seat that changes a pair, entry by entry.
use Rattle.std.proofs.Common.{ℕ, ◌≡◌, ◌≢◌, ◌==◌, List, [], ◌∷◌, ◌++◌, refl, sym, ap, not, Bool, true, false, Option, None, Some, eqb-true, ⊎_elim}
use Rattle.std.specs.Prelude.{is_none}
use Rattle.std.proofs.lemmas.Bool.{and_parts, cases_eq, eqb-false, false≢true, not-true, true≢false, and_from, ne_eqb}
use Rattle.mark_core.specs.Steps.{Core}
use Rattle.mark_core.specs.declared.kinds.Step.{Step}
use Rattle.mark_core.specs.declared.kinds.Step.TheVariants.{ExchangeField, ExchangeValue, Join, Split, StoreField, StoreRoot, HoldRoot}
use Rattle.mark_core.specs.declared.seat.SeatState.{SeatState}
use Rattle.gc_table.specs.Past.{entries_of}
use Rattle.gc_table.specs.declared.view.Entry.{Entry}
use Rattle.gc_table.proofs.Reading.{none-some}
use Rattle.gc_table.specs.Lending.{leaves_variable}
use Rattle.gc_table.specs.Single.{is_inside, turned}
use Rattle.heap_laws.specs.Pairs.{fits_pair, fits_pairs, is_source, pending, pending_after}
use Rattle.heap_laws.proofs.Fields.{stores_field}

pub pending_join : (p : Option (Option ℕ)) (xs ys : List Entry) → pending p (xs ++ ys) ≡ pending (pending p xs) ys
pending_join p [] ys = refl
pending_join p (x ∷ xs) ys = pending_join (pending_after p x.step) xs ys

pub fits_split : (b : Bool) (p : Option (Option ℕ)) (xs ys : List Entry) → fits_pairs b p (xs ++ ys) ≡ true → (fits_pairs b p xs ≡ true) × (fits_pairs (is_inside b xs) (pending p xs) ys ≡ true)
fits_split b p [] ys h = (refl, h)
fits_split b p (x ∷ xs) ys h =
    let a = and_parts (fits_pair b p x.step) (fits_pairs (turned b x.step x.won) (pending_after p x.step) (xs ++ ys)) h in
    let q = fits_split (turned b x.step x.won) (pending_after p x.step) xs ys a.1 in
    (and_from (fits_pair b p x.step) (fits_pairs (turned b x.step x.won) (pending_after p x.step) xs) a.0 q.0, q.1)

pub one_pending : (p : Option (Option ℕ)) (c : Core) (s : SeatState) (step : Step) → pending p (entries_of c (Some s) step) ≡ pending_after p step
one_pending p c s Split = refl
one_pending p c s (Join o) = refl
one_pending p c s step = refl

pub one_fits : (b : Bool) (p : Option (Option ℕ)) (c : Core) (s : SeatState) (step : Step) → fits_pairs b p (entries_of c (Some s) step) ≡ true → fits_pair b p step ≡ true
one_fits b p c s Split h = refl
one_fits b p c s (Join o) h = refl
one_fits b p c s step h = (and_parts (fits_pair b p step) true h).0

-- a step that stores in no field
pub quiet_pending : (p : Option (Option ℕ)) (step : Step) → stores_field step ≡ false → pending_after p step ≡ p
quiet_pending p (StoreField v i x) e = absurd (true≢false e)
quiet_pending p (ExchangeField v i x y) e = absurd (true≢false e)
quiet_pending p step e = refl

-- who is half done doesn't go out
pub quiet_inside : (b : Bool) (source : Option ℕ) (c : Core) (s : SeatState) (step : Step) → fits_pair b (Some source) step ≡ true → is_inside b (entries_of c (Some s) step) ≡ b
quiet_inside b source c s (ExchangeValue v m n) h = absurd (false≢true h)
quiet_inside b source c s Split h = refl
quiet_inside b source c s (Join o) h = refl
quiet_inside b source c s step h = refl

-- nor does it change its variable
apart : (y w : ℕ) → not (y == w) ≡ true → not (w == y) ≡ true
apart y w h = ⊎_elim (λ (e : w ≡ y). absurd (eqb-false y w (not-true (y == w) h) (sym e))) (λ (d : w ≢ y). ap not (ne_eqb w y d)) (cases_eq w y)

pub leaves : (b : Bool) (y : ℕ) (step : Step) → fits_pair b (Some (Some y)) step ≡ true → leaves_variable y step ≡ true
leaves b y (StoreRoot w r) h = apart y w h
leaves b y (HoldRoot w r) h = apart y w h
leaves b y step h = refl

-- sources are told by their variables
pub source_is : (x y : Option ℕ) → is_source x y ≡ true → x ≡ y
source_is None None h = refl
source_is None (Some y) h = absurd (false≢true h)
source_is (Some x) None h = absurd (false≢true h)
source_is (Some x) (Some y) h = ap (λ (z : ℕ). Some z) (eqb-true x y h)

pub some_other : {X : Type 0} (o : Option X) (x : X) → o ≡ Some x → is_none o ≡ true → ⊥
some_other None x e h = none-some x e
some_other (Some y) x e h = false≢true h
