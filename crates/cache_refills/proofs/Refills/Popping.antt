-- Where a mutator on its way to a cache pops cells: in stops, and after it has claimed its block.
use Rattle.std.proofs.Common.{if◌then◌else◌, ℕ, ◌≡◌, List, [], ◌∷◌, ◌++◌, refl, sym, ap, ◌∙◌, Bool, true, false, ⊎_elim}
use Rattle.std.proofs.lemmas.Bool.{cases_Bool, false≢true}
use Rattle.mark_core.specs.declared.kinds.Step.{Step}
use Rattle.mark_core.specs.declared.kinds.Step.TheVariants.{ClaimBlock, Pop}
use Rattle.gc_table.specs.Log.{events, Only}
use Rattle.gc_table.specs.declared.view.Entry.{Entry}
use Rattle.gc_table.specs.declared.view.View.{View}
use Rattle.packet_pools.specs.Seeking.{some_event}
use Rattle.packet_pools.proofs.Searches.{some-left, some-right}
use Rattle.gc_cycle.specs.Events.{before_last, Sort}
use Rattle.gc_cycle.specs.Mutating.{is_in_stop, pops_in_stops, stays_calm}
use Rattle.gc_cycle.specs.Sorts.{claims, pops}
use Rattle.cache_refills.specs.Pace.Paying.{pops_where_paid}
use Rattle.cache_refills.specs.Refilling.{prepares}
use Rattle.cache_refills.proofs.Stops.Visits.{before-later, up-to}
use Rattle.gc_cycle.proofs.Sequences.{none-of-steps, some-none}
pub use Rattle.gc_cycle.proofs.Stops.Popping.{answered-pops, pops-join, unpopped}

prepares-unpopped : (step : Step) (n : ℕ) → prepares step ≡ true → pops step n ≡ false
prepares-unpopped (Pop h) n e = absurd (false≢true e)
prepares-unpopped step n e = refl

pub prepared-pops : (v w : View) → Only prepares v w → some_event pops (events v w) ≡ false
prepared-pops v w o = none-of-steps prepares pops prepares-unpopped (events v w) o

pub stops-paid : (es : List Entry) → pops_in_stops es ≡ true → pops_where_paid es ≡ true
stops-paid es h = either (some_event claims es)
  where
    either : (b : Bool) → pops_in_stops (if b then before_last claims es else es) ≡ true
    either true = up-to is_in_stop pops claims [] es h
    either false = h

-- calls after which the mutator tries on, and a last one
pub paid-join : (xs ys : List Entry) → pops_in_stops xs ≡ true → pops_where_paid ys ≡ true → pops_where_paid (xs ++ ys) ≡ true
paid-join xs ys a b = either (some_event claims ys) refl b
  where
    either : (q : Bool) → some_event claims ys ≡ q → pops_in_stops (if q then before_last claims ys else ys) ≡ true → pops_where_paid (xs ++ ys) ≡ true
    either false e k = stops-paid (xs ++ ys) (pops-join xs ys a k)
    either true e k =
        ap (λ (c : Bool). pops_in_stops (if c then before_last claims (xs ++ ys) else xs ++ ys)) (some-right claims xs ys e) ∙ (ap pops_in_stops (before-later claims xs ys e) ∙ pops-join xs (before_last claims ys) a k)

-- the block was claimed by the first of two calls, and none by the second, which paid for it
pub before-first : (f : Sort) (xs ys : List Entry) → some_event f xs ≡ true → some_event f ys ≡ false → before_last f (xs ++ ys) ≡ before_last f xs
before-first f [] ys h n = absurd (false≢true h)
before-first f (x ∷ xs) ys h n =
    ⊎_elim
    (λ (k : some_event f xs ≡ true).
    ap (λ (b : Bool). if b then x ∷ before_last f (xs ++ ys) else []) (some-left f xs ys k) ∙ (ap (λ es. x ∷ es) (before-first f xs ys k n) ∙ sym (ap (λ (b : Bool). if b then x ∷ before_last f xs else []) k)))
    (λ (k : some_event f xs ≡ false). ap (λ (b : Bool). if b then x ∷ before_last f (xs ++ ys) else []) (some-none f xs ys k n) ∙ sym (ap (λ (b : Bool). if b then x ∷ before_last f xs else []) k))
    (cases_Bool (some_event f xs))

pub claimed-paid : (xs ys : List Entry) → some_event claims xs ≡ true → pops_in_stops xs ≡ true → some_event claims ys ≡ false → pops_where_paid (xs ++ ys) ≡ true
claimed-paid xs ys h a n =
    ap (λ (c : Bool). pops_in_stops (if c then before_last claims (xs ++ ys) else xs ++ ys)) (some-left claims xs ys h) ∙ (ap pops_in_stops (before-first claims xs ys h n) ∙ up-to is_in_stop pops claims [] xs a)

calm-unclaimed : (step : Step) (n : ℕ) → stays_calm step ≡ true → claims step n ≡ false
calm-unclaimed (ClaimBlock b) n e = absurd (false≢true e)
calm-unclaimed step n e = refl

pub calm-claims : (v w : View) → Only stays_calm v w → some_event claims (events v w) ≡ false
calm-claims v w o = none-of-steps stays_calm claims calm-unclaimed (events v w) o
