-- The events of a call, one after another.
use Rattle.std.proofs.Common.{ℕ, ◌≡◌, List, [], ◌∷◌, ◌++◌, length, drop, refl, sym, ap, ◌∙◌, append_assoc, Bool, true}
use Rattle.std.proofs.lemmas.Bool.{and_parts, and_from}
use Rattle.mark_core.specs.declared.kinds.Step.{Step}
use Rattle.gc_table.specs.declared.view.Entry.{Entry}
use Rattle.gc_table.specs.declared.view.View.{View}
use Rattle.gc_table.specs.Log.{events, Grows, all_steps, Only}
use Rattle.gc_table.specs.Taking.{after, won}

-- the event of a step that found n
abbrev pub entry_of : Step → ℕ → Entry
entry_of step n = record { step = step; found = n; won = won step n }

pub drop-own : {X : Type 0} (xs ys : List X) → drop (length xs) (xs ++ ys) ≡ ys
drop-own [] ys = refl
drop-own (x ∷ xs) ys = drop-own xs ys

pub events-of : (v w : View) (more : List Entry) → w.log ≡ v.log ++ more → events v w ≡ more
events-of v w more e = ap (drop (length v.log)) e ∙ drop-own v.log more

pub append-none : {X : Type 0} (xs : List X) → xs ≡ xs ++ []
append-none [] = refl
append-none (x ∷ xs) = ap (λ l. x ∷ l) (append-none xs)

pub grows-refl : (v : View) → Grows v v
grows-refl v = ([], append-none v.log)

pub grows-join : (u v w : View) → Grows u v → Grows v w → Grows u w
grows-join u v w g h = (g.0 ++ h.0, h.1 ∙ (ap (λ l. l ++ h.0) g.1 ∙ append_assoc u.log g.0 h.0))

pub grows-after : (v : View) (step : Step) (n : ℕ) → Grows v (after step n v)
grows-after v step n = (entry_of step n ∷ [], refl)

-- a call without steps
pub events-none : (v : View) → events v v ≡ []
events-none v = events-of v v [] (append-none v.log)

-- one step
pub events-after : (v w : View) (step : Step) (n : ℕ) → w ≡ after step n v → events v w ≡ entry_of step n ∷ []
events-after v w step n e = events-of v w (entry_of step n ∷ []) (ap (λ (x : View). x.log) e)

-- the events of two calls, one after the other
pub events-join : (u v w : View) → Grows u v → Grows v w → events u w ≡ events u v ++ events v w
unfolding grows-join
events-join u v w g h =
    events-of u w (g.0 ++ h.0) (grows-join u v w g h).1
    ∙ sym (ap (λ l. l ++ events v w) (events-of u v g.0 g.1) ∙ ap (λ l. g.0 ++ l) (events-of v w h.0 h.1))

pub all-join : (P : Step → Bool) (xs ys : List Entry) → all_steps P xs ≡ true → all_steps P ys ≡ true → all_steps P (xs ++ ys) ≡ true
all-join P [] ys a b = b
all-join P (x ∷ xs) ys a b = let p = and_parts (P x.step) (all_steps P xs) a in and_from (P x.step) (all_steps P (xs ++ ys)) p.0 (all-join P xs ys p.1 b)

pub all-more : (P Q : Step → Bool) → ((step : Step) → P step ≡ true → Q step ≡ true) → (xs : List Entry) → all_steps P xs ≡ true → all_steps Q xs ≡ true
all-more P Q h [] a = refl
all-more P Q h (x ∷ xs) a = let p = and_parts (P x.step) (all_steps P xs) a in and_from (Q x.step) (all_steps Q xs) (h x.step p.0) (all-more P Q h xs p.1)

-- a call without steps has steps of any sort
pub only-none : (P : Step → Bool) (v : View) → Only P v v
only-none P v = ap (all_steps P) (events-none v)

pub only-after : (P : Step → Bool) (v w : View) (step : Step) (n : ℕ) → P step ≡ true → w ≡ after step n v → Only P v w
only-after P v w step n h e = ap (all_steps P) (events-after v w step n e) ∙ and_from (P step) true h refl

pub only-join : (P : Step → Bool) (u v w : View) → Grows u v → Grows v w → Only P u v → Only P v w → Only P u w
only-join P u v w g h a b = ap (all_steps P) (events-join u v w g h) ∙ all-join P (events u v) (events v w) a b

pub only-more : (P Q : Step → Bool) → ((step : Step) → P step ≡ true → Q step ≡ true) → (v w : View) → Only P v w → Only Q v w
only-more P Q h v w a = all-more P Q h (events v w) a
