-- The events since the last one of a sort, or all, as more events come before and after.
use Rattle.std.proofs.Common.{◌≡◌, List, [], ◌∷◌, ◌++◌, refl, sym, ap, ◌∙◌, Bool, true, false, not, ◌&&◌, ⊎_elim}
use Rattle.std.specs.Prelude.{if◌then◌else◌}
use Rattle.std.proofs.lemmas.Bool.{and_from, false≢true, or_cases}
use Rattle.gc_table.specs.declared.view.Entry.{Entry}
use Rattle.packet_pools.specs.Seeking.{some_event}
use Rattle.packet_pools.proofs.Searches.{some-left, some-right}
use Rattle.gc_cycle.specs.Events.{since_last, since_or_all, Sort}
use Rattle.gc_cycle.proofs.Ends.Finishes.{since-later}
use Rattle.gc_cycle.proofs.Sequences.{some-none}

pub all-since : (f : Sort) (es : List Entry) (b : Bool) → some_event f es ≡ b → since_or_all f es ≡ (if b then since_last f es else es)
all-since f es b e = ap (λ (c : Bool). if c then since_last f es else es) e

-- since the last event like f, when there was one and none came after
pub since-more : (f : Sort) (xs ys : List Entry) → some_event f xs ≡ true → some_event f ys ≡ false → since_last f (xs ++ ys) ≡ since_last f xs ++ ys
since-more f [] ys a b = absurd (false≢true a)
since-more f (x ∷ xs) ys a b = either (f x.step x.found) (some_event f xs) refl refl (since-more f xs ys)
  where
    off : (p q : Bool) → q ≡ true → (p && not q) ≡ false
    off true true h = refl
    off false true h = refl
    off p false h = absurd (false≢true h)

    either : (p q : Bool) → f x.step x.found ≡ p → some_event f xs ≡ q → (some_event f xs ≡ true → some_event f ys ≡ false → since_last f (xs ++ ys) ≡ since_last f xs ++ ys) → since_last f (x ∷ (xs ++ ys)) ≡ since_last f (x ∷ xs) ++ ys
    either p true e g more =
        let later : some_event f (xs ++ ys) ≡ true = some-left f xs ys g in
        ap (λ (b : Bool). if b then xs ++ ys else since_last f (xs ++ ys)) (off (f x.step x.found) (some_event f (xs ++ ys)) later)
        ∙ (more g b ∙ sym (ap (λ (b : Bool). (if b then xs else since_last f xs) ++ ys) (off (f x.step x.found) (some_event f xs) g)))
    either p false e g more =
        let here : f x.step x.found ≡ true = ⊎_elim (λ (h : f x.step x.found ≡ true). h) (λ (h : some_event f xs ≡ true). absurd (false≢true (sym g ∙ h))) (or_cases (f x.step x.found) (some_event f xs) a) in
        let none : some_event f (xs ++ ys) ≡ false = some-none f xs ys g b in
        ap (λ (b : Bool). if b then xs ++ ys else since_last f (xs ++ ys)) (and_from (f x.step x.found) (not (some_event f (xs ++ ys))) here (ap not none))
        ∙ sym (ap (λ (b : Bool). (if b then xs else since_last f xs) ++ ys) (and_from (f x.step x.found) (not (some_event f xs)) here (ap not g)))

-- or since the first event, if none was like it
pub since-unlike : (f : Sort) (xs ys : List Entry) → some_event f ys ≡ false → since_or_all f (xs ++ ys) ≡ since_or_all f xs ++ ys
since-unlike f xs ys n = either (some_event f xs) refl
  where
    either : (b : Bool) → some_event f xs ≡ b → since_or_all f (xs ++ ys) ≡ since_or_all f xs ++ ys
    either true e = all-since f (xs ++ ys) true (some-left f xs ys e) ∙ (since-more f xs ys e n ∙ sym (ap (λ es. es ++ ys) (all-since f xs true e)))
    either false e = all-since f (xs ++ ys) false (some-none f xs ys e n) ∙ sym (ap (λ es. es ++ ys) (all-since f xs false e))

-- what gives cause, whatever came before, does so since the last event like f
pub since-earlier : (test : List Entry → Bool) (f : Sort) → ((xs ys : List Entry) → test ys ≡ true → test (xs ++ ys) ≡ true) → (xs ys : List Entry) → test (since_or_all f ys) ≡ true → test (since_or_all f (xs ++ ys)) ≡ true
since-earlier test f more xs ys h = either (some_event f ys) refl
  where
    either : (b : Bool) → some_event f ys ≡ b → test (since_or_all f (xs ++ ys)) ≡ true
    either true e = ap test (all-since f (xs ++ ys) true (some-right f xs ys e) ∙ (since-later f xs ys e ∙ sym (all-since f ys true e))) ∙ h
    either false e = ap test (since-unlike f xs ys e) ∙ more (since_or_all f xs) ys (sym (ap test (all-since f ys false e)) ∙ h)
