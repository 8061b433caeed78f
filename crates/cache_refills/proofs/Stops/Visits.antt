-- Causes to stop the world in a visit, and what a stop has to end: as more events come before and after.
use Rattle.std.proofs.Common.{◌≡◌, ◌≤◌, ◌+◌, List, [], ◌∷◌, ◌++◌, arith, refl, sym, ap, ◌∙◌, subst, Bool, true, false, not, ◌||◌, ⊎_elim}
use Rattle.std.specs.Prelude.{if◌then◌else◌}
use Rattle.std.proofs.lemmas.Bool.{and_from, and_parts, cases_Bool, false≢true, not-true, or_cases, or_left, or_right}
use Rattle.std.proofs.lemmas.List.{append-nil, append_assoc}
use Rattle.mark_core.specs.declared.kinds.Phase.TheVariants.{Full}
use Rattle.mark_core.specs.declared.kinds.Shape.{Shape}
use Rattle.gc_table.specs.declared.view.Entry.{Entry}
use Rattle.packet_pools.specs.Counts.{count_of}
use Rattle.packet_pools.specs.Seeking.{some_event}
use Rattle.packet_pools.proofs.Searches.{some-left, some-right}
use Rattle.gc_cycle.specs.Events.{before_last, each_after, never, since_or_all, Sort}
use Rattle.gc_cycle.specs.Polling.{saw_full}
use Rattle.gc_cycle.specs.Sorts.{comes_in, ends_cycle, raises_flag, reads_phase, resumes}
use Rattle.cache_refills.specs.Stops.{claim_failed, cycles_with_cause, has_ended, may_end, may_stop, resumes_with_end, stops_collect, stops_in_visit, this_visit}
use Rattle.cache_refills.proofs.Causes.{after-earlier, after-join, after-none, failed-later, failed-more, stop-later, stop-more}
use Rattle.cache_refills.proofs.Stops.StopsAgain.{none-counted, since-none}
use Rattle.gc_cycle.proofs.Ends.Finishes.{since-later}
use Rattle.gc_cycle.proofs.Sequences.{some-none}
use Rattle.gc_cycle.proofs.Since.{all-since, since-earlier, since-unlike}
use Rattle.gc_cycle.proofs.Stops.Popping.{causes-join}

-- causes in a visit

visit-later : (sh : Shape) (xs ys : List Entry) → may_stop sh (this_visit ys) ≡ true → may_stop sh (this_visit (xs ++ ys)) ≡ true
visit-later sh xs ys h = since-earlier (may_stop sh) comes_in (stop-later sh) xs ys h

pub visits-join : (sh : Shape) (xs ys : List Entry) → stops_in_visit sh xs ≡ true → stops_in_visit sh ys ≡ true → stops_in_visit sh (xs ++ ys) ≡ true
visits-join sh xs ys a b = causes-join (λ earlier. may_stop sh (this_visit earlier)) raises_flag (visit-later sh) xs ys a b

pub unraised-visits : (sh : Shape) (es : List Entry) → some_event raises_flag es ≡ false → stops_in_visit sh es ≡ true
unraised-visits sh es n = after-none (λ earlier. may_stop sh (this_visit earlier)) raises_flag [] es n

-- there was cause, and the flag was raised before the seat came in again
pub caused-visits : (sh : Shape) (xs ys : List Entry) → some_event raises_flag xs ≡ false → some_event comes_in xs ≡ false → may_stop sh xs ≡ true → each_after (never comes_in) raises_flag [] ys ≡ true → stops_in_visit sh (xs ++ ys) ≡ true
caused-visits sh xs ys n i m o =
    after-join test raises_flag [] xs ys (unraised-visits sh xs n)
    (subst (λ zs. each_after test raises_flag zs ys ≡ true) (append-nil xs) (after-earlier (never comes_in) test raises_flag xs (λ es k. cause es (not-true _ k)) [] ys o))
  where
    test : List Entry → Bool
    test es = may_stop sh (this_visit es)

    cause : (es : List Entry) → some_event comes_in es ≡ false → test (xs ++ es) ≡ true
    cause es k = ap (may_stop sh) (all-since comes_in (xs ++ es) false (some-none comes_in xs es i k)) ∙ stop-more sh xs es m

-- the world is resumed if a cycle ended in the stop

ended-later : (xs ys : List Entry) → has_ended ys ≡ true → has_ended (xs ++ ys) ≡ true
ended-later xs ys h =
    ⊎_elim
    (λ (k : some_event raises_flag ys ≡ true). ap (some_event ends_cycle) (since-later raises_flag xs ys k) ∙ h)
    (λ (k : some_event raises_flag ys ≡ false). absurd (false≢true (sym (ap (some_event ends_cycle) (since-none raises_flag ys k)) ∙ h)))
    (cases_Bool (some_event raises_flag ys))

pub ends-join : (xs ys : List Entry) → resumes_with_end xs ≡ true → resumes_with_end ys ≡ true → resumes_with_end (xs ++ ys) ≡ true
ends-join xs ys a b = causes-join has_ended resumes ended-later xs ys a b

pub unresumed-ends : (es : List Entry) → some_event resumes es ≡ false → resumes_with_end es ≡ true
unresumed-ends es n = after-none has_ended resumes [] es n

-- up to the last event like g
pub up-to : (test : List Entry → Bool) (f g : Sort) (earlier es : List Entry) → each_after test f earlier es ≡ true → each_after test f earlier (before_last g es) ≡ true
up-to test f g earlier [] h = refl
up-to test f g earlier (e ∷ es) h =
    let p = and_parts (not (f e.step e.found) || test earlier) (each_after test f (earlier ++ e ∷ []) es) h in either (some_event g es) p.0 (up-to test f g (earlier ++ e ∷ []) es p.1)
  where
    either : (b : Bool) → (not (f e.step e.found) || test earlier) ≡ true → each_after test f (earlier ++ e ∷ []) (before_last g es) ≡ true → each_after test f earlier (if b then e ∷ before_last g es else []) ≡ true
    either true k more = and_from _ _ k more
    either false k more = refl

pub before-later : (f : Sort) (xs ys : List Entry) → some_event f ys ≡ true → before_last f (xs ++ ys) ≡ xs ++ before_last f ys
before-later f [] ys h = refl
before-later f (x ∷ xs) ys h = ap (λ (b : Bool). if b then x ∷ before_last f (xs ++ ys) else []) (some-right f xs ys h) ∙ ap (λ es. x ∷ es) (before-later f xs ys h)

pub ended-all : (es : List Entry) → resumes_with_end es ≡ true → stops_collect es ≡ true
ended-all es h = either (saw_full es)
  where
    either : (b : Bool) → resumes_with_end (if b then before_last resumes es else es) ≡ true
    either true = up-to has_ended resumes resumes [] es h
    either false = h

full-last : (xs ys : List Entry) → resumes_with_end xs ≡ true → resumes_with_end (before_last resumes ys) ≡ true → resumes_with_end (before_last resumes (xs ++ ys)) ≡ true
full-last xs ys a b =
    ⊎_elim
    (λ (k : some_event resumes ys ≡ true). ap resumes_with_end (before-later resumes xs ys k) ∙ ends-join xs (before_last resumes ys) a b)
    (λ (k : some_event resumes ys ≡ false). up-to has_ended resumes resumes [] (xs ++ ys) (ends-join xs ys a (unresumed-ends ys k)))
    (cases_Bool (some_event resumes ys))

-- calls after which the mutator tries on, and a last one
pub collects-join : (xs ys : List Entry) → resumes_with_end xs ≡ true → stops_collect ys ≡ true → stops_collect (xs ++ ys) ≡ true
collects-join xs ys a b = either (saw_full ys) refl b
  where
    either : (q : Bool) → saw_full ys ≡ q → resumes_with_end (if q then before_last resumes ys else ys) ≡ true → stops_collect (xs ++ ys) ≡ true
    either false e k = ended-all (xs ++ ys) (ends-join xs ys a k)
    either true e k = ap (λ (c : Bool). resumes_with_end (if c then before_last resumes (xs ++ ys) else xs ++ ys)) (some-right (reads_phase Full) xs ys e) ∙ full-last xs ys a k

-- a cycle ends only if the flag was raised, or a search failed, since the last one

abbrev gives_cause : Shape → List Entry → Bool
gives_cause sh es = some_event raises_flag es || claim_failed sh es

cause-later : (sh : Shape) (xs ys : List Entry) → gives_cause sh ys ≡ true → gives_cause sh (xs ++ ys) ≡ true
cause-later sh xs ys h =
    ⊎_elim
    (λ (k : some_event raises_flag ys ≡ true). or_left _ (claim_failed sh (xs ++ ys)) (some-right raises_flag xs ys k))
    (λ (k : claim_failed sh ys ≡ true). or_right (some_event raises_flag (xs ++ ys)) _ (failed-later sh xs ys k))
    (or_cases (some_event raises_flag ys) (claim_failed sh ys) h)

pub cycles-join : (sh : Shape) (xs ys : List Entry) → cycles_with_cause sh xs ≡ true → cycles_with_cause sh ys ≡ true → cycles_with_cause sh (xs ++ ys) ≡ true
cycles-join sh xs ys a b = causes-join (may_end sh) ends_cycle (λ us vs k. since-earlier (gives_cause sh) ends_cycle (cause-later sh) us vs k) xs ys a b

pub unended-cycles : (sh : Shape) (es : List Entry) → some_event ends_cycle es ≡ false → cycles_with_cause sh es ≡ true
unended-cycles sh es n = after-none (may_end sh) ends_cycle [] es n

-- the flag was raised before
pub raised-may : (sh : Shape) (before xs : List Entry) → some_event raises_flag (since_or_all ends_cycle before) ≡ true → some_event ends_cycle xs ≡ false → may_end sh (before ++ xs) ≡ true
raised-may sh before xs h n = ap (gives_cause sh) (since-unlike ends_cycle before xs n) ∙ or_left _ (claim_failed sh (since_or_all ends_cycle before ++ xs)) (some-left raises_flag (since_or_all ends_cycle before) xs h)

-- a search failed before
pub failed-may : (sh : Shape) (before es xs : List Entry) → some_event ends_cycle es ≡ false → claim_failed sh es ≡ true → some_event ends_cycle xs ≡ false → may_end sh ((before ++ es) ++ xs) ≡ true
failed-may sh before es xs k h n =
    let first : List Entry = since_or_all ends_cycle before in
    ap (gives_cause sh) (since-unlike ends_cycle (before ++ es) xs n ∙ ap (λ zs. zs ++ xs) (since-unlike ends_cycle before es k))
    ∙ or_right (some_event raises_flag ((first ++ es) ++ xs)) _ (failed-more sh (first ++ es) xs (failed-later sh first es h))

-- one event like f at most, each time that what comes before gives cause
once-on : (test : List Entry → Bool) (f : Sort) (before : List Entry) → ((xs : List Entry) → some_event f xs ≡ false → test (before ++ xs) ≡ true) → (earlier es : List Entry) → some_event f earlier ≡ false → count_of f es ≤ 1 → each_after test f (before ++ earlier) es ≡ true
once-on test f before may earlier [] n l = refl
once-on test f before may earlier (e ∷ es) n l = either (f e.step e.found) refl l (once-on test f before may (earlier ++ e ∷ []) es)
  where
    here : (not (f e.step e.found) || test (before ++ earlier)) ≡ true
    here = or_right (not (f e.step e.found)) _ (may earlier n)

    either : (b : Bool) → f e.step e.found ≡ b → (if b then 1 else 0) + count_of f es ≤ 1 → (some_event f (earlier ++ e ∷ []) ≡ false → count_of f es ≤ 1 → each_after test f (before ++ (earlier ++ e ∷ [])) es ≡ true) → each_after test f (before ++ earlier) (e ∷ es) ≡ true
    either true k c more = and_from _ _ here (after-none test f ((before ++ earlier) ++ e ∷ []) es (none-counted f es (omega (arith, c))))
    either false k c more =
        and_from _ _ here
        (subst (λ zs. each_after test f zs es ≡ true) (sym (append_assoc before earlier (e ∷ [])))
        (more (some-none f earlier (e ∷ []) n (ap (λ (b : Bool). b || false) k)) (omega (arith, c))))

pub after-once : (test : List Entry → Bool) (f : Sort) (before es : List Entry) → ((xs : List Entry) → some_event f xs ≡ false → test (before ++ xs) ≡ true) → count_of f es ≤ 1 → each_after test f before es ≡ true
after-once test f before es may l = subst (λ zs. each_after test f zs es ≡ true) (append-nil before) (once-on test f before may [] es refl l)

pub some-counted : (f : Sort) (es : List Entry) → 1 ≤ count_of f es → some_event f es ≡ true
some-counted f [] l = absurd (omega (arith, l))
some-counted f (e ∷ es) l = either (f e.step e.found) l (some-counted f es)
  where
    either : (b : Bool) → 1 ≤ (if b then 1 else 0) + count_of f es → (1 ≤ count_of f es → some_event f es ≡ true) → (b || some_event f es) ≡ true
    either true k more = refl
    either false k more = more (omega (arith, k))

-- after whatever came before, no cycle ended
pub unended-later : (sh : Shape) (before es : List Entry) → never ends_cycle es ≡ true → each_after (may_end sh) ends_cycle before es ≡ true
unended-later sh before es n = after-none (may_end sh) ends_cycle before es (not-true _ n)
