-- Where a mutator pops cells and clears cards: in stops.
use Rattle.std.proofs.Common.{ℕ, ◌≡◌, List, [], ◌∷◌, ◌++◌, ap, refl, subst, ◌∙◌, Bool, true, false, not, ◌||◌}
use Rattle.std.specs.Prelude.{if◌then◌else◌}
use Rattle.std.proofs.lemmas.Bool.{and_from, and_parts, false≢true, not-true, or_parts, or_right}
use Rattle.std.proofs.lemmas.List.{append-nil}
use Rattle.mark_core.specs.declared.kinds.Step.{Step}
use Rattle.mark_core.specs.declared.kinds.Step.TheVariants.{ClearCard, DropStep, Pop}
use Rattle.gc_table.specs.Log.{events, Only}
use Rattle.gc_table.specs.Running.{Ran}
use Rattle.gc_table.specs.Taking.{after}
use Rattle.gc_table.specs.declared.view.Entry.{Entry}
use Rattle.gc_table.specs.declared.view.View.{View}
use Rattle.gc_table.proofs.History.Log.{events-after}
use Rattle.gc_table.proofs.Running.{ran-events, ran-join}
use Rattle.packet_pools.specs.Seeking.{some_event}
use Rattle.packet_pools.proofs.Counting.{after-earlier, after-join, after-none}
use Rattle.packet_pools.proofs.Searches.{some-left}
use Rattle.gc_cycle.specs.Answering.{answers}
use Rattle.gc_cycle.specs.Events.{each_after, never, since_last, since_or_all, Sort}
use Rattle.gc_cycle.specs.Finishing.{finishes}
use Rattle.gc_cycle.specs.Mutating.{holds_stop, is_in_stop, pops_in_stops, works_in_stops}
use Rattle.gc_cycle.specs.Sorts.{clears, pops, pops_or_clears, raises_flag, resumes}
use Rattle.gc_cycle.proofs.Sequences.{none-of-steps}
use Rattle.gc_cycle.proofs.Since.{since-unlike}
use Rattle.gc_cycle.proofs.Stops.Outside.{stop-later}

-- two calls, each of which had cause by a test that what came before doesn't spoil
pub causes-join : (test : List Entry → Bool) (f : Sort) → ((xs ys : List Entry) → test ys ≡ true → test (xs ++ ys) ≡ true) → (xs ys : List Entry) → each_after test f [] xs ≡ true → each_after test f [] ys ≡ true → each_after test f [] (xs ++ ys) ≡ true
causes-join test f more xs ys a b = after-join test f [] xs ys a (subst (λ zs. each_after test f zs ys ≡ true) (append-nil xs) (after-earlier test test f xs (λ zs k. more xs zs k) [] ys b))

-- each pop and each card that was cleared had cause, so each pop had
less-cause : (a b cause : Bool) → (not (a || b) || cause) ≡ true → (not a || cause) ≡ true
less-cause true b cause h = h
less-cause false b cause h = refl

only-pops : (before es : List Entry) → each_after is_in_stop pops_or_clears before es ≡ true → each_after is_in_stop pops before es ≡ true
only-pops before [] h = refl
only-pops before (e ∷ es) h =
    let p = and_parts (not (pops_or_clears e.step e.found) || is_in_stop before) _ h in and_from _ _ (less-cause (pops e.step e.found) (clears e.step e.found) (is_in_stop before) p.0) (only-pops (before ++ e ∷ []) es p.1)

pub works-pop : (es : List Entry) → works_in_stops es ≡ true → pops_in_stops es ≡ true
works-pop es h = only-pops [] es h

answers-unpopped : (step : Step) (n : ℕ) → answers step ≡ true → pops step n ≡ false
answers-unpopped (Pop h) n e = absurd (false≢true e)
answers-unpopped step n e = refl

pub answered-pops : (v w : View) → Only answers v w → some_event pops (events v w) ≡ false
answered-pops v w o = none-of-steps answers pops answers-unpopped (events v w) o

pub unpopped : (es : List Entry) → some_event pops es ≡ false → pops_in_stops es ≡ true
unpopped es n = after-none is_in_stop pops [] es n

pub pops-join : (xs ys : List Entry) → pops_in_stops xs ≡ true → pops_in_stops ys ≡ true → pops_in_stops (xs ++ ys) ≡ true
pops-join xs ys a b = causes-join is_in_stop pops stop-later xs ys a b

answers-unworked : (step : Step) (n : ℕ) → answers step ≡ true → pops_or_clears step n ≡ false
answers-unworked (Pop h) n e = absurd (false≢true e)
answers-unworked (ClearCard card) n e = absurd (false≢true e)
answers-unworked step n e = refl

pub answered-works : (v w : View) → Only answers v w → some_event pops_or_clears (events v w) ≡ false
answered-works v w o = none-of-steps answers pops_or_clears answers-unworked (events v w) o

pub unworked : (es : List Entry) → some_event pops_or_clears es ≡ false → works_in_stops es ≡ true
unworked es n = after-none is_in_stop pops_or_clears [] es n

pub works-join : (xs ys : List Entry) → works_in_stops xs ≡ true → works_in_stops ys ≡ true → works_in_stops (xs ++ ys) ≡ true
works-join xs ys a b = causes-join is_in_stop pops_or_clears stop-later xs ys a b

-- while the seat holds a stop, whatever it does
pub held-on : (f : Sort) (before es : List Entry) → some_event resumes es ≡ false → holds_stop before ≡ true → each_after is_in_stop f before es ≡ true
held-on f before [] n h = refl
held-on f before (e ∷ es) n h =
    let p = or_parts (resumes e.step e.found) (some_event resumes es) n in
    and_from _ _ (or_right (not (f e.step e.found)) _ (or_right _ (holds_stop before) h))
    (held-on f (before ++ e ∷ []) es p.1 (ap (some_event raises_flag) (since-unlike resumes before (e ∷ []) (ap (λ (b : Bool). b || false) p.0)) ∙ some-left raises_flag (since_or_all resumes before) (e ∷ []) h))

finishes-unresumed : (step : Step) (n : ℕ) → finishes step ≡ true → resumes step n ≡ false
finishes-unresumed DropStep n e = absurd (false≢true e)
finishes-unresumed step n e = refl

-- in a stop that the seat holds it may finish a cycle, and then it resumes the world
pub drop-works : (before : List Entry) (v w : View) (n : ℕ) → w ≡ after DropStep n v → each_after is_in_stop pops_or_clears before (events v w) ≡ true
drop-works before v w n is = after-none is_in_stop pops_or_clears before (events v w) (ap (some_event pops_or_clears) (events-after v w DropStep n is))

pub finished-works : (before : List Entry) (v w x : View) (n : ℕ) → Ran v w → Only finishes v w → Ran w x → x ≡ after DropStep n w → holds_stop before ≡ true → each_after is_in_stop pops_or_clears before (events v x) ≡ true
finished-works before v w x n r f q is h =
    ap (each_after is_in_stop pops_or_clears before) (ran-events v w x r q)
    ∙ after-join is_in_stop pops_or_clears before (events v w) (events w x) (held-on pops_or_clears before (events v w) (none-of-steps finishes resumes finishes-unresumed (events v w) f) h) (drop-works (before ++ events v w) w x n is)

-- a try that came to its own stop: what came before it, the stop, what was done in it, and what came after
pub stopped-works : (u v w x y : View) → Ran u v → Only answers u v → Ran v w → works_in_stops (events v w) ≡ true → holds_stop (events v w) ≡ true → Ran w x → ((before : List Entry) → holds_stop before ≡ true → each_after is_in_stop pops_or_clears before (events w x) ≡ true) → Ran x y → Only answers x y → works_in_stops (events u y) ≡ true
stopped-works u v w x y r o q away held p inside s l =
    let stop : works_in_stops (events v x) ≡ true = ap works_in_stops (ran-events v w x q p) ∙ after-join is_in_stop pops_or_clears [] (events v w) (events w x) away (inside (events v w) held) in
    let first : works_in_stops (events u x) ≡ true =
    ap works_in_stops (ran-events u v x r (ran-join v w x q p)) ∙ works-join (events u v) (events v x) (unworked (events u v) (answered-works u v o)) stop in
    ap works_in_stops (ran-events u x y (ran-join u v x r (ran-join v w x q p)) s) ∙ works-join (events u x) (events x y) first (unworked (events x y) (answered-works x y l))

-- a try that came to another's
pub tried-works : (u v w : View) → Ran u v → Only answers u v → Ran v w → works_in_stops (events v w) ≡ true → works_in_stops (events u w) ≡ true
tried-works u v w r o q away = ap works_in_stops (ran-events u v w r q) ∙ works-join (events u v) (events v w) (unworked (events u v) (answered-works u v o)) away

-- a flag that was raised, and a world that wasn't resumed since
pub raised-holds : (es : List Entry) → some_event raises_flag es ≡ true → never resumes es ≡ true → holds_stop es ≡ true
raised-holds es raised out = ap (λ (b : Bool). some_event raises_flag (if b then since_last resumes es else es)) (not-true _ out) ∙ raised
