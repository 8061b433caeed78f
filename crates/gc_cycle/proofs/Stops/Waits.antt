-- Whoever leaves, and whoever waits, has found no stop at first, or has offered its help.
use Rattle.std.proofs.Common.{ℕ, ◌≡◌, List, [], ◌∷◌, ◌++◌, refl, sym, ap, ◌∙◌, Bool, true, false, not, ◌||◌, ⊎_elim}
use Rattle.std.specs.Prelude.{if◌then◌else◌}
use Rattle.std.proofs.lemmas.Bool.{and_from, and_parts, cases_Bool, not-true, or_cases, or_left, or_parts, or_right}
use Rattle.mark_core.specs.declared.kinds.Step.TheVariants.{EnterStep, LeaveStep, Observe}
use Rattle.gc_table.specs.Taking.{after}
use Rattle.gc_table.specs.Running.{Ran}
use Rattle.gc_table.specs.declared.view.View.{View}
use Rattle.gc_table.proofs.History.Log.{events-after}
use Rattle.gc_table.proofs.Running.{ran-events}
use Rattle.gc_table.specs.Log.{event, events}
use Rattle.gc_table.specs.declared.view.Entry.{Entry}
use Rattle.packet_pools.specs.Seeking.{some_event}
use Rattle.packet_pools.proofs.Searches.{some-left}
use Rattle.gc_cycle.specs.Answering.{waits_helping}
use Rattle.gc_cycle.specs.Events.{never}
use Rattle.gc_cycle.specs.Polling.{offered_help, poll_found_stop}
use Rattle.gc_cycle.specs.Sorts.{joins, leaves, polls, sees_flag}
use Rattle.gc_cycle.proofs.Sequences.{some-none}

-- what is offered by each of two calls is offered by both
pub offered-join : (xs ys : List Entry) → offered_help xs ≡ true → offered_help ys ≡ true → offered_help (xs ++ ys) ≡ true
offered-join [] ys a b = b
offered-join (x ∷ xs) ys a b =
    ⊎_elim
    (λ (j : joins x.step x.found ≡ true). or_right (not (poll_found_stop (x ∷ (xs ++ ys)))) _ (or_left (joins x.step x.found) (some_event joins (xs ++ ys)) j))
    (λ (n : joins x.step x.found ≡ false).
    ⊎_elim
    (λ (p : polls x.step x.found ≡ true).
    let first : poll_found_stop (x ∷ (xs ++ ys)) ≡ poll_found_stop (x ∷ xs) =
    ap (λ (b : Bool). if b then sees_flag x.step x.found else poll_found_stop (xs ++ ys)) p ∙ sym (ap (λ (b : Bool). if b then sees_flag x.step x.found else poll_found_stop xs) p) in
    ⊎_elim
    (λ (h : not (poll_found_stop (x ∷ xs)) ≡ true). or_left (not (poll_found_stop (x ∷ (xs ++ ys)))) (some_event joins (x ∷ (xs ++ ys))) (ap not first ∙ h))
    (λ (h : some_event joins (x ∷ xs) ≡ true). or_right (not (poll_found_stop (x ∷ (xs ++ ys)))) (some_event joins (x ∷ (xs ++ ys))) (some-left joins (x ∷ xs) ys h))
    (or_cases (not (poll_found_stop (x ∷ xs))) (some_event joins (x ∷ xs)) a))
    (λ (p : polls x.step x.found ≡ false).
    let here : (zs : List Entry) → offered_help (x ∷ zs) ≡ offered_help zs =
    λ zs. ap (λ (b : Bool). not (if b then sees_flag x.step x.found else poll_found_stop zs) || some_event joins (x ∷ zs)) p ∙ ap (λ (b : Bool). not (poll_found_stop zs) || (b || some_event joins zs)) n in
    here (xs ++ ys) ∙ offered-join xs ys (sym (here xs) ∙ a) b)
    (cases_Bool (polls x.step x.found)))
    (cases_Bool (joins x.step x.found))

pub waits-join : (xs ys : List Entry) → waits_helping xs ≡ true → waits_helping ys ≡ true → offered_help ys ≡ true → waits_helping (xs ++ ys) ≡ true
waits-join [] ys a b o = b
waits-join (x ∷ xs) ys a b o =
    let p = and_parts (not (leaves x.step x.found) || offered_help xs) (waits_helping xs) a in
    and_from (not (leaves x.step x.found) || offered_help (xs ++ ys)) (waits_helping (xs ++ ys))
    (⊎_elim
    (λ (h : not (leaves x.step x.found) ≡ true). or_left (not (leaves x.step x.found)) (offered_help (xs ++ ys)) h)
    (λ (h : offered_help xs ≡ true). or_right (not (leaves x.step x.found)) (offered_help (xs ++ ys)) (offered-join xs ys h o))
    (or_cases (not (leaves x.step x.found)) (offered_help xs) p.0))
    (waits-join xs ys p.1 b o)

-- who doesn't leave needn't
pub stayed-waits : (xs : List Entry) → never leaves xs ≡ true → waits_helping xs ≡ true
stayed-waits [] h = refl
stayed-waits (x ∷ xs) h =
    let p = or_parts (leaves x.step x.found) (some_event leaves xs) (not-true _ h) in
    and_from (not (leaves x.step x.found) || offered_help xs) (waits_helping xs) (or_left (not (leaves x.step x.found)) (offered_help xs) (ap not p.0)) (stayed-waits xs (ap not p.1))

-- two calls in which the seat doesn't leave
pub stays-join : (xs ys : List Entry) → never leaves xs ≡ true → never leaves ys ≡ true → never leaves (xs ++ ys) ≡ true
stays-join xs ys a b = ap not (some-none leaves xs ys (not-true _ a) (not-true _ b))

-- who looks whether a stop is under way doesn't leave
pub stays-look : (u v w : View) (n : ℕ) → Ran u v → Ran v w → w ≡ after Observe n v → never leaves (events u v) ≡ true → never leaves (events u w) ≡ true
stays-look u v w n r s e i = ap (never leaves) (ran-events u v w r s) ∙ stays-join (events u v) (events v w) i (ap (never leaves) (events-after v w Observe n e))

-- a seat that found a stop when it entered has left again, and waits on
pub turned-waits : (es : List Entry) (n m : ℕ) (ys : List Entry) → never leaves es ≡ true → offered_help es ≡ true → waits_helping ys ≡ true → offered_help ys ≡ true → (waits_helping (es ++ event EnterStep n ∷ event LeaveStep m ∷ ys) ≡ true) × (offered_help (es ++ event EnterStep n ∷ event LeaveStep m ∷ ys) ≡ true)
turned-waits es n m ys s o w q =
    (waits-join es (event EnterStep n ∷ event LeaveStep m ∷ ys) (stayed-waits es s) (and_from _ _ refl (and_from (offered_help ys) (waits_helping ys) q w)) q, offered-join es (event EnterStep n ∷ event LeaveStep m ∷ ys) o q)

-- one that entered waits no more
pub entered-waits : (es : List Entry) (n : ℕ) → never leaves es ≡ true → offered_help es ≡ true → (waits_helping (es ++ event EnterStep n ∷ []) ≡ true) × (offered_help (es ++ event EnterStep n ∷ []) ≡ true)
entered-waits es n s o = (waits-join es (event EnterStep n ∷ []) (stayed-waits es s) refl refl, offered-join es (event EnterStep n ∷ []) o refl)
