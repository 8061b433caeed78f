-- Causes to stop the world once more: since the cycle that the seat ended last it missed a block with a free cell.
use Rattle.std.proofs.Common.{ℕ, ◌≡◌, ◌≤◌, ◌+◌, List, [], ◌∷◌, ◌++◌, arith, refl, sym, ap, ◌∙◌, subst, Bool, true, false, not, ◌&&◌, ◌||◌, None, Some, Option, ⊎_elim, inl, inr}
use Rattle.std.specs.Prelude.{if◌then◌else◌}
use Rattle.std.proofs.lemmas.Bool.{and_from, and_parts, cases_Bool, false≢true, not-true, or_cases, or_left, or_parts, or_right}
use Rattle.std.proofs.lemmas.List.{append-nil}
use Rattle.mark_core.specs.Layout.{block_count}
use Rattle.mark_core.specs.declared.kinds.Phase.TheVariants.{Marking}
use Rattle.mark_core.specs.declared.kinds.Shape.{Shape}
use Rattle.mark_core.specs.declared.kinds.Step.{Step}
use Rattle.mark_core.specs.declared.kinds.Step.TheVariants.{StorePhase}
use Rattle.gc_table.specs.Log.{all_steps}
use Rattle.gc_table.specs.declared.view.Entry.{Entry}
use Rattle.gc_table.specs.declared.view.View.{View}
use Rattle.packet_pools.specs.Counts.{count_of}
use Rattle.packet_pools.specs.Seeking.{some_event}
use Rattle.packet_pools.proofs.Searches.{some-left}
use Rattle.alloc_cache.specs.declared.cache.Cache.{Cache}
use Rattle.gc_cycle.specs.Cycles.{sees_free_cell}
use Rattle.gc_cycle.specs.Events.{each_after, never, since_last, Sort}
use Rattle.gc_cycle.specs.Mutating.{tries_stopping}
use Rattle.cache_refills.specs.Refilling.{HasMissed, prepares}
use Rattle.gc_cycle.specs.Sorts.{ends_cycle, raises_flag, reads_free_cell}
use Rattle.cache_refills.specs.Stops.{claim_failed, may_stop_again, misses_block, stops_again_with_cause}
use Rattle.cache_refills.proofs.Causes.{after-earlier, after-join, after-none, failed-more, since-more}
use Rattle.gc_cycle.proofs.Ends.Finishes.{never-both, since-later}
use Rattle.gc_cycle.proofs.Refills.OneCycle.{tries-unended}
use Rattle.gc_cycle.proofs.Sequences.{none-of-steps}

-- a mutator outside a stop of its own ends no cycle

prepares-unended : (step : Step) (n : ℕ) → prepares step ≡ true → ends_cycle step n ≡ false
prepares-unended (StorePhase Marking) n e = refl
prepares-unended (StorePhase to) n e = absurd (false≢true e)
prepares-unended step n e = refl

pub prepared-unended : (es : List Entry) → all_steps prepares es ≡ true → some_event ends_cycle es ≡ false
prepared-unended es o = none-of-steps prepares ends_cycle prepares-unended es o

pub tried-unended : (es : List Entry) → all_steps tries_stopping es ≡ true → some_event ends_cycle es ≡ false
tried-unended es o = none-of-steps tries_stopping ends_cycle tries-unended es o

-- what was missed since the last cycle ended, among more events

pub since-none : (f : Sort) (es : List Entry) → some_event f es ≡ false → since_last f es ≡ []
since-none f [] h = refl
since-none f (e ∷ es) h =
    let p = or_parts (f e.step e.found) (some_event f es) h in ap (λ (b : Bool). if b && not (some_event f es) then es else since_last f es) p.0 ∙ since-none f es p.1

missed-ended : (sh : Shape) (es : List Entry) → misses_block sh (since_last ends_cycle es) ≡ true → some_event ends_cycle es ≡ true
missed-ended sh es s =
    ⊎_elim
    (λ (h : some_event ends_cycle es ≡ true). h)
    (λ (h : some_event ends_cycle es ≡ false). absurd (false≢true (sym (ap (misses_block sh) (since-none ends_cycle es h)) ∙ s)))
    (cases_Bool (some_event ends_cycle es))

pub missed-later : (sh : Shape) (xs ys : List Entry) → misses_block sh (since_last ends_cycle ys) ≡ true → misses_block sh (since_last ends_cycle (xs ++ ys)) ≡ true
missed-later sh xs ys s = ap (misses_block sh) (since-later ends_cycle xs ys (missed-ended sh ys s)) ∙ s

pub missed-more : (sh : Shape) (xs ys : List Entry) → misses_block sh (since_last ends_cycle xs) ≡ true → some_event ends_cycle ys ≡ false → misses_block sh (since_last ends_cycle (xs ++ ys)) ≡ true
missed-more sh xs ys s n =
    let last : List Entry = since_last ends_cycle xs in
    let p = and_parts (sees_free_cell sh last) (claim_failed sh last) s in
    ap (misses_block sh) (since-more ends_cycle xs ys (missed-ended sh xs s) n) ∙ and_from _ _ (some-left (reads_free_cell (block_count sh)) last ys p.0) (failed-more sh last ys p.1)

pub none-later : (sh : Shape) (o : Option Cache) (xs ys : List Entry) (w : View) → HasMissed sh o ys w → HasMissed sh o (xs ++ ys) w
none-later sh None xs ys w (inl s) = inl (missed-later sh xs ys s)
none-later sh None xs ys w (inr k) = inr k
none-later sh (Some h) xs ys w k = tt

-- two calls, after each of which the world may be stopped once more
pub again-join : (sh : Shape) (xs ys : List Entry) → may_stop_again sh xs ≡ true → may_stop_again sh ys ≡ true → may_stop_again sh (xs ++ ys) ≡ true
again-join sh xs ys a b =
    ⊎_elim
    (λ (k : (never raises_flag ys && never ends_cycle ys) ≡ true).
    let p = and_parts (never raises_flag ys) (never ends_cycle ys) k in
    ⊎_elim
    (λ (l : (never raises_flag xs && never ends_cycle xs) ≡ true).
    let q = and_parts (never raises_flag xs) (never ends_cycle xs) l in
    or_left (never raises_flag (xs ++ ys) && never ends_cycle (xs ++ ys)) _ (and_from _ _ (never-both raises_flag xs ys q.0 p.0) (never-both ends_cycle xs ys q.1 p.1)))
    (λ (s : misses_block sh (since_last ends_cycle xs) ≡ true). or_right (never raises_flag (xs ++ ys) && never ends_cycle (xs ++ ys)) _ (missed-more sh xs ys s (not-true _ p.1)))
    (or_cases (never raises_flag xs && never ends_cycle xs) _ a))
    (λ (s : misses_block sh (since_last ends_cycle ys) ≡ true). or_right (never raises_flag (xs ++ ys) && never ends_cycle (xs ++ ys)) _ (missed-later sh xs ys s))
    (or_cases (never raises_flag ys && never ends_cycle ys) _ b)

pub quiet-again : (sh : Shape) (es : List Entry) → some_event raises_flag es ≡ false → some_event ends_cycle es ≡ false → may_stop_again sh es ≡ true
quiet-again sh es r n = or_left (never raises_flag es && never ends_cycle es) _ (and_from _ _ (ap not r) (ap not n))

-- two calls, each of which had cause
pub again-stops-join : (sh : Shape) (xs ys : List Entry) → stops_again_with_cause sh xs ≡ true → may_stop_again sh xs ≡ true → stops_again_with_cause sh ys ≡ true → stops_again_with_cause sh (xs ++ ys) ≡ true
again-stops-join sh xs ys a t b =
    after-join (may_stop_again sh) raises_flag [] xs ys a
    (subst (λ zs. each_after (may_stop_again sh) raises_flag zs ys ≡ true) (append-nil xs)
    (after-earlier (may_stop_again sh) (may_stop_again sh) raises_flag xs (λ es k. again-join sh xs es t k) [] ys b))

-- the flag wasn't raised
pub unraised-again : (sh : Shape) (earlier es : List Entry) → some_event raises_flag es ≡ false → each_after (may_stop_again sh) raises_flag earlier es ≡ true
unraised-again sh earlier es n = after-none (may_stop_again sh) raises_flag earlier es n

pub none-counted : (f : Sort) (es : List Entry) → count_of f es ≡ 0 → some_event f es ≡ false
none-counted f [] h = refl
none-counted f (e ∷ es) h = either (f e.step e.found) (none-counted f es) h
  where
    either : (b : Bool) → (count_of f es ≡ 0 → some_event f es ≡ false) → (if b then 1 else 0) + count_of f es ≡ 0 → (b || some_event f es) ≡ false
    either true k z = absurd (omega (arith, z))
    either false k z = k (omega (arith, z))

-- the first time that it is raised
pub raised-first : (sh : Shape) (es earlier : List Entry) → all_steps tries_stopping es ≡ true → count_of raises_flag es ≤ 1 → never raises_flag earlier ≡ true → never ends_cycle earlier ≡ true → each_after (may_stop_again sh) raises_flag earlier es ≡ true
raised-first sh [] earlier o l r n = refl
raised-first sh (e ∷ es) earlier o l r n = either (raises_flag e.step e.found) refl l (raised-first sh es (earlier ++ e ∷ []) p.1)
  where
    p : (tries_stopping e.step ≡ true) × (all_steps tries_stopping es ≡ true)
    p = and_parts (tries_stopping e.step) (all_steps tries_stopping es) o

    ended : never ends_cycle (earlier ++ e ∷ []) ≡ true
    ended = never-both ends_cycle earlier (e ∷ []) n (ap (λ (b : Bool). not (b || false)) (tries-unended e.step e.found p.0))

    may : (not (raises_flag e.step e.found) || may_stop_again sh earlier) ≡ true
    may = or_right (not (raises_flag e.step e.found)) _ (or_left (never raises_flag earlier && never ends_cycle earlier) _ (and_from _ _ r n))

    either : (b : Bool) → raises_flag e.step e.found ≡ b → (if b then 1 else 0) + count_of raises_flag es ≤ 1 → (count_of raises_flag es ≤ 1 → never raises_flag (earlier ++ e ∷ []) ≡ true → never ends_cycle (earlier ++ e ∷ []) ≡ true → each_after (may_stop_again sh) raises_flag (earlier ++ e ∷ []) es ≡ true) → each_after (may_stop_again sh) raises_flag earlier (e ∷ es) ≡ true
    either true k c more = and_from _ _ may (unraised-again sh (earlier ++ e ∷ []) es (none-counted raises_flag es (omega (arith, c))))
    either false k c more = and_from _ _ may (more (omega (arith, c)) (never-both raises_flag earlier (e ∷ []) r (ap (λ (b : Bool). not (b || false)) k)) ended)
