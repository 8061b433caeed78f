-- Causes to stop the world and to say that the heap is full: what gives cause does so among more events.
use Rattle.std.proofs.Common.{ℕ, ◌≡◌, ◌+◌, ◌<◌, zero, suc, List, [], ◌∷◌, ◌++◌, arith, refl, sym, ap, ◌∙◌, subst, Bool, true, false, not, ◌&&◌, ◌||◌, ⊎_elim}
use Rattle.std.specs.List.{list_all, range_with_len}
use Rattle.std.specs.Prelude.{if◌then◌else◌}
use Rattle.std.proofs.lemmas.Bool.{and_from, and_parts, false≢true, or_cases, or_left, or_parts, or_right}
use Rattle.std.proofs.lemmas.List.{append-nil, append_assoc}
use Rattle.mark_core.specs.Layout.{block_count, card_count}
use Rattle.mark_core.specs.Numbers.{empty_offset}
use Rattle.mark_core.specs.declared.kinds.Phase.TheVariants.{Full, Marking}
use Rattle.mark_core.specs.declared.kinds.Shape.{Shape}
use Rattle.mark_core.specs.declared.kinds.Step.{Step}
use Rattle.gc_table.specs.Log.{all_steps}
use Rattle.gc_table.specs.declared.view.Entry.{Entry}
use Rattle.packet_pools.specs.Seeking.{some_event}
pub use Rattle.packet_pools.proofs.Counting.{after-earlier, after-join, after-none}
pub use Rattle.gc_cycle.proofs.Since.{since-more}
use Rattle.packet_pools.proofs.Searches.{all-more, some-left, some-right}
use Rattle.alloc_cache.specs.Claiming.{NoBlock, seeks_block, seen_taken}
use Rattle.alloc_cache.proofs.Searches.{seen-front as taken-more}
use Rattle.gc_cycle.specs.Cycles.{collects, fills_with_cause, may_fill, sees_all_full}
use Rattle.gc_cycle.specs.Events.{each_after, front, since_last, Sort}
use Rattle.gc_cycle.specs.Sorts.{begins_exactly, ends_cycle, moves_to, names, raises_flag, reads_phase, sees_all_empty, sees_last_card}
use Rattle.cache_refills.specs.Stops.{claim_failed, marking_done, may_stop, no_block, stops_with_cause}
use Rattle.gc_cycle.proofs.Ends.Finishes.{since-later, some-of-followed as followed-some}
use Rattle.gc_cycle.proofs.Searched.{front-more}
use Rattle.gc_cycle.proofs.Sequences.{followed-later, some-none}

-- what gives cause at each moment
pub after-always : (test : List Entry → Bool) (f : Sort) → ((es fs : List Entry) → test es ≡ true → test (es ++ fs) ≡ true) → (earlier es : List Entry) → test earlier ≡ true → each_after test f earlier es ≡ true
after-always test f more earlier [] t = refl
after-always test f more earlier (e ∷ es) t =
    and_from (not (f e.step e.found) || test earlier) _ (or_right (not (f e.step e.found)) (test earlier) t) (after-always test f more (earlier ++ e ∷ []) es (more earlier (e ∷ []) t))

-- causes to stop

blocks-more : (sh : Shape) (xs ys : List Entry) → no_block sh xs ≡ true → no_block sh (xs ++ ys) ≡ true
blocks-more sh xs ys h = all-more (λ b. seen_taken b xs) (λ b. seen_taken b (xs ++ ys)) (λ b k. taken-more b xs ys k) (range_with_len 0 (block_count sh)) h

pub failed-more : (sh : Shape) (xs ys : List Entry) → claim_failed sh xs ≡ true → claim_failed sh (xs ++ ys) ≡ true
failed-more sh [] ys h = absurd (false≢true h)
failed-more sh (x ∷ xs) ys h =
    ⊎_elim
    (λ (k : no_block sh (front seeks_block (x ∷ xs)) ≡ true).
    let f = front-more seeks_block (x ∷ xs) ys in
    or_left (no_block sh (front seeks_block (x ∷ (xs ++ ys)))) (claim_failed sh (xs ++ ys)) (ap (no_block sh) f.1 ∙ blocks-more sh (front seeks_block (x ∷ xs)) f.0 k))
    (λ (k : claim_failed sh xs ≡ true). or_right (no_block sh (front seeks_block (x ∷ (xs ++ ys)))) (claim_failed sh (xs ++ ys)) (failed-more sh xs ys k))
    (or_cases (no_block sh (front seeks_block (x ∷ xs))) (claim_failed sh xs) h)

done-more : (sh : Shape) (xs ys : List Entry) → marking_done sh xs ≡ true → marking_done sh (xs ++ ys) ≡ true
done-more sh [] ys h = absurd (false≢true h)
done-more sh (x ∷ xs) ys h =
    let r = reads_phase Marking x.step x.found in
    let f = sees_last_card (card_count sh) in
    let g = sees_all_empty (empty_offset + sh.packets) in
    ⊎_elim
    (λ (k : (r && some_event f xs && some_event g xs) ≡ true).
    let p = and_parts (r && some_event f xs) (some_event g xs) k in
    let q = and_parts r (some_event f xs) p.0 in
    or_left (r && some_event f (xs ++ ys) && some_event g (xs ++ ys)) (marking_done sh (xs ++ ys)) (and_from (r && some_event f (xs ++ ys)) _ (and_from r _ q.0 (some-left f xs ys q.1)) (some-left g xs ys p.1)))
    (λ (k : marking_done sh xs ≡ true). or_right (r && some_event f (xs ++ ys) && some_event g (xs ++ ys)) (marking_done sh (xs ++ ys)) (done-more sh xs ys k))
    (or_cases (r && some_event f xs && some_event g xs) (marking_done sh xs) h)

pub stop-more : (sh : Shape) (xs ys : List Entry) → may_stop sh xs ≡ true → may_stop sh (xs ++ ys) ≡ true
stop-more sh xs ys h =
    ⊎_elim
    (λ (k : claim_failed sh xs ≡ true). or_left (claim_failed sh (xs ++ ys)) (marking_done sh (xs ++ ys)) (failed-more sh xs ys k))
    (λ (k : marking_done sh xs ≡ true). or_right (claim_failed sh (xs ++ ys)) (marking_done sh (xs ++ ys)) (done-more sh xs ys k))
    (or_cases (claim_failed sh xs) (marking_done sh xs) h)

pub failed-later : (sh : Shape) (xs ys : List Entry) → claim_failed sh ys ≡ true → claim_failed sh (xs ++ ys) ≡ true
failed-later sh [] ys h = h
failed-later sh (x ∷ xs) ys h = or_right (no_block sh (front seeks_block (x ∷ (xs ++ ys)))) (claim_failed sh (xs ++ ys)) (failed-later sh xs ys h)

pub done-later : (sh : Shape) (xs ys : List Entry) → marking_done sh ys ≡ true → marking_done sh (xs ++ ys) ≡ true
done-later sh [] ys h = h
done-later sh (x ∷ xs) ys h = or_right (reads_phase Marking x.step x.found && some_event (sees_last_card (card_count sh)) (xs ++ ys) && some_event (sees_all_empty (empty_offset + sh.packets)) (xs ++ ys)) (marking_done sh (xs ++ ys)) (done-later sh xs ys h)

pub stop-later : (sh : Shape) (xs ys : List Entry) → may_stop sh ys ≡ true → may_stop sh (xs ++ ys) ≡ true
stop-later sh xs ys h =
    ⊎_elim
    (λ (k : claim_failed sh ys ≡ true). or_left (claim_failed sh (xs ++ ys)) (marking_done sh (xs ++ ys)) (failed-later sh xs ys k))
    (λ (k : marking_done sh ys ≡ true). or_right (claim_failed sh (xs ++ ys)) (marking_done sh (xs ++ ys)) (done-later sh xs ys k))
    (or_cases (claim_failed sh ys) (marking_done sh ys) h)

-- the flag wasn't raised
pub unraised-stops : (sh : Shape) (es : List Entry) → some_event raises_flag es ≡ false → stops_with_cause sh es ≡ true
unraised-stops sh es n = after-none (may_stop sh) raises_flag [] es n

-- there was cause before
pub caused-stops : (sh : Shape) (xs ys : List Entry) → some_event raises_flag xs ≡ false → may_stop sh xs ≡ true → stops_with_cause sh (xs ++ ys) ≡ true
caused-stops sh xs ys n m = after-join (may_stop sh) raises_flag [] xs ys (unraised-stops sh xs n) (after-always (may_stop sh) raises_flag (stop-more sh) xs ys m)

-- two calls, each of which had cause
pub stops-join : (sh : Shape) (xs ys : List Entry) → stops_with_cause sh xs ≡ true → stops_with_cause sh ys ≡ true → stops_with_cause sh (xs ++ ys) ≡ true
stops-join sh xs ys a b = after-join (may_stop sh) raises_flag [] xs ys a (again xs ys b)
  where
    again : (es fs : List Entry) → stops_with_cause sh fs ≡ true → each_after (may_stop sh) raises_flag es fs ≡ true
    again es fs c = subst (λ zs. each_after (may_stop sh) raises_flag zs fs ≡ true) (append-nil es) (after-earlier (may_stop sh) (may_stop sh) raises_flag es (λ zs k. stop-later sh es zs k) [] fs c)

-- a search that took only steps of searching and found no block
front-all : (P : Step → Bool) (es : List Entry) → all_steps P es ≡ true → front P es ≡ es
front-all P [] h = refl
front-all P (e ∷ es) h =
    let p = and_parts (P e.step) (all_steps P es) h in ap (λ (b : Bool). if b then e ∷ front P es else []) p.0 ∙ ap (λ l. e ∷ l) (front-all P es p.1)

pub each-in : (f : ℕ → Bool) (n k : ℕ) → ((b : ℕ) → b < k + n → f b ≡ true) → list_all f (range_with_len k n) ≡ true
each-in f zero k h = refl
each-in f (suc n) k h = and_from (f k) _ (h k (omega arith)) (each-in f n (k + 1) (λ b l. h b (omega (arith, l))))

pub search-failed : (sh : Shape) (es : List Entry) → 0 < block_count sh → all_steps seeks_block es ≡ true → NoBlock sh es → claim_failed sh es ≡ true
search-failed sh [] some o n = absurd (false≢true (n 0 some))
search-failed sh (e ∷ es) some o n =
    or_left (no_block sh (front seeks_block (e ∷ es))) (claim_failed sh es) (ap (no_block sh) (front-all seeks_block (e ∷ es) o) ∙ each-in (λ b. seen_taken b (e ∷ es)) (block_count sh) 0 (λ b l. n b (omega (arith, l))))

pub failed-stops : (sh : Shape) (es : List Entry) → claim_failed sh es ≡ true → may_stop sh es ≡ true
failed-stops sh es h = or_left (claim_failed sh es) (marking_done sh es) h

-- the phase was read as Marking, and then the end was seen
pub done-here : (sh : Shape) (e : Entry) (es : List Entry) → reads_phase Marking e.step e.found ≡ true → some_event (sees_last_card (card_count sh)) es ≡ true → some_event (sees_all_empty (empty_offset + sh.packets)) es ≡ true → marking_done sh (e ∷ es) ≡ true
done-here sh e es r a b = or_left _ (marking_done sh es) (and_from (reads_phase Marking e.step e.found && some_event (sees_last_card (card_count sh)) es) _ (and_from (reads_phase Marking e.step e.found) _ r a) b)

pub done-stops : (sh : Shape) (e : Entry) (es : List Entry) → reads_phase Marking e.step e.found ≡ true → some_event (sees_last_card (card_count sh)) es ≡ true → some_event (sees_all_empty (empty_offset + sh.packets)) es ≡ true → may_stop sh (e ∷ es) ≡ true
done-stops sh e es r a b = or_right (claim_failed sh (e ∷ es)) (marking_done sh (e ∷ es)) (done-here sh e es r a b)

-- causes to say that the heap is full

pub fill-later : (sh : Shape) (xs ys : List Entry) → may_fill sh ys ≡ true → may_fill sh (xs ++ ys) ≡ true
fill-later sh xs ys h =
    let p = and_parts (collects ys && sees_all_full sh (since_last ends_cycle ys)) (some_event names ys) h in
    let q = and_parts (collects ys) (sees_all_full sh (since_last ends_cycle ys)) p.0 in
    and_from (collects (xs ++ ys) && sees_all_full sh (since_last ends_cycle (xs ++ ys))) _
    (and_from (collects (xs ++ ys)) _ (followed-later begins_exactly ends_cycle xs ys q.0) (ap (sees_all_full sh) (since-later ends_cycle xs ys (followed-some begins_exactly ends_cycle ys q.0)) ∙ q.1))
    (some-right names xs ys p.1)

-- the cause that a call had in the stop, seen from the flag on
pub fills-since : (sh : Shape) (xs zs ys : List Entry) → some_event raises_flag xs ≡ true → some_event raises_flag zs ≡ false → some_event raises_flag ys ≡ false → each_after (may_fill sh) (moves_to Full) zs ys ≡ true → each_after (λ earlier. may_fill sh (since_last raises_flag earlier)) (moves_to Full) (xs ++ zs) ys ≡ true
fills-since sh xs zs [] r n m a = refl
fills-since sh xs zs (y ∷ ys) r n m a =
    let p = and_parts (not (moves_to Full y.step y.found) || may_fill sh zs) (each_after (may_fill sh) (moves_to Full) (zs ++ y ∷ []) ys) a in
    let q = or_parts (raises_flag y.step y.found) (some_event raises_flag ys) m in
    let one : some_event raises_flag (y ∷ []) ≡ false = ap (λ (b : Bool). b || false) q.0 in
    and_from (not (moves_to Full y.step y.found) || may_fill sh (since_last raises_flag (xs ++ zs))) _
    (⊎_elim
    (λ (k : not (moves_to Full y.step y.found) ≡ true). or_left (not (moves_to Full y.step y.found)) _ k)
    (λ (k : may_fill sh zs ≡ true). or_right (not (moves_to Full y.step y.found)) _ (ap (may_fill sh) (since-more raises_flag xs zs r n) ∙ fill-later sh (since_last raises_flag xs) zs k))
    (or_cases (not (moves_to Full y.step y.found)) (may_fill sh zs) p.0))
    (subst (λ es. each_after (λ earlier. may_fill sh (since_last raises_flag earlier)) (moves_to Full) es ys ≡ true) (sym (append_assoc xs zs (y ∷ [])))
    (fills-since sh xs (zs ++ y ∷ []) ys r (some-none raises_flag zs (y ∷ []) n one) q.1 p.1))

pub unfilled : (sh : Shape) (es : List Entry) → some_event (moves_to Full) es ≡ false → fills_with_cause sh es ≡ true
unfilled sh es n = after-none (λ earlier. may_fill sh (since_last raises_flag earlier)) (moves_to Full) [] es n

-- two calls, each of which had cause
pub fills-join : (sh : Shape) (xs ys : List Entry) → fills_with_cause sh xs ≡ true → fills_with_cause sh ys ≡ true → fills_with_cause sh (xs ++ ys) ≡ true
fills-join sh xs ys a b = after-join test (moves_to Full) [] xs ys a (subst (λ zs. each_after test (moves_to Full) zs ys ≡ true) (append-nil xs) (after-earlier test test (moves_to Full) xs more [] ys b))
  where
    test : List Entry → Bool
    test es = may_fill sh (since_last raises_flag es)

    none : (es : List Entry) → some_event raises_flag es ≡ false → since_last raises_flag es ≡ []
    none [] h = refl
    none (e ∷ es) h =
        let p = or_parts (raises_flag e.step e.found) (some_event raises_flag es) h in
        ap (λ (b : Bool). if b && not (some_event raises_flag es) then es else since_last raises_flag es) p.0 ∙ none es p.1

    more : (es : List Entry) → test es ≡ true → test (xs ++ es) ≡ true
    more es t = either (some_event raises_flag es) refl
      where
        either : (b : Bool) → some_event raises_flag es ≡ b → test (xs ++ es) ≡ true
        either true k = ap (may_fill sh) (since-later raises_flag xs es k) ∙ t
        either false k = absurd (false≢true (sym (ap (may_fill sh) (none es k)) ∙ t))
