-- Stops with their causes.
use Rattle.std.proofs.Common.{ℕ, ◌≡◌, ◌+◌, ◌≤◌, ◌&&◌, ◌||◌, List, [], ◌∷◌, ◌++◌, append_assoc, refl, ap, ◌∙◌, Bool, true, false, not, if◌then◌else◌, arith, ⊎_elim}
use Rattle.std.proofs.lemmas.Bool.{and_parts, false≢true, or_cases, or_left, or_parts, or_right}
use Rattle.mark_core.specs.Numbers.{empty_offset}
use Rattle.mark_core.specs.declared.kinds.Shape.{Shape}
use Rattle.gc_table.specs.Log.{Only, all_steps, events}
use Rattle.gc_table.specs.Running.{Ran}
use Rattle.gc_table.specs.declared.view.Entry.{Entry}
use Rattle.gc_table.specs.declared.view.View.{View}
use Rattle.gc_table.proofs.History.Log.{only-more}
use Rattle.packet_pools.specs.Counts.{count_of}
use Rattle.packet_pools.specs.Seeking.{some_event}
use Rattle.alloc_cache.specs.Claiming.{seeks_block}
use Rattle.gc_cycle.specs.Events.{each_after, front}
use Rattle.warehouse.specs.Pacing.{Paces}
use Rattle.warehouse.specs.Playing.{Acts, DoesNothing}
use Rattle.gc_cycle.specs.Sorts.{stores_new, raises_flag, reads_phase, sees_all_empty, sees_last_card, mutator_stores}
use Rattle.mark_core.specs.Layout.{card_count}
use Rattle.mark_core.specs.declared.kinds.Phase.TheVariants.{Marking}
use Rattle.gc_cycle.specs.Sparing.{fills_part, spares_part}
use Rattle.cache_refills.specs.Stops.{claim_failed, marking_done, may_stop, no_block, stops_with_cause, stops_without_cause}
use Rattle.warehouse.proofs.Counting.{fills-seasons, fills-stores, fills-uncounted, spares-fills, stored-none, stores_none, writes-none}

append_none : {X : Type 0} (xs : List X) → xs ≡ xs ++ []
append_none [] = refl
append_none (x ∷ xs) = ap (λ l. x ∷ l) (append_none xs)

-- events that came before give no less cause
claim_more : (sh : Shape) (before es : List Entry) → claim_failed sh es ≡ true → claim_failed sh (before ++ es) ≡ true
claim_more sh [] es h = h
claim_more sh (e ∷ before) es h = or_right (no_block sh (front seeks_block (e ∷ (before ++ es)))) (claim_failed sh (before ++ es)) (claim_more sh before es h)

marked_more : (sh : Shape) (before es : List Entry) → marking_done sh es ≡ true → marking_done sh (before ++ es) ≡ true
marked_more sh [] es h = h
marked_more sh (e ∷ before) es h =
    or_right
    (reads_phase Marking e.step e.found && some_event (sees_last_card (card_count sh)) (before ++ es) && some_event (sees_all_empty (empty_offset + sh.packets)) (before ++ es))
    (marking_done sh (before ++ es)) (marked_more sh before es h)

may_more : (sh : Shape) (before es : List Entry) → may_stop sh es ≡ true → may_stop sh (before ++ es) ≡ true
may_more sh before es h =
    ⊎_elim
    (λ a. or_left (claim_failed sh (before ++ es)) (marking_done sh (before ++ es)) (claim_more sh before es a))
    (λ a. or_right (claim_failed sh (before ++ es)) (marking_done sh (before ++ es)) (marked_more sh before es a))
    (or_cases (claim_failed sh es) (marking_done sh es) h)

abbrev one_if : Bool → ℕ
one_if b = if b then 1 else 0

-- a stop that has its cause isn't counted
uncounted : (raised cause : Bool) → (not raised || cause) ≡ true → one_if (raised && not cause) ≡ 0
uncounted true true h = refl
uncounted true false h = absurd (false≢true h)
uncounted false cause h = refl

either_more : (raised a b : Bool) → (a ≡ true → b ≡ true) → (not raised || a) ≡ true → (not raised || b) ≡ true
either_more true a b f h = f h
either_more false a b f h = refl

caused : (sh : Shape) (before earlier es : List Entry) → all_steps stores_none es ≡ true → each_after (may_stop sh) raises_flag earlier es ≡ true → stops_without_cause sh (before ++ earlier) es ≡ 0
caused sh before earlier [] b h = refl
caused sh before earlier (e ∷ es) b h =
    let p = and_parts (stores_none e.step) (all_steps stores_none es) b in
    let q = and_parts (not (raises_flag e.step e.found) || may_stop sh earlier) (each_after (may_stop sh) raises_flag (earlier ++ e ∷ []) es) h in
    let none = or_parts (mutator_stores e.step e.found) (stores_new e.step e.found) (writes-none e.step e.found p.0) in
    let here = uncounted (raises_flag e.step e.found) (may_stop sh (before ++ earlier))
    (either_more (raises_flag e.step e.found) (may_stop sh earlier) (may_stop sh (before ++ earlier)) (may_more sh before earlier) q.0) in
    let rest : stops_without_cause sh (before ++ (earlier ++ e ∷ [])) es ≡ 0 = caused sh before (earlier ++ e ∷ []) es p.1 q.1 in
    both (if raises_flag e.step e.found && not (may_stop sh (before ++ earlier)) then 1 else 0) (stops_without_cause sh (if stores_new e.step e.found then [] else (before ++ earlier) ++ e ∷ []) es) here
    (ap (λ m. stops_without_cause sh (if m then [] else (before ++ earlier) ++ e ∷ []) es) none.1 ∙ ap (λ l. stops_without_cause sh l es) (append_assoc before earlier (e ∷ [])) ∙ rest)
  where
    both : (m k : ℕ) → m ≡ 0 → k ≡ 0 → m + k ≡ 0
    both m k p q = omega (arith, p, q)

fills_stores : (v w : View) → Only fills_part v w → Only stores_none v w
fills_stores v w o = only-more fills_part stores_none fills-stores v w o

-- a call that stops the world only for cause
pub waits-caused : (v w : View) → Ran v w → Only fills_part v w → stops_with_cause v.shape (events v w) ≡ true → Paces v w → DoesNothing v w
waits-caused v w ran only h paced season =
    let none : all_steps stores_none (events v w) ≡ true = fills_stores v w only in
    record {
      ran = ran;
      polled = omega arith;
      stopped = λ since.
          let at : stops_without_cause v.shape (since ++ []) (events v w) ≡ 0 = caused v.shape since [] (events v w) none h in
          let here : stops_without_cause v.shape since (events v w) ≡ 0 = ap (λ l. stops_without_cause v.shape l (events v w)) (append_none since) ∙ at in
          omega (arith, here);
      stored = stored-none season (events v w) v none;
      uncounted = fills-uncounted (events v w) only;
      seasons = fills-seasons v w ran only;
      paced = paced;
    }

-- there are no more stops without cause than stops
stops_counted : (sh : Shape) (since es : List Entry) → stops_without_cause sh since es ≤ count_of raises_flag es
stops_counted sh since [] = omega arith
stops_counted sh since (e ∷ es) =
    let next : List Entry = if stores_new e.step e.found then [] else since ++ e ∷ [] in
    let rest : stops_without_cause sh next es ≤ count_of raises_flag es = stops_counted sh next es in
    sums (raises_flag e.step e.found) (may_stop sh since) (stops_without_cause sh next es) (count_of raises_flag es) rest
  where
    sums : (r c : Bool) (m k : ℕ) → m ≤ k → (if r && not c then 1 else 0) + m ≤ (if r then 1 else 0) + k
    sums true true m k h = omega (arith, h)
    sums true false m k h = omega (arith, h)
    sums false c m k h = omega (arith, h)

-- a collection, or one that found the heap full: it stopped the world once at most
pub acts-asked : (season : ℕ) (v w : View) → Ran v w → Only spares_part v w → count_of raises_flag (events v w) ≤ 1 → Paces v w → Acts season 0 1 v w
acts-asked season v w ran only once paced =
    let fills : Only fills_part v w = only-more spares_part fills_part spares-fills v w only in
    record {
      ran = ran;
      polled = omega arith;
      stopped = λ since. omega (arith, once, stops_counted v.shape since (events v w));
      stored = stored-none season (events v w) v (fills_stores v w fills);
      uncounted = fills-uncounted (events v w) fills;
      seasons = fills-seasons v w ran fills;
      paced = paced;
    }
