-- What each step of a drain by a seat that is alone leaves to drain.
use Rattle.std.proofs.Common.{ℕ, ◌≡◌, ◌+◌, ◌-◌, ◌*◌, ◌/◌, ◌%◌, ◌<◌, ◌≤◌, List, [], ◌∷◌, map, arith, refl, sym, ap, ◌∙◌, subst, true, not, Option, None, Some, ⊎_elim}
use Rattle.std.specs.Prelude.{min, IfSome}
use Rattle.std.specs.List.{range_with_len, sum_by}
use Rattle.std.proofs.lemmas.Bool.{and_from, cases_eq}
use Rattle.mark_core.specs.Layout.{card_count}
use Rattle.mark_core.specs.Places.{card_at}
use Rattle.mark_core.specs.Seats.{empty_handed}
use Rattle.mark_core.specs.declared.kinds.Phase.TheVariants.{Drain}
use Rattle.mark_core.specs.declared.kinds.Shape.{Shape}
use Rattle.mark_core.specs.declared.kinds.Step.TheVariants.{ReadCard}
use Rattle.mark_core.specs.declared.seat.SeatState.{SeatState}
use Rattle.gc_table.specs.Log.{event, events}
use Rattle.gc_table.specs.Notes.{look}
use Rattle.gc_table.specs.Running.{after_all}
use Rattle.gc_table.specs.declared.view.Entry.{Entry}
use Rattle.gc_table.specs.declared.view.View.{View}
use Rattle.gc_table.proofs.Noticing.{some-is}
use Rattle.gc_table.proofs.Running.{ran-shape}
use Rattle.packet_pools.specs.Counts.{count_of, dirties, marks_white, pushes}
use Rattle.packet_pools.specs.Outside.{AreNotedOutside}
use Rattle.packet_pools.specs.Seeking.{only_moves}
use Rattle.tracer.specs.Causes.{NotesNoInput}
use Rattle.card_clean.specs.Cleaning.{SpillsWhite}
use Rattle.card_clean.specs.Looking.{KeepsAllNotes, looks_clean, looks_dirty}
use Rattle.card_clean.proofs.CardLooks.{outside-kept}
use Rattle.gc_cycle.specs.Finishing.{IsAloneIn}
use Rattle.gc_cycle.specs.LeftToDrain.{CleansDown, TracesDown, cards_left, dirty_left, has_traced_all, left_to_drain}
use Rattle.gc_cycle.specs.Lower.{HasTraced}
use Rattle.gc_cycle.specs.Pieces.{CleansCards}
use Rattle.gc_cycle.specs.Sorts.{pops}
use Rattle.gc_cycle.specs.declared.card_steps.CleanStep.{CleanStep}
use Rattle.gc_cycle.proofs.Ends.CardRounds.{Passes, clean-stays, ends-clean, first-cleaned, seen-dirty}
use Rattle.gc_cycle.proofs.Ends.Funds.{sum-at}
use Rattle.gc_cycle.proofs.Ends.Rounds.{counted, none-moved}
use Rattle.gc_cycle.proofs.Ends.Settled.{from-spent, looks-neither, to-spent}
use Rattle.gc_cycle.proofs.Ends.Uses.{uses-up}
use Rattle.gc_cycle.proofs.Ends.Whitens.{IsClean, dirty-most, unless-dirty, unless-none}
use Rattle.gc_cycle.proofs.Idling.{rest-parts}
use Rattle.gc_cycle.proofs.Traced.{traced-part}

-- what was deferred was brought back, and then it traced
pub traces-down : (qs : List ℕ) (v w x : View) → IsAloneIn Drain v → HasTraced v w → only_moves qs (events v w) ≡ true → HasTraced w x → count_of pushes (events w x) + count_of dirties (events w x) ≤ count_of marks_white (events w x) → TracesDown v x
traces-down qs v w x a tv moves tw spilled =
    let none = none-moved qs (events v w) moves in
    let first = uses-up v w tv.ran tv.only a in
    let second = uses-up w x tw.ran tw.only (traced-part v w a tv).alone in
    let popped = counted pops v w x tv.ran tw.ran in
    omega (arith, first.cells, first.queue, first.cards, second.cells, second.queue, second.cards, none.0, none.1, spilled, popped)

-- and it found no packet to read from
pub traced-all : (w x : View) → IsAloneIn Drain w → HasTraced w x → AreNotedOutside 3 w → NotesNoInput w x → has_traced_all x ≡ true
traced-all w x a t out input =
    let same = ran-shape w x t.ran in
    let deferred : AreNotedOutside 3 x = λ p l. input.others a.rest.alone 3 p refl (subst (λ (s : Shape). p < s.packets) same l) (out p (subst (λ (s : Shape). p < s.packets) same l)) in
    let hands = rest-parts x.shape x.state t.rest in
    to-spent x (input.low a.rest.alone) (input.high a.rest.alone) deferred (and_from _ _ (and_from _ _ (ap not hands.packets) (ap not hands.reserved)) (ap not hands.credit))

-- it only looked
pub looks-down : (v w : View) → IsAloneIn Drain v → HasTraced v w → count_of pushes (events v w) ≡ 0 → count_of dirties (events v w) ≡ 0 → left_to_drain w ≤ left_to_drain v
looks-down v w a t pushed dirtied = let u = uses-up v w t.ran t.only a in omega (arith, u.cells, u.queue, u.cards, pushed, dirtied)

pub still-traced : (v w : View) → w.shape ≡ v.shape → w.state ≡ v.state → KeepsAllNotes v w → has_traced_all v ≡ true → has_traced_all w ≡ true
still-traced v w shape state keeps e =
    let s = from-spent v e in
    to-spent w (outside-kept 1 v w shape keeps s.0) (outside-kept 2 v w shape keeps s.1) (outside-kept 3 v w shape keeps s.2) (ap (λ (t : SeatState). empty_handed t) state ∙ s.3)

none-put : (ks : List ℕ) → (count_of pushes (map (λ k. event (ReadCard k) 0) ks) ≡ 0) × (count_of dirties (map (λ k. event (ReadCard k) 0) ks) ≡ 0)
none-put [] = (refl, refl)
none-put (k ∷ ks) = let rest = none-put ks in (omega (arith, rest.0), omega (arith, rest.1))

-- looks at cards push nothing and dirty nothing
pub clean-neither : (from to : ℕ) (es : List Entry) → es ≡ looks_clean from to → (count_of pushes es ≡ 0) × (count_of dirties es ≡ 0)
clean-neither from to es e = let c = none-put (range_with_len from (to - from)) in (ap (count_of pushes) e ∙ c.0, ap (count_of dirties) e ∙ c.1)

pub dirty-neither : (from card : ℕ) (es : List Entry) → es ≡ looks_dirty from card → (count_of pushes es ≡ 0) × (count_of dirties es ≡ 0)
dirty-neither from card es e =
    let c = looks-neither (range_with_len from (card - from)) (event (ReadCard card) 1 ∷ []) (refl, refl) in (ap (count_of pushes) e ∙ c.0, ap (count_of dirties) e ∙ c.1)

-- it found a dirty card
pub looked-dirty : (from card : ℕ) (v w : View) → IsAloneIn Drain v → HasTraced v w → events v w ≡ looks_dirty from card → dirty_left w card ≡ 1
looked-dirty from card v w a t e =
    let passes : Passes (looks_dirty from card) v = subst (λ es. Passes es v) e (record { steps = t.only; seen = t.ran.seen; lone = a.rest.alone; none = (dirty-neither from card (events v w) e).1 }) in
    let end : w ≡ after_all (looks_dirty from card) v = t.ran.steps ∙ ap (λ es. after_all es v) e in
    let dirty : look (card_at card) w.known ≡ Some 1 = ap (λ (u : View). look (card_at card) u.known) end ∙ seen-dirty from card v passes in
    unless-dirty (look (card_at card) w.known) 1 refl (λ j h. some-is 1 j (sym dirty ∙ h))

-- it cleaned cards, and dirtied none
cleans-one : (v w : View) (from n : ℕ) → IsAloneIn Drain v → HasTraced v w → CleansCards from n v w → count_of dirties (events v w) ≡ 0 → 0 < n → from < card_count v.shape → dirty_left v from ≡ 1 → cards_left w + 1 ≤ cards_left v
cleans-one v w from n a t k none some there was =
    let passes : Passes (events v w) v = record { steps = t.only; seen = t.ran.seen; lone = a.rest.alone; none = none } in
    let stays : (card : ℕ) → IsClean v card → IsClean w card = λ card c. subst (λ (u : View). IsClean u card) (sym t.ran.steps) (clean-stays (events v w) v card passes c) in
    let clean : IsClean w from = subst (λ (u : View). IsClean u from) (sym t.ran.steps) (ends-clean (events v w) v from passes (first-cleaned v.shape from n k.0 (events v w) some k.1)) in
    let gone : dirty_left w from ≡ 0 = unless-none (look (card_at from) w.known) clean in
    let sum = sum-at (dirty_left v) (dirty_left w) from 1 0 0 (card_count v.shape) (omega arith) (omega (arith, there)) (omega (arith, gone, was)) (λ c d. dirty-most v w c (stays c)) in
    let same : cards_left w ≡ sum_by (dirty_left w) (range_with_len 0 (card_count v.shape)) = ap (λ (s : Shape). sum_by (dirty_left w) (range_with_len 0 (card_count s))) (ran-shape v w t.ran) in
    omega (arith, sum, same)

cleans-down : (v w : View) (from n : ℕ) → IsAloneIn Drain v → HasTraced v w → CleansCards from n v w → SpillsWhite (events v w) → (0 < n → from < card_count v.shape) → CleansDown from n v w
cleans-down v w from n a t k spills there =
    let u = uses-up v w t.ran t.only a in
    record {
      no_more = omega (arith, u.cells, u.queue, u.cards, spills);
      less = λ some was.
          ⊎_elim
          (λ (z : count_of dirties (events v w) ≡ 0). let one = cleans-one v w from n a t k z some (there some) was in omega (arith, u.cells, u.queue, one, spills, z))
          (λ (z : count_of dirties (events v w) ≡ 0 → ⊥). omega (arith, u.cells, u.queue, u.cards, spills, z))
          (cases_eq (count_of dirties (events v w)) 0);
    }

pub cleaned-down : (o : Option CleanStep) (sh : Shape) (v w : View) (from most : ℕ) → v.shape ≡ sh → IsAloneIn Drain v → HasTraced v w → IfSome o (λ r. (r.passed ≡ min most (card_count sh - from)) × CleansCards from r.passed v w) → SpillsWhite (events v w) → IfSome o (λ r. CleansDown from r.passed v w)
cleaned-down None sh v w from most e a t k spills = k
cleaned-down (Some r) sh v w from most e a t k spills =
    cleans-down v w from r.passed a t k.1 spills (λ some. subst (λ (s : Shape). from < card_count s) (sym e) (let many = k.0 in omega (arith, some, many)))
