-- How many cards are cleared, step by step and call by call.
use Rattle.std.proofs.Common.{ℕ, ◌≡◌, ◌+◌, List, [], ◌∷◌, ◌++◌, arith, refl, ap, ◌∙◌, Bool, true, false, inl, inr}
use Rattle.std.specs.Prelude.{if◌then◌else◌}
use Rattle.std.proofs.lemmas.Bool.{and_parts, false≢true}
use Rattle.mark_core.specs.declared.kinds.Shape.{Shape}
use Rattle.mark_core.specs.declared.kinds.Step.{Step}
use Rattle.mark_core.specs.declared.kinds.Step.TheVariants.{ClearCard, DirtyCard}
use Rattle.gc_table.specs.Log.{event, events}
use Rattle.gc_table.specs.Running.{Ran}
use Rattle.gc_table.specs.declared.view.Entry.{Entry}
use Rattle.gc_table.specs.declared.view.View.{View}
use Rattle.gc_table.proofs.Running.{ran-events}
use Rattle.packet_pools.specs.Counts.{count_of, only_scans, scans_object}
use Rattle.packet_pools.specs.Seeking.{moves_packet, only_moves}
use Rattle.packet_pools.proofs.Counting.{count-join}
use Rattle.card_clean.specs.Cleaning.{Cleans, clears}
use Rattle.card_clean.specs.declared.cleaned.Cleaned.{Cleaned}

-- one call after another
pub cleared-join : (u v w : View) → Ran u v → Ran v w → count_of clears (events u w) ≡ count_of clears (events u v) + count_of clears (events v w)
cleared-join u v w a b = ap (count_of clears) (ran-events u v w a b) ∙ count-join clears (events u v) (events v w)

-- a step that clears no card isn't counted
uncounted : (e : Entry) (es : List Entry) → clears e.step e.found ≡ false → count_of clears es ≡ 0 → count_of clears (e ∷ es) ≡ 0
uncounted e es none rest = let one : ◌≡◌ {A = ℕ} (if clears e.step e.found then 1 else 0) 0 = ap (λ (b : Bool). if b then 1 else 0) none in omega (arith, one, rest)

moves-none : (qs : List ℕ) (step : Step) (n : ℕ) → moves_packet qs step ≡ true → clears step n ≡ false
moves-none qs (ClearCard card) n m = absurd (false≢true m)
moves-none qs step n m = refl

scans-none : (step : Step) (n : ℕ) → scans_object step ≡ true → clears step n ≡ false
scans-none (ClearCard card) n m = absurd (false≢true m)
scans-none step n m = refl

-- packets that move clear no card
pub cleared-moves : (qs : List ℕ) (es : List Entry) → only_moves qs es ≡ true → count_of clears es ≡ 0
cleared-moves qs [] m = refl
cleared-moves qs (e ∷ es) m = let h = and_parts (moves_packet qs e.step) (only_moves qs es) m in uncounted e es (moves-none qs e.step e.found h.0) (cleared-moves qs es h.1)

-- nor does the scan of an object
cleared-scans : (es : List Entry) → only_scans es ≡ true → count_of clears es ≡ 0
cleared-scans [] m = refl
cleared-scans (e ∷ es) m = let h = and_parts (scans_object e.step) (only_scans es) m in uncounted e es (scans-none e.step e.found h.0) (cleared-scans es h.1)

cleared-last : (card : ℕ) (again : Bool) → count_of clears (if again then event (DirtyCard card) 1 ∷ [] else []) ≡ 0
cleared-last card true = refl
cleared-last card false = refl

-- cleaning a card clears one
pub cleared-one : (sh : Shape) (card : ℕ) (r : Cleaned) (es : List Entry) → Cleans sh card r es → count_of clears es ≡ 1
cleared-one sh card r es (inl a) = ap (count_of clears) a.events_are
cleared-one sh card r es (inr a) =
    let x = a.2 in
    let ending : List Entry = if r.redirtied then event (DirtyCard card) 1 ∷ [] else [] in
    let all : count_of clears es ≡ 1 + (0 + (0 + count_of clears (x.scan ++ ending))) = ap (count_of clears) (a.1 ∙ ap (λ l. event (ClearCard card) 1 ∷ l) x.events_are) in
    let both = count-join clears x.scan ending in
    let scan = cleared-scans x.scan x.rescans.counts.scans in
    let last = cleared-last card r.redirtied in
    omega (arith, all, both, scan, last)
