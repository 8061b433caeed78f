-- What a cleaning puts into packets or leaves to cards is bounded by what it found white.
use Rattle.std.proofs.Common.{ℕ, ◌≡◌, ◌-◌, ◌≤◌, List, [], ◌∷◌, ◌++◌, map, arith, refl, ap, ◌∙◌, Bool, true, false, cond, inl, inr}
use Rattle.std.specs.List.{range_with_len}
use Rattle.mark_core.specs.declared.kinds.Shape.{Shape}
use Rattle.mark_core.specs.declared.kinds.Step.TheVariants.{ClearCard, DirtyCard, ReadCard}
use Rattle.gc_table.specs.Log.{event}
use Rattle.gc_table.specs.declared.view.Entry.{Entry}
use Rattle.packet_pools.specs.Counts.{count_of, dirties, marks_white, pushes}
use Rattle.packet_pools.specs.Seeking.{only_moves, output_pools}
use Rattle.packet_pools.proofs.Counting.{count-join, counts-moves}
use Rattle.card_clean.specs.Cleaning.{Cleans, RescansCard, SpillsWhite}
use Rattle.card_clean.specs.Looking.{looks_clean, looks_dirty}
use Rattle.card_clean.specs.declared.cleaned.Cleaned.{Cleaned}

pub spills-join : (xs ys es : List Entry) → es ≡ xs ++ ys → SpillsWhite xs → SpillsWhite ys → SpillsWhite es
spills-join xs ys es all p q =
    let a = ap (count_of pushes) all ∙ count-join pushes xs ys in
    let b = ap (count_of dirties) all ∙ count-join dirties xs ys in
    let c = ap (count_of marks_white) all ∙ count-join marks_white xs ys in
    omega (arith, a, b, c, p, q)

-- packets that come and go
pub spills-moves : (sh : Shape) (es : List Entry) → only_moves output_pools es ≡ true → SpillsWhite es
spills-moves sh es m = let k = counts-moves sh es m in omega (arith, k.marked, k.pushed, k.overflowed)

-- a look at a card, or its clearing
pub spills-look : (card n : ℕ) (es : List Entry) → es ≡ event (ReadCard card) n ∷ [] → SpillsWhite es
spills-look card n es e = let a = ap (count_of pushes) e in let b = ap (count_of dirties) e in omega (arith, a, b)

pub spills-clear : (card n : ℕ) (es : List Entry) → es ≡ event (ClearCard card) n ∷ [] → SpillsWhite es
spills-clear card n es e = let a = ap (count_of pushes) e in let b = ap (count_of dirties) e in omega (arith, a, b)

none-spilled : (ks : List ℕ) (es : List Entry) → SpillsWhite es → SpillsWhite (map (λ k. event (ReadCard k) 0) ks ++ es)
none-spilled [] es s = s
none-spilled (k ∷ ks) es s = let rest = none-spilled ks es s in omega (arith, rest)

only-looks : (ks : List ℕ) → SpillsWhite (map (λ k. event (ReadCard k) 0) ks)
only-looks [] = omega arith
only-looks (k ∷ ks) = let rest = only-looks ks in omega (arith, rest)

pub spills-clean : (from to : ℕ) → SpillsWhite (looks_clean from to)
spills-clean from to = only-looks (range_with_len from (to - from))

pub spills-dirty : (from card : ℕ) → SpillsWhite (looks_dirty from card)
spills-dirty from card = none-spilled (range_with_len from (card - from)) (event (ReadCard card) 1 ∷ []) (omega arith)

-- the card may be dirtied once more, if a cell was lost
more-spilled : (scan : List Entry) (card white lost : ℕ) (b : Bool) → lost ≤ white → count_of marks_white scan ≡ white → count_of pushes scan ≡ white - lost → count_of dirties scan ≡ lost
    → (b ≡ true → 2 ≤ count_of dirties (scan ++ cond b (event (DirtyCard card) 1 ∷ []) [])) → SpillsWhite (scan ++ cond b (event (DirtyCard card) 1 ∷ []) [])
more-spilled scan card white lost true l m p d two =
    let more : List Entry = event (DirtyCard card) 1 ∷ [] in
    omega (arith, count-join marks_white scan more, count-join pushes scan more, count-join dirties scan more, l, m, p, d, two refl)
more-spilled scan card white lost false l m p d two = omega (arith, count-join marks_white scan [], count-join pushes scan [], count-join dirties scan [], l, m, p, d)

rescan-spills : (sh : Shape) (card : ℕ) (r : Cleaned) (es : List Entry) → RescansCard sh card r es → (r.redirtied ≡ true → 2 ≤ count_of dirties es) → SpillsWhite es
rescan-spills sh card r es k two =
    let a = ap (count_of pushes) k.events_are in
    let b = ap (count_of dirties) k.events_are in
    let c = ap (count_of marks_white) k.events_are in
    let n = k.rescans.counts in
    let rest = more-spilled k.scan card k.rescans.white k.lost r.redirtied k.rescans.most n.marked n.pushed n.overflowed (λ e. let t = two e in omega (arith, t, b)) in
    omega (arith, a, b, c, rest)

-- a card that was cleaned
pub card-spills : (sh : Shape) (card : ℕ) (r : Cleaned) (es : List Entry) → Cleans sh card r es → (r.redirtied ≡ true → 2 ≤ count_of dirties es) → SpillsWhite es
card-spills sh card r es (inl k) two = spills-clear card 0 es k.events_are
card-spills sh card r es (inr k) two =
    let a = ap (count_of pushes) k.1 in
    let b = ap (count_of dirties) k.1 in
    let c = ap (count_of marks_white) k.1 in
    let rest = rescan-spills sh card r k.0 k.2 (λ e. let t = two e in omega (arith, t, b)) in
    omega (arith, a, b, c, rest)
