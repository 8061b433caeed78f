-- Which blocks a search tried, and in how many steps.
use Rattle.std.proofs.Common.{ℕ, ◌≡◌, ◌≤◌, ◌+◌, ◌-◌, ◌*◌, zero, suc, List, [], ◌∷◌, ◌++◌, length, arith, refl, sym, ap, ◌∙◌, append_assoc, Option, Some, None}
use Rattle.std.specs.Prelude.{IfNone, IfSome}
use Rattle.std.specs.List.{range_with_len}
use Rattle.std.proofs.lemmas.List.{length-append}
use Rattle.gc_table.specs.declared.view.Entry.{Entry}
use Rattle.gc_table.specs.declared.view.View.{View}
use Rattle.gc_table.specs.Log.{events}
use Rattle.gc_table.specs.Running.{Ran}
use Rattle.gc_table.proofs.Running.{ran-events}
use Rattle.alloc_cache.specs.Claiming.{ClaimsFirst, Misses, blocks_tried, tried_by}
use Rattle.alloc_cache.specs.declared.cache.Cache.{Cache}

pub both-tried : (xs ys : List Entry) → blocks_tried (xs ++ ys) ≡ blocks_tried xs ++ blocks_tried ys
both-tried [] ys = refl
both-tried (x ∷ xs) ys = ap (λ l. tried_by x.step ++ l) (both-tried xs ys) ∙ sym (append_assoc (tried_by x.step) (blocks_tried xs) (blocks_tried ys))

range-parts : (k m n : ℕ) → range_with_len k m ++ range_with_len (k + m) n ≡ range_with_len k (m + n)
range-parts k zero n =
    let same : k + 0 ≡ k = omega arith in
    let all : n ≡ 0 + n = omega arith in
    λ i. range_with_len (same i) (all i)
range-parts k (suc m) n =
    let on : k + suc m ≡ (k + 1) + m = omega arith in
    let all : suc (m + n) ≡ suc m + n = omega arith in
    ap (λ l. k ∷ l) (ap (λ j. range_with_len (k + 1) m ++ range_with_len j n) on ∙ range-parts (k + 1) m n) ∙ ap (range_with_len k) all

-- the blocks below one of them, and those from it on
pub range-join : (lo mid hi : ℕ) → lo ≤ mid → mid ≤ hi → range_with_len lo (mid - lo) ++ range_with_len mid (hi - mid) ≡ range_with_len lo (hi - lo)
range-join lo mid hi a b =
    let at : mid ≡ lo + (mid - lo) = omega (arith, a) in
    let all : (mid - lo) + (hi - mid) ≡ hi - lo = omega (arith, a, b) in
    ap (λ k. range_with_len lo (mid - lo) ++ range_with_len k (hi - mid)) at ∙ (range-parts lo (mid - lo) (hi - mid) ∙ ap (range_with_len lo) all)

-- one part of a search after another
pub tried-join : (lo mid hi : ℕ) (u v w : View) → lo ≤ mid → mid ≤ hi → Ran u v → Ran v w → blocks_tried (events u v) ≡ range_with_len lo (mid - lo) → blocks_tried (events v w) ≡ range_with_len mid (hi - mid) → blocks_tried (events u w) ≡ range_with_len lo (hi - lo)
tried-join lo mid hi u v w a b r q e f = ap blocks_tried (ran-events u v w r q) ∙ (both-tried (events u v) (events v w) ∙ ((λ i. e i ++ f i) ∙ range-join lo mid hi a b))

pub few-join : (lo mid hi : ℕ) (u v w : View) → lo ≤ mid → mid ≤ hi → Ran u v → Ran v w → length (events u v) ≤ 3 * (mid - lo) → length (events v w) ≤ 3 * (hi - mid) → length (events u w) ≤ 3 * (hi - lo)
few-join lo mid hi u v w a b r q e f = let both = ap length (ran-events u v w r q) ∙ length-append (events u v) (events v w) in omega (arith, both, a, b, e, f)

-- one block was tried, by these events
pub one-tried : (b : ℕ) (v w : View) (es : List Entry) → events v w ≡ es → blocks_tried es ≡ b ∷ [] → blocks_tried (events v w) ≡ range_with_len b (b + 1 - b)
one-tried b v w es e one =
    let single : 1 ≡ b + 1 - b = omega arith in
    ap blocks_tried e ∙ (one ∙ ap (range_with_len b) single)

pub one-few : (b : ℕ) (v w : View) (es : List Entry) → events v w ≡ es → length es ≤ 3 → length (events v w) ≤ 3 * (b + 1 - b)
one-few b v w es e few = let long = ap length e in omega (arith, long, few)

-- a search of the blocks from lo on and below hi, whatever it came to
pub few-among : (lo hi : ℕ) (found : Option Cache) (v w : View) → IfSome found (λ h. ClaimsFirst lo hi h v w) → IfNone found (Misses lo hi v w) → length (events v w) ≤ 3 * (hi - lo)
few-among lo hi (Some h) v w some none =
    let few = some.few in
    let within = some.within.1 in
    omega (arith, few, within)
few-among lo hi None v w some none = none.few

-- a search that goes round: of the blocks from the first on, and then of those below it
pub few-round : (first blocks : ℕ) (u v w : View) → first ≤ blocks → Ran u v → Ran v w → length (events u v) ≤ 3 * (blocks - first) → length (events v w) ≤ 3 * (first - 0) → length (events u w) ≤ 3 * blocks
few-round first blocks u v w l r q e f = let both = ap length (ran-events u v w r q) ∙ length-append (events u v) (events v w) in omega (arith, both, l, e, f)
