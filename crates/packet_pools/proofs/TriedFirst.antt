-- What whole calls tried of the packets with room, one call after another.
use Rattle.std.proofs.Common.{◌≡◌, List, [], ◌++◌, ap, ◌∙◌, subst, Bool, true, false}
use Rattle.std.proofs.lemmas.List.{append-nil}
use Rattle.mark_core.specs.declared.kinds.Shape.{Shape}
use Rattle.gc_table.specs.declared.view.Entry.{Entry}
use Rattle.packet_pools.specs.Counts.{dirties}
use Rattle.packet_pools.specs.Orders.{each_after, some_end}
use Rattle.packet_pools.specs.Seeking.{some_event}
use Rattle.packet_pools.specs.Tried.{DirtiesLast, all_tried}
use Rattle.packet_pools.proofs.Counting.{after-earlier, after-join, after-none, end-more}

-- one call after another
pub last-join : (sh : Shape) (xs ys es : List Entry) → es ≡ xs ++ ys → DirtiesLast sh xs → DirtiesLast sh ys → DirtiesLast sh es
last-join sh xs ys es all a b =
    ap (each_after test dirties []) all
    ∙ after-join test dirties [] xs ys a (subst (λ (zs : List Entry). each_after test dirties zs ys ≡ true) (append-nil xs) (after-earlier test test dirties xs (end-more (all_tried sh (λ p. false)) xs) [] ys b))
  where
    test : List Entry → Bool
    test = some_end (all_tried sh (λ p. false))

-- no card was dirtied
pub last-none : (sh : Shape) (es : List Entry) → some_event dirties es ≡ false → DirtiesLast sh es
last-none sh es n = after-none (some_end (all_tried sh (λ p. false))) dirties [] es n
