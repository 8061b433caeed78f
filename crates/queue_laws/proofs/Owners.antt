-- What each seat puts in is of its own section, so what it didn't put in before is new to the queue.
use Rattle.std.proofs.Common.{ℕ, ◌≡◌, ◌==◌, suc, List, [], ◌∷◌, refl, sym, ap, ◌∙◌, subst, Bool, true, false, Some, eq-eqb}
use Rattle.std.specs.Prelude.{if◌then◌else◌, slice_get}
use Rattle.std.proofs.lemmas.Bool.{false_from_ne_true, or_from, or_left, or_parts, true≢false}
use Rattle.plain_heap.specs.Paths.{Name}
use Rattle.gc_table.specs.RunWorlds.{is_same}
use Rattle.queue_laws.specs.Queues.{Item, by_seat, is_in, nodes_of}
use Rattle.queue_laws.proofs.Chains.{same_name}

-- each item's node is of its seat's section
abbrev pub AreOwned : List Item → Type 0
AreOwned xs = (p : ℕ) (x : Item) → slice_get xs p ≡ Some x → x.node.section ≡ x.seat

rest_new : (b : Bool) (x : Item) (xs : List Item) (n : Name) → is_in (nodes_of (if b then x ∷ xs else xs)) n ≡ false → is_in (nodes_of xs) n ≡ false
rest_new true x xs n e = (or_parts (is_same (Some x.node) (Some n)) (is_in (nodes_of xs) n) e).1
rest_new false x xs n e = e

pub new_of_own : (w : ℕ) (xs : List Item) (n : Name) → AreOwned xs → n.section ≡ w → is_in (nodes_of (by_seat w xs)) n ≡ false → is_in (nodes_of xs) n ≡ false
new_of_own w [] n owned own e = refl
new_of_own w (x ∷ xs) n owned own e =
    or_from (is_same (Some x.node) (Some n)) (is_in (nodes_of xs) n)
    (false_from_ne_true (is_same (Some x.node) (Some n))
    (λ t.
    let mine : x.seat ≡ w = sym (owned 0 x refl) ∙ (ap (λ (z : Name). z.section) (same_name x.node n t) ∙ own) in
    let first : is_in (nodes_of (x ∷ by_seat w xs)) n ≡ false = subst (λ (b : Bool). is_in (nodes_of (if b then x ∷ by_seat w xs else by_seat w xs)) n ≡ false) (eq-eqb x.seat w mine) e in
    true≢false (sym (or_left (is_same (Some x.node) (Some n)) (is_in (nodes_of (by_seat w xs)) n) t) ∙ first)))
    (new_of_own w xs n (λ p y at. owned (suc p) y at) own (rest_new (x.seat == w) x (by_seat w xs) n e))
