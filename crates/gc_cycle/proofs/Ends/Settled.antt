-- Whether a seat that is alone has noted that all is settled, as a test; and the number that each round of a drain lets fall.
use Rattle.std.proofs.Common.{ℕ, zero, suc, ◌≡◌, ◌+◌, ◌-◌, ◌*◌, ◌<◌, ◌≤◌, ◌/◌, ◌%◌, List, [], ◌∷◌, ◌++◌, map, arith, refl, sym, ap, ◌∙◌, subst, Bool, true, false, not, cond, Option, None, Some, ⊎_elim, eqb-true}
use Rattle.std.specs.Prelude.{◌==◌, ◌&&◌}
use Rattle.std.specs.List.{list_all, range_with_len}
use Rattle.std.proofs.Math.Logic.{∥∥₁_elim}
use Rattle.std.proofs.Props.{props}
use Rattle.std.proofs.lemmas.Bool.{and_from, and_parts, cases_eq, false≢true, false_from_ne_true, true≢false}
use Rattle.std.proofs.lemmas.Option.{slice_get_within, get_or_from_slice_get}
use Rattle.mark_core.specs.Bits.{has_bit}
use Rattle.mark_core.specs.Layout.{card_count}
use Rattle.mark_core.specs.Numbers.{word_bits}
use Rattle.mark_core.specs.Places.{card_at, pool_at}
use Rattle.mark_core.specs.Seats.{empty_handed}
use Rattle.mark_core.specs.Steps.{Core}
use Rattle.mark_core.specs.declared.kinds.Shape.{Shape}
use Rattle.mark_core.specs.declared.kinds.Step.TheVariants.{ReadCard, ReadCount}
use Rattle.mark_core.specs.declared.seat.SeatState.{SeatState}
use Rattle.mark_core.proofs.Blocks.BlocksStopped.{knower, still-known}
use Rattle.gc_table.specs.Log.{event, events}
use Rattle.gc_table.specs.Notes.{look}
use Rattle.gc_table.specs.Rule.{Agrees, IsPossible, IsState}
use Rattle.gc_table.specs.TableState.{TableState}
use Rattle.gc_table.specs.declared.view.Entry.{Entry}
use Rattle.gc_table.specs.declared.view.View.{View}
use Rattle.packet_pools.specs.Counts.{count_of, dirties, pushes}
use Rattle.packet_pools.specs.Outside.{AreNotedOutside}
use Rattle.packet_pools.proofs.Searches.{all-range}
use Rattle.card_clean.specs.Drained.{FindsWork, IsSettled}
use Rattle.mark_core.specs.declared.kinds.Phase.TheVariants.{Drain}
use Rattle.gc_cycle.specs.Finishing.{IsAloneIn}
use Rattle.gc_cycle.specs.LeftToDrain.{Shrinks, has_traced_all, is_outside, is_spent, left_to_drain, says_outside}
use Rattle.gc_cycle.specs.Lower.{HasTraced}
use Rattle.gc_cycle.proofs.Ends.Uses.{uses-up}

abbrev pub is_zero : Option ℕ → Bool
is_zero None = false
is_zero (Some n) = n == 0

abbrev pub is_clean : View → ℕ → Bool
is_clean v card = is_zero (look (card_at card) v.known)

-- all is noted as settled
abbrev pub settled : View → Bool
settled v = list_all (is_clean v) (range_with_len 0 (card_count v.shape)) && has_traced_all v

-- twice what is left to drain, and one more unless all is settled
abbrev pub rounds_left : View → ℕ
rounds_left v = 2 * left_to_drain v + cond (settled v) 0 1

is-out : (v : View) (q p : ℕ) → p < v.shape.packets → AreNotedOutside q v → is_outside v q p ≡ true
is-out v q p l k = let o = k p l in ap (λ x. says_outside x (p % word_bits)) o.1 ∙ ap not o.2

zero-noted : (o : Option ℕ) → is_zero o ≡ true → o ≡ Some 0
zero-noted None e = absurd (false≢true e)
zero-noted (Some n) e = ap Some (eqb-true n 0 e)

out-noted : (o : Option ℕ) (i : ℕ) → says_outside o i ≡ true → (n : ℕ) × (o ≡ Some n) × (has_bit n i ≡ false)
out-noted None i e = absurd (false≢true e)
out-noted (Some n) i e = (n, refl, not-true (has_bit n i) e)
  where
    not-true : (b : Bool) → not b ≡ true → b ≡ false
    not-true true h = sym h
    not-true false h = refl

all-at : (f : ℕ → Bool) (a n : ℕ) → list_all f (range_with_len a n) ≡ true → (p : ℕ) → a ≤ p → p < a + n → f p ≡ true
all-at f a zero e p l h = absurd (omega (arith, l, h))
all-at f a (suc n) e p l h =
    let b = and_parts (f a) (list_all f (range_with_len (a + 1) n)) e in
    ⊎_elim
    (λ (is : a ≡ p). subst (λ x. f x ≡ true) is b.0)
    (λ (d : a ≡ p → ⊥). all-at f (a + 1) n b.1 p (omega (arith, l, d)) (omega (arith, h)))
    (cases_eq a p)

-- no cell is left to trace, as a test
pub to-spent : (v : View) → AreNotedOutside 1 v → AreNotedOutside 2 v → AreNotedOutside 3 v → empty_handed v.state ≡ true → has_traced_all v ≡ true
to-spent v low high deferred hands =
    and_from _ _ (all-range (is_spent v) 0 v.shape.packets (λ p l.
    let h : p < v.shape.packets = omega (arith, l) in
    and_from _ _ (is-out v 1 p h low) (and_from _ _ (is-out v 2 p h high) (is-out v 3 p h deferred))))
    hands

pub from-spent : (v : View) → has_traced_all v ≡ true → AreNotedOutside 1 v × AreNotedOutside 2 v × AreNotedOutside 3 v × (empty_handed v.state ≡ true)
from-spent v e =
    let b = and_parts (list_all (is_spent v) (range_with_len 0 v.shape.packets)) (empty_handed v.state) e in
    let out = λ (p : ℕ) (l : p < v.shape.packets). all-at (is_spent v) 0 v.shape.packets b.0 p (omega arith) (omega (arith, l)) in (
      λ p l. out-noted (look (pool_at v.shape 1 (p / word_bits)) v.known) (p % word_bits) (and_parts _ _ (out p l)).0,
      λ p l. out-noted (look (pool_at v.shape 2 (p / word_bits)) v.known) (p % word_bits) (and_parts _ _ (and_parts _ _ (out p l)).1).0,
      λ p l. out-noted (look (pool_at v.shape 3 (p / word_bits)) v.known) (p % word_bits) (and_parts _ _ (and_parts _ _ (out p l)).1).1,
      b.1,
    )

to-settled : (v : View) → IsSettled v → settled v ≡ true
to-settled v s =
    and_from _ _ (all-range (is_clean v) 0 (card_count v.shape) (λ p l. ap is_zero (s.cards p (omega arith) (omega (arith, l)))))
    (to-spent v s.low s.high s.deferred s.hands)

from-settled : (v : View) → settled v ≡ true → IsSettled v
from-settled v e =
    let a = and_parts (list_all (is_clean v) (range_with_len 0 (card_count v.shape))) (has_traced_all v) e in
    let s = from-spent v a.1 in
    record {
      cards = λ card low l. zero-noted (look (card_at card) v.known) (all-at (is_clean v) 0 (card_count v.shape) a.0 card (omega arith) (omega (arith, l)));
      low = s.0;
      high = s.1;
      deferred = s.2;
      hands = s.3;
    }

pub looks-neither : (ks : List ℕ) (es : List Entry) → (count_of pushes es ≡ 0) × (count_of dirties es ≡ 0) → (count_of pushes (map (λ k. event (ReadCard k) 0) ks ++ es) ≡ 0) × (count_of dirties (map (λ k. event (ReadCard k) 0) ks ++ es) ≡ 0)
looks-neither [] es n = n
looks-neither (k ∷ ks) es n = let rest = looks-neither ks es n in (omega (arith, rest.0), omega (arith, rest.1))

finds-neither : (sh : Shape) (es : List Entry) → FindsWork sh es → (count_of pushes es ≡ 0) × (count_of dirties es ≡ 0)
finds-neither sh es f =
    ⊎_elim
    (λ a. let n = looks-neither (range_with_len 0 (a.0 - 0)) (event (ReadCard a.0) 1 ∷ []) (refl, refl) in (ap (count_of pushes) a.2 ∙ n.0, ap (count_of dirties) a.2 ∙ n.1))
    (λ a. let n = looks-neither (range_with_len 0 (card_count sh - 0)) (event ReadCount a.0 ∷ []) (refl, refl) in (ap (count_of pushes) a.2 ∙ n.0, ap (count_of dirties) a.2 ∙ n.1))
    f

-- a look that found work, and the round after it
pub falls : (sh : Shape) (v x y : View) → IsAloneIn Drain v → HasTraced v x → FindsWork sh (events v x) → (IsSettled v → ⊥) → Shrinks x y → rounds_left y < rounds_left v
falls sh v x y a t f unsettled s =
    let none = finds-neither sh (events v x) f in
    let u = uses-up v x t.ran t.only a in
    let undone : settled v ≡ false = false_from_ne_true (settled v) (λ e. unsettled (from-settled v e)) in
    let more = ap {B = ℕ} (λ (b : Bool). cond b 0 1) undone in
    ⊎_elim
    (λ (l : left_to_drain y < left_to_drain x). let one = at-most (settled y) in omega (arith, l, one, more, u.cells, u.queue, u.cards, none.0, none.1))
    (λ (l : (left_to_drain y ≤ left_to_drain x) × IsSettled y). let none' = ap {B = ℕ} (λ (b : Bool). cond b 0 1) (to-settled y l.1) in omega (arith, l.0, none', more, u.cells, u.queue, u.cards, none.0, none.1))
    s
  where
    at-most : (b : Bool) → cond b 0 1 ≤ 1
    at-most true = omega arith
    at-most false = omega arith

-- no seat that knows that the world is stopped is active
pub state-still : (x : TableState) (i : ℕ) (v : View) → IsState x → Agrees x i v → v.state.knows ≡ true → v.state.active ≡ false
state-still x i v w a k =
    let c : Core = x.core in
    let within = slice_get_within c.seats i v.state a.seat in
    let at = get_or_from_slice_get c.seats i v.state v.state a.seat in
    let still = still-known c w.core (knower c.seats i v.state within (ap (λ (s : SeatState). s.knows) at ∙ k)) i v.state within in
    ap (λ (s : SeatState). s.active) (sym at) ∙ still

pub knows-still : (v : View) → ∥ IsPossible v ∥₁ → v.state.knows ≡ true → v.state.active ≡ false
knows-still v p k =
    false_from_ne_true v.state.active (λ e.
    ∥∥₁_elim p (Prim.hlevel props) (λ (q : IsPossible v). true≢false (sym e ∙ state-still q.state q.index v q.whole q.agrees k)))
