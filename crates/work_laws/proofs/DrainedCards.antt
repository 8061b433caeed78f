-- No marked cell of a card that is cleaned is found unpublished while the world is stopped.
use Rattle.std.proofs.Common.{ℕ, ◌≡◌, ◌+◌, ◌*◌, ◌/◌, ◌%◌, ◌<◌, ◌≤◌, List, get_or, arith, refl, sym, ap, ◌∙◌, Bool, true, false, not, ◌&&◌, eqb, Option, Some, None, ⊎_elim, subst}
use Rattle.std.specs.Prelude.{IsTrue, IfSome, bit_and}
use Rattle.std.specs.Int.Bits.{and_le_l}
use Rattle.std.specs.Int.{trailing_zeros}
use Rattle.std.proofs.lemmas.Bool.{cases_Bool, and_parts, and_from, eqb-true, eqb-false, eq-eqb, ltb-true, true≢false, false_from_ne_true}
use Rattle.std.proofs.lemmas.Nat.Bits.{bit_at-trailing_zeros, bit_at_not}
use Rattle.mark_core.specs.Layout.{Words, words_of, block_count, address}
use Rattle.mark_core.specs.Bits.{has_bit, cell_bit, complement}
use Rattle.mark_core.specs.Cards.{block_of_card}
use Rattle.mark_core.specs.Seats.{left_in}
use Rattle.mark_core.specs.Views.{Grasp, grasp_of}
use Rattle.mark_core.specs.WellFormed.{IsCleaning}
use Rattle.mark_core.specs.Rules.WorldRules.{is_tracing, is_stopped_phase}
use Rattle.mark_core.specs.Steps.{Core}
use Rattle.mark_core.specs.declared.kinds.Shape.{Shape}
use Rattle.mark_core.specs.declared.kinds.Step.{Step}
use Rattle.mark_core.specs.declared.kinds.Step.TheVariants.{ReadAlloc}
use Rattle.mark_core.specs.declared.seat.Cleaning.{Cleaning}
use Rattle.mark_core.specs.declared.seat.SeatState.{SeatState}
use Rattle.mark_core.proofs.Count.CountMoves.{bit}
use Rattle.mark_core.proofs.Known.{bit-below}
use Rattle.mark_core.proofs.Formed.FormedWords.{word-in}
use Rattle.mark_core.proofs.HeldBlock.{of-view, marks-length, alloc-found}
use Rattle.mark_core.proofs.Hands.HandsCleaning.{both-bits}
use Rattle.mark_core.proofs.Blocks.BlocksStopped.{Taken, still-stopped, kept-after}
use Rattle.mark_core.proofs.Sweeps.SweepsSpared.{NoneUsed, none-used, use-published}
use Rattle.work_laws.specs.Counting.{one_in}
use Rattle.work_laws.specs.Queueing.{defers}
use Rattle.work_laws.specs.DrainedCards.{redirties_in_drain, lacks_bits, DrainsStayClean}
use Rattle.work_laws.proofs.Sums.{Pays, paid, times, one-is}
use mir.Syntax.{w64}

-- a bit of the complement isn't one of the word
free_bit : (word i : ℕ) → word < 18446744073709551616 → i < 64 → has_bit (complement word) i ≡ true → has_bit word i ≡ false
free_bit word i h l e = false_from_ne_true (has_bit word i) (λ b. omega (arith, bit_at_not w64 word i h l, eqb-true _ _ e, eqb-true _ _ b))

-- a set of bits that a word has has none in common with its complement
none_common : (left word : ℕ) → left < 18446744073709551616 → word < 18446744073709551616 → ((i : ℕ) → i < 64 → has_bit left i ≡ true → has_bit word i ≡ true) → eqb (bit_and left (complement word)) 0 ≡ true
none_common left word hl hw f =
    let n : ℕ = bit_and left (complement word) in
    ⊎_elim
    (λ (z : eqb n 0 ≡ true). z)
    (λ (z : eqb n 0 ≡ false).
    let some : 0 < n = grind (arith, eqb-false n 0 z) in
    let below : n < 18446744073709551616 = omega (arith, and_le_l left (complement word), hl) in
    let at = bit_at-trailing_zeros w64 n some below in
    let both = both-bits left (complement word) (trailing_zeros w64 n) (eq-eqb _ _ at.1) in
    absurd (true≢false (sym (f (trailing_zeros w64 n) at.0 both.0) ∙ free_bit word (trailing_zeros w64 n) hw at.0 both.1)))
    (cases_Bool (eqb n 0))

-- what is left of the card is published while the world is stopped
left_published : (c : Core) (i : ℕ) (s : SeatState) (step : Step) (x : ℕ) → Taken c i s step → (words_of c.shape c.words).phase ≡ 2 → left_in s.cleaning x ≡ true → cell_bit (words_of c.shape c.words).allocs x ≡ true
left_published c i s step x t p e =
    let w : Words = words_of c.shape c.words in
    let none : NoneUsed c.seats = none-used c.shape w.world w.help c.seats t.core.sound.world (still-stopped c t.core (ap is_stopped_phase p)) in
    let marked : cell_bit w.marks x ≡ true = of-view grasp_of (λ (g : Grasp). IsTrue (left_in g.cleaning x) → IsTrue (cell_bit w.marks x)) c i s step t (t.core.sound.marks.left_marked (ap is_tracing p) x) e in
    let hx : x < c.shape.cells = bit-below c.shape w.marks x t.core.formed.shaped (marks-length c t.core) marked in
    sym (use-published w.allocs c.seats x none) ∙ t.core.sound.marks.marked_in_use x hx marked

-- of another block nothing is asked, and of this one each bit that is left is set
none_in : (allocs : List ℕ) (x : Cleaning) (b word : ℕ) (known here : Bool) → eqb (block_of_card x.card) b ≡ here → x.left < 18446744073709551616 → word < 18446744073709551616 → get_or allocs b 0 ≡ word
    → ((y : ℕ) → left_in (Some x) y ≡ true → cell_bit allocs y ≡ true) → (known && here && not (eqb (bit_and x.left (complement word)) 0)) ≡ false
none_in allocs x b word false here e hl hw is f = refl
none_in allocs x b word true false e hl hw is f = refl
none_in allocs x b word true true e hl hw is f =
    let block : block_of_card x.card ≡ b = eqb-true (block_of_card x.card) b e in
    ap not (none_common x.left word hl hw (λ i h m.
    let y : ℕ = 64 * b + i in
    let at : y / 64 ≡ b = omega (arith, h) in
    let place : y % 64 ≡ i = omega (arith, h) in
    let left : left_in (Some x) y ≡ true = and_from (eqb (block_of_card x.card) (y / 64)) (has_bit x.left (y % 64)) (eq-eqb _ _ (block ∙ sym at)) (ap (has_bit x.left) place ∙ m) in
    let set : has_bit (get_or allocs (y / 64) 0) (y % 64) ≡ true = f y left in
    sym (ap (λ z. has_bit z i) is) ∙ (sym (ap (λ z. has_bit (get_or allocs z 0) i) at) ∙ (sym (ap (has_bit (get_or allocs (y / 64) 0)) place) ∙ set))))

pub none-left : (allocs : List ℕ) (o : Option Cleaning) (b word : ℕ) → IfSome o (λ (x : Cleaning). x.left < 18446744073709551616) → word < 18446744073709551616 → get_or allocs b 0 ≡ word → ((x : ℕ) → left_in o x ≡ true → cell_bit allocs x ≡ true) → lacks_bits o b word ≡ false
none-left allocs None b word hl hw is f = refl
none-left allocs (Some x) b word hl hw is f = none_in allocs x b word x.known (eqb (block_of_card x.card) b) refl hl hw is f

pub left-fits : (sh : Shape) (o : Option Cleaning) → IfSome o (IsCleaning sh) → IfSome o (λ (x : Cleaning). x.left < 18446744073709551616)
left-fits sh None h = tt
left-fits sh (Some x) h = h.words.0

pub alloc-fits : (c : Core) (i : ℕ) (s : SeatState) (b : ℕ) → Taken c i s (ReadAlloc b) → get_or (words_of c.shape c.words).allocs b 0 < 18446744073709551616
alloc-fits c i s b t =
    let hb : b < block_count c.shape = ltb-true b (block_count c.shape) (and_parts _ _ t.ok.0).0 in
    subst (λ (n : ℕ). n < 18446744073709551616) (alloc-found c b hb) (word-in c.words (address c.shape (4, b)) t.core.formed.words_in_range)

abbrev NoneRedirtied : Core → SeatState → Step → Type 0
NoneRedirtied c s step = bit (redirties_in_drain c s step) ≡ 0

pub in-drain : (c : Core) (i : ℕ) (s : SeatState) (b : ℕ) → Taken c i s (ReadAlloc b) → (here : Bool) → eqb (words_of c.shape c.words).phase 2 ≡ here → bit (here && lacks_bits s.cleaning b (get_or (words_of c.shape c.words).allocs b 0)) ≡ 0
in-drain c i s b t true e =
    let w : Words = words_of c.shape c.words in
    ap bit (none-left w.allocs s.cleaning b (get_or w.allocs b 0) (left-fits c.shape s.cleaning (t.core.formed.seats i s t.got).cleaning) (alloc-fits c i s b t) refl (λ x l. left_published c i s (ReadAlloc b) x t (eqb-true w.phase 2 e) l))
in-drain c i s b t false e = refl

none-redirtied : (c : Core) (i : ℕ) (s : SeatState) (step : Step) → Taken c i s step → NoneRedirtied c s step
none-redirtied c i s (ReadAlloc b) t = in-drain c i s b t (eqb (words_of c.shape c.words).phase 2) refl
none-redirtied c i s step t = refl

redirty_pay : (sh : Shape) → Pays (one_in redirties_in_drain) (λ c e. 0 * one_in defers c e) (λ c. 0) sh
redirty_pay sh c e k is f =
    kept-after (λ z w seats. one_in redirties_in_drain c e + 0 ≤ 0 + 0 * one_in defers c e) c e k f
    (λ s acted t. omega (arith, one-is redirties_in_drain c e s acted.seat, none-redirtied c e.seat s e.step t))

pub drains_stay_clean : DrainsStayClean
drains_stay_clean = record { none = λ c es k fit. omega (arith, paid (one_in redirties_in_drain) (λ d e. 0 * one_in defers d e) (λ d. 0) c.shape (redirty_pay c.shape) es c k refl fit, times 0 (one_in defers) es c) }
