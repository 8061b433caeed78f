-- What one step does to the cards, and to the counter of their pass.
use Rattle.std.proofs.Common.{ℕ, ◌≡◌, ◌+◌, ◌-◌, ◌*◌, ◌%◌, ◌<◌, ◌≤◌, List, set, get_or, length, arith, refl, sym, ap, ◌∙◌, Bool, true, false, not, cond, eqb}
use Rattle.std.specs.Prelude.{nat_le, nat_lt}
use Rattle.std.specs.List.{count_by}
use Rattle.std.proofs.lemmas.Bool.{and_parts, leb-true, ne_eqb, eq-eqb, eqb-true, ltb-false, true≢false, false≢true}
use Rattle.std.proofs.lemmas.List.Sums.{sum_by-set}
use Rattle.mark_core.specs.Layout.{Words, words_of, region_sizes, card_count, put_word}
use Rattle.mark_core.specs.Numbers.{last_count, done_count, most_seats}
use Rattle.mark_core.specs.Places.{counter_at}
use Rattle.mark_core.specs.Effects.{written}
use Rattle.mark_core.specs.Steps.{Core}
use Rattle.mark_core.specs.Sound.{card_readers}
use Rattle.mark_core.specs.declared.kinds.Shape.{Shape}
use Rattle.mark_core.specs.declared.kinds.Step.{Step}
use Rattle.mark_core.specs.declared.kinds.Step.TheVariants.{DirtyCard, CheckCard, ClearCard, ReadCard, WipeCard, NextOfCards, Reset, AddStat, ReadStat}
use Rattle.mark_core.specs.declared.seat.SeatState.{SeatState}
use Rattle.mark_core.proofs.Known.{found, words_left}
use Rattle.mark_core.proofs.Count.CountMoves.{bit}
use Rattle.mark_core.proofs.Writing.Places.{region-length}
use Rattle.mark_core.proofs.Writing.RegionWrites.{cards-kept}
use Rattle.mark_core.proofs.Writing.Writes.{next_card-kept}
use Rattle.mark_core.proofs.World.WorldReading.{passes-counted}
use Rattle.mark_core.proofs.Blocks.BlocksStopped.{Taken, in-place, within, own-record, words-read}
use Rattle.mark_core.proofs.Blocks.BlocksWords.{statistic}
use Rattle.work_laws.specs.Scanning.{cleans}
use Rattle.work_laws.specs.Cleaning.{dirties, draws, begins_pass, is_dirty}

-- how many cards are dirty
abbrev dirty : List ℕ → ℕ
dirty cards = count_by is_dirty cards

abbrev CardsPaid : Core → SeatState → Step → Type 0
CardsPaid c s step = bit (cleans c s step) + dirty (words_left c s step).cards ≤ dirty (words_of c.shape c.words).cards + bit (dirties c s step)

-- the word of a card changes
card_set : (c : Core) (card v : ℕ) (i : ℕ) (s : SeatState) (step : Step) → Taken c i s step → card < card_count c.shape
    → dirty (set (words_of c.shape c.words).cards card v) + bit (eqb (get_or (words_of c.shape c.words).cards card 0) 1) ≡ dirty (words_of c.shape c.words).cards + bit (eqb v 1)
card_set c card v i s step t h =
    let cards : List ℕ = (words_of c.shape c.words).cards in
    let long : length cards ≡ card_count c.shape = region-length (region_sizes c.shape) 6 c.words (omega (arith, t.core.formed.words)) in
    sum_by-set (λ x. bit (is_dirty x)) cards card v 0 (omega (arith, long, h))

one_or : (b : Bool) → bit b + bit (not b) ≡ 1
one_or true = refl
one_or false = refl

-- what a step does to the cards
pub cards-paid : (c : Core) (i : ℕ) (s : SeatState) (step : Step) → Taken c i s step → CardsPaid c s step
cards-paid c i s (ClearCard card) t = omega (arith, card_set c card 0 i s (ClearCard card) t (in-place c i s (ClearCard card) t))
cards-paid c i s (DirtyCard card) t = omega (arith, card_set c card 1 i s (DirtyCard card) t (in-place c i s (DirtyCard card) t), one_or (eqb (get_or (words_of c.shape c.words).cards card 0) 1))
cards-paid c i s (WipeCard card) t = omega (arith, card_set c card 0 i s (WipeCard card) t (in-place c i s (WipeCard card) t))
cards-paid c i s (ReadCard card) t = omega (arith, ap (λ (w : Words). dirty w.cards) (words-read c i s (ReadCard card) t refl))
cards-paid c i s (CheckCard card) t = omega (arith, ap (λ (w : Words). dirty w.cards) (words-read c i s (CheckCard card) t refl))
cards-paid c i s step t = omega (arith, ap dirty (cards-kept c.shape s step (written c.shape s step (found c s step)) (words_of c.shape c.words) refl))

-- how many cards a pass may draw
abbrev of_pass : Shape → ℕ
of_pass sh = card_count sh + most_seats

abbrev DrawsPaid : Core → SeatState → Step → Type 0
DrawsPaid c s step = bit (draws c s step) + (of_pass c.shape - (words_left c s step).next_card) ≤ (of_pass c.shape - (words_of c.shape c.words).next_card) + of_pass c.shape * bit (begins_pass c s step)

-- the seat that draws is one of those that may
may_draw : (c : Core) (i : ℕ) (s : SeatState) → Taken c i s NextOfCards → 0 < card_readers c.seats
may_draw c i s t = passes-counted (λ (x : SeatState). x.below_card) c.seats i s (within c i s NextOfCards t) (ap (λ (x : SeatState). x.below_card) (own-record c i s NextOfCards s t) ∙ t.ok.1.0)

draw_card : (c : Core) (i : ℕ) (s : SeatState) → Taken c i s NextOfCards → DrawsPaid c s NextOfCards
draw_card c i s t =
    let n : ℕ = (words_of c.shape c.words).next_card in
    let room : (n + 1) % 18446744073709551616 ≡ n + 1 = omega (arith, t.core.sound.sweeping.cards_bounded, t.core.formed.shaped.cells) in
    omega (arith, room, may_draw c i s t, t.core.sound.sweeping.cards_bounded)

-- a counter that is reset is that of the cards, or another
reset_by : (k n : ℕ) (a b z : Bool) → (a ≡ true → b ≡ true → z ≡ true) → (k - cond a (cond b 0 n) n) ≤ (k - n) + k * bit z
reset_by k n true true z h = rw (h refl refl) (omega arith)
reset_by k n true false z h = omega arith
reset_by k n false b z h = omega arith

-- by which of the counters it is
only_by : (which : ℕ) (a b d : Bool) → (a ≡ true → eqb (3 + which) 3 ≡ true → eqb which 0 ≡ true) → (a ≡ false → 2 ≤ which) → (x : ℕ × ℕ) → eqb (cond {A = ℕ × ℕ} a (0, 3 + which) (cond {A = ℕ × ℕ} b (0, 4 + which) (cond {A = ℕ × ℕ} d (0, 5) (1, x.1)))).0 0 ≡ true
    → eqb (cond {A = ℕ × ℕ} a (0, 3 + which) (cond {A = ℕ × ℕ} b (0, 4 + which) (cond {A = ℕ × ℕ} d (0, 5) (1, x.1)))).1 3 ≡ true → eqb which 0 ≡ true
only_by which true b d first far x e f = first refl f
only_by which false true d first far x e f = absurd (true≢false (sym f ∙ ne_eqb (4 + which) 3 (λ g. omega (arith, far refl, g))))
only_by which false false true first far x e f = absurd (false≢true f)
only_by which false false false first far x e f = absurd (false≢true e)

-- only the counter of cards has this place
only_cards : (which : ℕ) → eqb (counter_at which).0 0 ≡ true → eqb (counter_at which).1 3 ≡ true → eqb which 0 ≡ true
only_cards which e f =
    only_by which (nat_lt which 2) (nat_lt which 7) (eqb which 7) (λ a g. eq-eqb which 0 (omega (arith, eqb-true (3 + which) 3 g))) (λ a. ltb-false which 2 a) (0, which - 8) e f

-- a statistic isn't the counter
no_counter : (w : Words) (which v : ℕ) → last_count ≤ which → which ≤ done_count → (put_word (counter_at which) v w).next_card ≡ w.next_card
no_counter w which v h g =
    let none : eqb (4 + which) 3 ≡ false = ne_eqb (4 + which) 3 (λ e. omega (arith, h, e)) in
    statistic (λ at. (put_word at v w).next_card ≡ w.next_card) which h g (rw none refl)

stat_stays : (c : Core) (i : ℕ) (s : SeatState) (which by : ℕ) (down : Bool) → Taken c i s (AddStat which by down) → (words_left c s (AddStat which by down)).next_card ≡ (words_of c.shape c.words).next_card
stat_stays c i s which by down t =
    let range = and_parts (nat_le last_count which) (nat_le which done_count) (and_parts _ _ t.ok.0).0 in
    no_counter (words_of c.shape c.words) which (written c.shape s (AddStat which by down) (found c s (AddStat which by down))) (leb-true last_count which range.0) (leb-true which done_count range.1)

-- what a step does to the counter of the pass
pub draws-paid : (c : Core) (i : ℕ) (s : SeatState) (step : Step) → Taken c i s step → DrawsPaid c s step
draws-paid c i s NextOfCards t = draw_card c i s t
draws-paid c i s (Reset which) t = omega (arith, reset_by (of_pass c.shape) (words_of c.shape c.words).next_card (eqb (counter_at which).0 0) (eqb (counter_at which).1 3) (eqb which 0) (only_cards which))
draws-paid c i s (AddStat which by down) t = omega (arith, stat_stays c i s which by down t)
draws-paid c i s (ReadStat which) t = omega (arith, ap (λ (w : Words). w.next_card) (words-read c i s (ReadStat which) t refl))
draws-paid c i s step t = omega (arith, next_card-kept c.shape s step (written c.shape s step (found c s step)) (words_of c.shape c.words) refl)
