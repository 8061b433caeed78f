-- Each white cell that a seat marks while it is alone is one fewer that it hasn't noted as marked, and each dirty card that it cleans is one fewer that it
-- hasn't noted as clean.
use Rattle.std.proofs.Common.{ℕ, ◌≡◌, ◌+◌, ◌<◌, ◌≤◌, ◌/◌, ◌%◌, ◌⊎◌, inl, inr, arith, refl, sym, ap, ◌∙◌, subst, Bool, true, false, cond, not, Option, None, Some, eqb-true}
use Rattle.std.specs.Prelude.{◌==◌}
use Rattle.std.proofs.lemmas.Bool.{and_parts, false≢true, ltb-true, ne_eqb}
use Rattle.mark_core.specs.Bits.{has_bit}
use Rattle.mark_core.specs.Cards.{block_cells}
use Rattle.mark_core.specs.Effects.{place, seat_after}
use Rattle.mark_core.specs.Layout.{card_count, words_of}
use Rattle.mark_core.specs.Notes.{is_gate, same_place}
use Rattle.mark_core.specs.Parts.{parts}
use Rattle.mark_core.specs.Places.{card_at, mark_at}
use Rattle.mark_core.specs.Steps.{AllTrue, Core}
use Rattle.mark_core.specs.declared.kinds.Event.{Event}
use Rattle.mark_core.specs.declared.kinds.Shape.{Shape}
use Rattle.mark_core.specs.declared.kinds.Step.{Step}
use Rattle.mark_core.specs.declared.kinds.Step.TheVariants.{ClearCard, ClearMarks, DirtyCard, ReadBlockMarks, ReadCard, ReadMarks, ReadStat, Reset, AddStat, SetMark, StoreNew, WipeCard, CheckCard}
use Rattle.mark_core.specs.declared.seat.SeatState.{SeatState}
use Rattle.mark_core.proofs.Count.CountMoves.{bit}
use Rattle.mark_core.proofs.Known.{Acted, acts}
use Rattle.gc_table.specs.Notes.{look}
use Rattle.gc_table.specs.Running.{IsSeen}
use Rattle.gc_table.specs.Taking.{after, Finds}
use Rattle.gc_table.specs.declared.view.View.{View}
use Rattle.gc_table.proofs.Noticing.{alone-stays, alone-steady, found-noted, is_load, known-here, known-step}
use Rattle.packet_pools.specs.Counts.{dirties, marks_white}
use Rattle.packet_pools.specs.OnlyTraced.{IsNotedMarked}
use Rattle.packet_pools.proofs.TracedSteps.{mark-keeps, marks-noted, place-again}
use Rattle.gc_cycle.specs.LeftToDrain.{cards_left, cells_left, cleans_dirty, dirty_left, lacks, unless_clean, white_left}
use Rattle.gc_cycle.specs.Lower.{traces_or_cleans}
use Rattle.gc_cycle.proofs.Ends.Funds.{Pays, sum-at, sum-grows, sum-most}
use Rattle.gc_cycle.proofs.Traced.{quiet}

-- the seat is alone
abbrev pub IsLone : View → Type 0
IsLone v = v.state.alone ≡ true

-- no step is of this sort
abbrev pub never_one : Step → ℕ → Bool
never_one step found = false

pub stays-lone : (v : View) (step : Step) (n : ℕ) → traces_or_cleans step ≡ true → IsLone v → IsLone (after step n v)
stays-lone v step n p a = alone-stays v.shape v.state step n (quiet step p) a

-- the condition of a step that found something held
pub was-allowed : (v : View) (step : Step) (n : ℕ) → (f : Finds step n v) → AllTrue (parts v.shape (words_of f.state.core.shape f.state.core.words) f.state.core.seats v.state step)
was-allowed v step n f =
    let c : Core = f.state.core in
    let e : Event = record { seat = f.index; step = step } in
    let r : (s : SeatState) × Acted c e s = acts c e f.whole.core f.allowed in
    let same : r.0 ≡ v.state = (let is : Some r.0 ≡ Some v.state = sym r.1.seat ∙ f.agrees.seat in cc) in
    subst (λ (sh : Shape). AllTrue (parts sh (words_of c.shape c.words) c.seats v.state step)) (sym f.agrees.shape)
    (subst (λ (s : SeatState). AllTrue (parts c.shape (words_of c.shape c.words) c.seats s step)) same r.1.ok)

-- a note stays if the step reads its word, or writes another
pub note-kept : (v : View) (step : Step) (n : ℕ) (at : ℕ × ℕ) (m : ℕ) → traces_or_cleans step ≡ true → IsSeen step n v → IsLone v → is_gate at ≡ false → (same_place (place v.shape v.state step) at ≡ false) ⊎ (is_load step ≡ true) → look at v.known ≡ Some m → look at (after step n v).known ≡ Some m
note-kept v step n at m p s a g spared h = (known-step v step n at m spared s (alone-steady (seat_after v.shape v.state step n) at m g (stays-lone v step n p a)) h).0

-- the cell stays noted as marked
mark-noted : (v : View) (step : Step) (n c : ℕ) → traces_or_cleans step ≡ true → IsSeen step n v → IsLone v → (same_place (place v.shape v.state step) (mark_at (c / block_cells)) ≡ false) ⊎ (is_load step ≡ true) → IsNotedMarked v c → IsNotedMarked (after step n v) c
mark-noted v step n c p s a spared k = (k.0, note-kept v step n (mark_at (c / block_cells)) k.0 p s a refl spared k.1, k.2)

mark-stays : (v : View) (step : Step) (n c : ℕ) → traces_or_cleans step ≡ true → IsSeen step n v → IsLone v → IsNotedMarked v c → IsNotedMarked (after step n v) c
mark-stays v (SetMark y) n c p s a k = mark-keeps v y n c (s.found refl) a k
mark-stays v (ReadMarks b) n c p s a k = mark-noted v (ReadMarks b) n c p s a (inr refl) k
mark-stays v (ReadStat which) n c p s a k = mark-noted v (ReadStat which) n c p s a (inr refl) k
mark-stays v ClearMarks n c p s a k = absurd (false≢true p)
mark-stays v ReadBlockMarks n c p s a k = absurd (false≢true p)
mark-stays v (Reset which) n c p s a k = absurd (false≢true p)
mark-stays v (AddStat which by down) n c p s a k = absurd (false≢true p)
mark-stays v (StoreNew cell part word) n c p s a k = absurd (false≢true p)
mark-stays v step n c p s a k = mark-noted v step n c p s a (inl refl) k

by_bit : (b : Bool) → cond b 0 1 ≤ 1
by_bit true = omega arith
by_bit false = omega arith

pub lacks-most : (o : Option ℕ) (i : ℕ) → lacks o i ≤ 1
lacks-most None i = omega arith
lacks-most (Some n) i = by_bit (has_bit n i)

lacks-none : (o : Option ℕ) (n i : ℕ) → o ≡ Some n → has_bit n i ≡ true → lacks o i ≡ 0
lacks-none o n i e h = ap (λ x. lacks x i) e ∙ ap (λ (b : Bool). cond b 0 1) h

lacks-fewer : (o q : Option ℕ) (i : ℕ) → ((n : ℕ) → o ≡ Some n → has_bit n i ≡ true → lacks q i ≡ 0) → lacks q i ≤ lacks o i
lacks-fewer None q i h = lacks-most q i
lacks-fewer (Some n) q i h = by_word (has_bit n i) refl
  where
    by_word : (b : Bool) → has_bit n i ≡ b → lacks q i ≤ cond b 0 1
    by_word true e = let none = h n refl e in omega (arith, none)
    by_word false e = lacks-most q i

-- if no mark is lost, no cell is white again
pub white-most : (v w : View) (c : ℕ) → (IsNotedMarked v c → IsNotedMarked w c) → white_left w c ≤ white_left v c
white-most v w c h =
    lacks-fewer (look (mark_at (c / block_cells)) v.known) (look (mark_at (c / block_cells)) w.known) (c % block_cells)
    (λ n e b. let k = h (n, e, b) in lacks-none (look (mark_at (c / block_cells)) w.known) k.0 (c % block_cells) k.1 k.2)

white-step : (v : View) (step : Step) (n : ℕ) → traces_or_cleans step ≡ true → IsSeen step n v → IsLone v → (c : ℕ) → white_left (after step n v) c ≤ white_left v c
white-step v step n p s a c = white-most v (after step n v) c (mark-stays v step n c p s a)

no-mark : (v : View) (step : Step) (n : ℕ) → traces_or_cleans step ≡ true → IsSeen step n v → IsLone v → cells_left (after step n v) ≤ cells_left v
no-mark v step n p s a = sum-most (white_left v) (white_left (after step n v)) 0 v.shape.cells (λ c l h. white-step v step n p s a c)

lacks-it : (o : Option ℕ) (n i : ℕ) → ((m : ℕ) → o ≡ Some m → n ≡ m) → has_bit n i ≡ false → lacks o i ≡ 1
lacks-it None n i h e = refl
lacks-it (Some m) n i h e = ap (λ (b : Bool). cond b 0 1) (ap (λ k. has_bit k i) (sym (h m refl)) ∙ e)

marks-one : (v : View) (y n : ℕ) → IsSeen (SetMark y) n v → IsLone v → (b : Bool) → has_bit n (y % block_cells) ≡ b → bit (not b) + cells_left (after (SetMark y) n v) ≤ cells_left v
marks-one v y n s a true e = let most = no-mark v (SetMark y) n refl s a in omega (arith, most)
marks-one v y n s a false e =
    let f : Finds (SetMark y) n v = s.found refl in
    let w : View = after (SetMark y) n v in
    let below : y < v.shape.cells = ltb-true y v.shape.cells (and_parts _ _ (was-allowed v (SetMark y) n f).0).0 in
    let k : IsNotedMarked w y = marks-noted v y n a in
    let gone : white_left w y ≡ 0 = lacks-none (look (mark_at (y / block_cells)) w.known) k.0 (y % block_cells) k.1 k.2 in
    let was : white_left v y ≡ 1 = lacks-it (look (mark_at (y / block_cells)) v.known) n (y % block_cells) (λ m h. found-noted v (SetMark y) n m (mark_at (y / block_cells)) f (place-again (mark_at (y / block_cells))) h) e in
    let all = sum-at (white_left v) (white_left w) y 1 0 0 v.shape.cells (omega arith) (omega (arith, below)) (omega (arith, gone, was)) (λ c d. white-step v (SetMark y) n refl s a c) in
    omega (arith, all)

-- a white cell that is marked is one fewer
pub cells-pay : Pays cells_left marks_white never_one IsLone
cells-pay v (SetMark y) n p s a = let one = marks-one v y n s a (has_bit n (y % block_cells)) refl in (stays-lone v (SetMark y) n p a, omega (arith, one))
cells-pay v step n p s a = let most = no-mark v step n p s a in (stays-lone v step n p a, omega (arith, most))

-- the card is noted as clean
abbrev pub IsClean : View → ℕ → Type 0
IsClean v card = look (card_at card) v.known ≡ Some 0

-- the step dirties this card
abbrev pub dirties_this : Step → ℕ → Bool
dirties_this (DirtyCard k) card = k == card
dirties_this step card = false

clears-this : (v : View) (k n card : ℕ) → IsSeen (ClearCard k) n v → IsLone v → IsClean v card → (b : Bool) → (k == card) ≡ b → IsClean (after (ClearCard k) n v) card
clears-this v k n card s a c true e = (known-here v (ClearCard k) n (card_at card) e (alone-steady (seat_after v.shape v.state (ClearCard k) n) (card_at card) 0 refl (stays-lone v (ClearCard k) n refl a))).0
clears-this v k n card s a c false e = note-kept v (ClearCard k) n (card_at card) 0 refl s a refl (inl e) c

-- a card that isn't dirtied stays clean
pub card-step : (v : View) (step : Step) (n : ℕ) → traces_or_cleans step ≡ true → IsSeen step n v → IsLone v → (card : ℕ) → dirties_this step card ≡ false → IsClean v card → IsClean (after step n v) card
card-step v (DirtyCard k) n p s a card other c = note-kept v (DirtyCard k) n (card_at card) 0 p s a refl (inl other) c
card-step v (ClearCard k) n p s a card other c = clears-this v k n card s a c (k == card) refl
card-step v (ReadCard k) n p s a card other c = note-kept v (ReadCard k) n (card_at card) 0 p s a refl (inr refl) c
card-step v (ReadStat which) n p s a card other c = note-kept v (ReadStat which) n (card_at card) 0 p s a refl (inr refl) c
card-step v (CheckCard k) n p s a card other c = absurd (false≢true p)
card-step v (WipeCard k) n p s a card other c = absurd (false≢true p)
card-step v (Reset which) n p s a card other c = absurd (false≢true p)
card-step v (AddStat which by down) n p s a card other c = absurd (false≢true p)
card-step v (StoreNew cell part word) n p s a card other c = absurd (false≢true p)
card-step v step n p s a card other c = note-kept v step n (card_at card) 0 p s a refl (inl refl) c

pub unless-most : (o : Option ℕ) → unless_clean o ≤ 1
unless-most None = omega arith
unless-most (Some n) = by_bit (n == 0)

pub unless-none : (o : Option ℕ) → o ≡ Some 0 → unless_clean o ≡ 0
unless-none o e = ap unless_clean e

unless-fewer : (o q : Option ℕ) → (o ≡ Some 0 → q ≡ Some 0) → unless_clean q ≤ unless_clean o
unless-fewer None q h = unless-most q
unless-fewer (Some n) q h = by_word (n == 0) refl
  where
    by_word : (b : Bool) → (n == 0) ≡ b → unless_clean q ≤ cond b 0 1
    by_word true e = let none = unless-none q (h (ap Some (eqb-true n 0 e))) in omega (arith, none)
    by_word false e = unless-most q

-- if no card is dirtied, none is left to clean again
pub dirty-most : (v w : View) (card : ℕ) → (IsClean v card → IsClean w card) → dirty_left w card ≤ dirty_left v card
dirty-most v w card h = unless-fewer (look (card_at card) v.known) (look (card_at card) w.known) h

pub unless-dirty : (o : Option ℕ) (n : ℕ) → n ≡ 1 → ((m : ℕ) → o ≡ Some m → n ≡ m) → unless_clean o ≡ 1
unless-dirty None n one h = refl
unless-dirty (Some m) n one h = ap (λ (b : Bool). cond b 0 1) (ne_eqb m 0 (λ z. let is = h m refl in omega (arith, z, is, one)))

cleans-one : (v : View) (k n : ℕ) → IsSeen (ClearCard k) n v → IsLone v → (b : Bool) → (n == 1) ≡ b → bit b + cards_left (after (ClearCard k) n v) ≤ cards_left v
cleans-one v k n s a false e =
    let most = sum-most (dirty_left v) (dirty_left (after (ClearCard k) n v)) 0 (card_count v.shape) (λ c l h. dirty-most v (after (ClearCard k) n v) c (card-step v (ClearCard k) n refl s a c refl)) in
    omega (arith, most)
cleans-one v k n s a true e =
    let f : Finds (ClearCard k) n v = s.found refl in
    let w : View = after (ClearCard k) n v in
    let below : k < card_count v.shape = ltb-true k (card_count v.shape) (and_parts _ _ (and_parts _ _ (was-allowed v (ClearCard k) n f).0).0).0 in
    let clean : IsClean w k = (known-here v (ClearCard k) n (card_at k) (place-again (card_at k)) (alone-steady (seat_after v.shape v.state (ClearCard k) n) (card_at k) 0 refl (stays-lone v (ClearCard k) n refl a))).0 in
    let gone : dirty_left w k ≡ 0 = unless-none (look (card_at k) w.known) clean in
    let was : dirty_left v k ≡ 1 = unless-dirty (look (card_at k) v.known) n (eqb-true n 1 e) (λ m h. found-noted v (ClearCard k) n m (card_at k) f (place-again (card_at k)) h) in
    let all = sum-at (dirty_left v) (dirty_left w) k 1 0 0 (card_count v.shape) (omega arith) (omega (arith, below)) (omega (arith, gone, was)) (λ c d. dirty-most v w c (card-step v (ClearCard k) n refl s a c refl)) in
    omega (arith, all)

-- a dirty card that is cleaned is one fewer, and a card that is dirtied may be one more
pub cards-pay : Pays cards_left cleans_dirty dirties IsLone
cards-pay v (ClearCard k) n p s a = let one = cleans-one v k n s a (n == 1) refl in (stays-lone v (ClearCard k) n p a, omega (arith, one))
cards-pay v (DirtyCard k) n p s a =
    let w : View = after (DirtyCard k) n v in
    let here = unless-most (look (card_at k) w.known) in
    let most = sum-grows (dirty_left v) (dirty_left w) k 0 (card_count v.shape) (omega (arith, here)) (λ c d. dirty-most v w c (card-step v (DirtyCard k) n p s a c (ne_eqb k c (λ e. d (sym e))))) in
    (stays-lone v (DirtyCard k) n p a, omega (arith, most))
cards-pay v step n p s a =
    let most = sum-most (dirty_left v) (dirty_left (after step n v)) 0 (card_count v.shape) (λ c l h. dirty-most v (after step n v) c (card-step v step n p s a c refl)) in
    (stays-lone v step n p a, omega (arith, most))
