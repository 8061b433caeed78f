-- Which cells the sweep keeps if no seat has made a cell that isn't published, and how this stays when a stretch is taken, and when a block is swept or put down.
use Rattle.std.proofs.Common.{ℕ, zero, suc, ◌≡◌, ◌+◌, ◌/◌, ◌<◌, ◌≤◌, List, set, get_or, length, arith, refl, sym, ap, ◌∙◌, Bool, true, false, not, ◌&&◌, cond, eqb, Option, Some, None, ⊎_elim}
use Rattle.std.specs.Prelude.{nat_lt, bit_and, IsFalse}
use Rattle.std.specs.List.{list_any, All}
use Rattle.std.specs.Int.{bit_at}
use Rattle.std.proofs.lemmas.Bool.{cases_Bool, cases_lt, and_left, eqb-true, eq-eqb, ne_eqb, lt-ltb, le-ltb, true≢false}
use Rattle.std.proofs.lemmas.Nat.Bits.{bit_at_and, bit_at-lt}
use Rattle.std.proofs.lemmas.List.{length-set, get_or-set_same}
use Rattle.std.proofs.lemmas.List.Folds.{list_any_none, list_any_at}
use Rattle.mark_core.specs.Bits.{has_bit, cell_bit}
use Rattle.mark_core.specs.Layout.{block_count}
use Rattle.mark_core.specs.Seats.{in_stretch}
use Rattle.mark_core.specs.Cells.{is_unswept, is_swept_block, used_by, in_use, is_kept}
use Rattle.mark_core.specs.Steps.SweepSteps.{untouched, stretch_end}
use Rattle.mark_core.proofs.Blocks.BlocksStopped.{Others, all-set, any-alone, any-same, or-false}
use Rattle.mark_core.proofs.Blocks.BlocksStretch.{AreApart, in-from, out-from, first-apart, unswept-unstored, unswept-first}
use Rattle.mark_core.proofs.Basics.{not-not}
use Rattle.mark_core.specs.declared.kinds.Shape.{Shape}
use Rattle.mark_core.specs.declared.seat.BlockState.{BlockState}
use Rattle.std.proofs.lemmas.List.Elements.{All-map}
use Rattle.mark_core.specs.Views.{Maker, standings, makers, maker_of}
use Rattle.mark_core.specs.Rules.WorldRules.{World}
use Rattle.mark_core.proofs.Used.UsedSeats.{no-used}
use Rattle.mark_core.specs.declared.seat.SeatState.{SeatState}

-- a cell is spared if it is published in a swept block, or marked in another
abbrev pub is_spared : ℕ → List (Option BlockState) → List ℕ → List ℕ → ℕ → Bool
is_spared nb bs allocs marks x = cond (is_swept_block nb bs (x / 64)) (cell_bit allocs x) (cell_bit marks x)

pub spared-same : (nb nb' : ℕ) (bs bs' : List (Option BlockState)) (allocs marks : List ℕ) (x : ℕ) → is_swept_block nb' bs' (x / 64) ≡ is_swept_block nb bs (x / 64) → is_spared nb' bs' allocs marks x ≡ is_spared nb bs allocs marks x
spared-same nb nb' bs bs' allocs marks x e = rw e refl

-- a block of which no seat has the bits still to store
same_swept : (nb b : ℕ) (bs bs' : List (Option BlockState)) → list_any (is_unswept b) bs' ≡ list_any (is_unswept b) bs → is_swept_block nb bs' b ≡ is_swept_block nb bs b
same_swept nb b bs bs' e = rw e refl

never : (b : Bool) → (b && false) ≡ false
never true = refl
never false = refl

zero_bit : (n : ℕ) → n < 2 → eqb n 1 ≡ false → n ≡ 0
zero_bit zero h e = refl
zero_bit (suc zero) h e = absurd (true≢false e)
zero_bit (suc (suc n)) h e = absurd (omega (arith, h))

module _ (sh : Shape) (nb b : ℕ) (bs : List (Option BlockState)) (i : ℕ) (h : i < length bs) where
  stretch : BlockState
  stretch = untouched nb (stretch_end sh nb)

  -- what was handed out before stays as it was
  before_taken : get_or bs i None ≡ None → b < nb → is_swept_block (nb + sh.stretch) (set bs i (Some stretch)) b ≡ is_swept_block nb bs b
  unfolding stretch
  before_taken is l =
      let own : is_unswept b (Some stretch) ≡ false = unswept-unstored b stretch refl ∙ out-from b stretch (λ a u. absurd (omega (arith, a, l))) in
      let any : list_any (is_unswept b) (set bs i (Some stretch)) ≡ list_any (is_unswept b) bs = any-same (is_unswept b) bs i (Some stretch) None h (own ∙ sym (ap (is_unswept b) is)) in
      rw (any, lt-ltb b (nb + sh.stretch) (omega (arith, l)), lt-ltb b nb l) refl

  -- what is handed out now isn't swept yet
  taken_now : nb ≤ b → b < stretch_end sh nb → is_swept_block (nb + sh.stretch) (set bs i (Some stretch)) b ≡ false
  unfolding stretch
  taken_now l u =
      let own : is_unswept b (Some stretch) ≡ true = unswept-unstored b stretch refl ∙ in-from b stretch l u in
      let here : is_unswept b (get_or (set bs i (Some stretch)) i None) ≡ true = rw (get_or-set_same bs i (Some stretch) None h) own in
      let any : list_any (is_unswept b) (set bs i (Some stretch)) ≡ true = list_any_at (is_unswept b) (set bs i (Some stretch)) i None (omega (arith, h, length-set bs i (Some stretch))) here in
      rw any (never (nat_lt b (nb + sh.stretch)))

-- the next stretch is taken in hand, and isn't swept yet
pub swept-taken : (sh : Shape) (nb b : ℕ) (bs : List (Option BlockState)) (i : ℕ) → b < block_count sh → i < length bs → get_or bs i None ≡ None
    → is_swept_block (nb + sh.stretch) (set bs i (Some (untouched nb (stretch_end sh nb)))) b ≡ is_swept_block nb bs b
unfolding stretch
swept-taken sh nb b bs i g h is =
    ⊎_elim
    (λ (l : b < nb). before_taken sh nb b bs i h is l)
    (λ (l : nb ≤ b).
    let none : is_swept_block nb bs b ≡ false = rw (le-ltb b nb l) refl in
    ⊎_elim
    (λ (u : b < nb + sh.stretch). taken_now sh nb b bs i h l (omega (arith, u, g)) ∙ sym none)
    (λ (u : nb + sh.stretch ≤ b). rw (le-ltb b (nb + sh.stretch) u, le-ltb b nb l) refl)
    (cases_lt b (nb + sh.stretch)))
    (cases_lt b nb)

-- all blocks were taken
pub swept-past : (nb st b : ℕ) (bs : List (Option BlockState)) → b < nb → is_swept_block (nb + st) bs b ≡ is_swept_block nb bs b
swept-past nb st b bs h = rw (lt-ltb b (nb + st) (omega (arith, h)), lt-ltb b nb h) refl

-- a block in hand isn't unswept by another seat, which has other blocks or none
other_unswept : (x : BlockState) (y : Option BlockState) → x.block < x.until → AreApart (Some x) y → is_unswept x.block y ≡ false
other_unswept x None s a = refl
other_unswept x (Some y) s a = and_left (in_stretch x.block (Some y)) (not (eqb y.block x.block && y.stored)) (first-apart x y a s)

-- the block of seat i, which is counted, is swept once its bits were stored, and not before
pub swept-own : (nb : ℕ) (bs : List (Option BlockState)) (i : ℕ) (x : BlockState) → i < length bs → ((d : Option BlockState) → get_or bs i d ≡ Some x) → Others i (AreApart (Some x)) bs → x.block < x.until → x.block < nb → is_swept_block nb bs x.block ≡ x.stored
swept-own nb bs i x h is apart s l =
    let any : list_any (is_unswept x.block) bs ≡ is_unswept x.block (Some x) = any-alone (is_unswept x.block) bs i (Some x) h is (λ j d k n. other_unswept x (get_or bs j d) s (apart j d k n)) in
    rw (any, lt-ltb x.block nb l, unswept-first x s) (not-not x.stored)

-- once seat i has stored its block, or has it no more, the block is swept
pub swept-done : (nb : ℕ) (bs : List (Option BlockState)) (i : ℕ) (x : BlockState) (y : Option BlockState) → Others i (AreApart (Some x)) bs → is_unswept x.block y ≡ false → x.block < x.until → x.block < nb → is_swept_block nb (set bs i y) x.block ≡ true
swept-done nb bs i x y apart e s l =
    let any : list_any (is_unswept x.block) (set bs i y) ≡ false = list_any_none (is_unswept x.block) (set bs i y) (all-set (λ z. is_unswept x.block z ≡ false) bs i y (λ j d k n. other_unswept x (get_or bs j d) s (apart j d k n)) e) in
    rw (any, lt-ltb x.block nb l) refl

-- any other block stays as it was
pub swept-other : (nb b : ℕ) (bs : List (Option BlockState)) (i : ℕ) (y : Option BlockState) → i < length bs → is_unswept b y ≡ is_unswept b (get_or bs i None) → is_swept_block nb (set bs i y) b ≡ is_swept_block nb bs b
swept-other nb b bs i y h e = same_swept nb b bs (set bs i y) (any-same (is_unswept b) bs i y None h e)

-- a bit of what survives
pub bit-within : (a m i : ℕ) → (has_bit m i ≡ true → has_bit a i ≡ true) → has_bit (bit_and a m) i ≡ has_bit m i
bit-within a m i h =
    ⊎_elim
    (λ (e : has_bit m i ≡ true).
    let both : bit_at (bit_and a m) i ≡ 1 = bit_at_and a m i ∙ rw (eqb-true (bit_at a i) 1 (h e), eqb-true (bit_at m i) 1 e) refl in
    eq-eqb _ _ both ∙ sym e)
    (λ (e : has_bit m i ≡ false).
    let none : bit_at m i ≡ 0 = zero_bit (bit_at m i) (bit_at-lt m i) e in
    let one : bit_at (bit_and a m) i ≡ 0 = bit_at_and a m i ∙ rw none (omega arith) in
    ne_eqb _ _ (λ z. omega (arith, one, z)) ∙ sym e)
    (cases_Bool (has_bit m i))

-- While the world is stopped no seat has made a cell that isn't published, so a cell is in use if its bit is set.
-- no seat has made a cell that isn't published
abbrev pub NoneUsed : List SeatState → Type 0
NoneUsed seats = (x : ℕ) → list_any (used_by x) (makers seats) ≡ false

pub none-used : (sh : Shape) (world help : ℕ) (seats : List SeatState) → World sh world help (standings seats) seats → All (λ (s : SeatState). IsFalse s.active) seats → NoneUsed seats
none-used sh world help seats k still x =
    list_any_none (used_by x) (makers seats)
    (All-map (λ (m : Maker). used_by x m ≡ false) maker_of seats (λ j d h. no-used (get_or seats j d).cache x (k.inactive_calm j d h (still j d h)).no_used_cell))

-- then a cell is in use if it is published
pub use-published : (allocs : List ℕ) (seats : List SeatState) (x : ℕ) → NoneUsed seats → in_use allocs (makers seats) x ≡ cell_bit allocs x
use-published allocs seats x n = rw (n x) (or-false (cell_bit allocs x))

-- if no seat has a used cell, the sweep keeps just the cells that it spares
pub kept-spared : (nb : ℕ) (bs : List (Option BlockState)) (allocs marks : List ℕ) (seats : List SeatState) (x : ℕ) → NoneUsed seats → is_kept nb bs allocs marks (makers seats) x ≡ is_spared nb bs allocs marks x
kept-spared nb bs allocs marks seats x n = rw (use-published allocs seats x n) refl
