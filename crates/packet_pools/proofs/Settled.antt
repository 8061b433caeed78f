-- A cleaning while cells of its card are scanned: no debt comes up, and a cell that is scanned isn't left.
use Rattle.std.proofs.Common.{ℕ, ◌≡◌, ◌/◌, ◌%◌, ◌^◌, refl, sym, ap, ◌∙◌, Bool, true, false, not, cond, Some, None, Option, eqb, eqb-true, bit_and}
use Rattle.std.specs.Prelude.{◌||◌, ◌==◌}
use Rattle.std.specs.Int.Bits.{and_self}
use Rattle.std.proofs.lemmas.Nat.{and_assoc}
use Rattle.std.proofs.lemmas.Bool.{true≢false, false≢true, or_parts, false_from_ne_true, true_from_ne_false}
use Rattle.mark_core.specs.Bits.{without_bit, complement}
use Rattle.mark_core.specs.Seats.{cleaning_left}
use Rattle.mark_core.specs.Steps.ColourSteps.{redirty_off, without_cell}
use Rattle.mark_core.specs.declared.seat.Cleaning.{Cleaning}
use Rattle.packet_pools.specs.Scanning.{Settles, without_redirty, owes_redirty}
use Rattle.mark_core.specs.Cards.{block_cells, block_of_card}

pub settles-same : (x : Option Cleaning) → Settles x x
settles-same x = record { same = refl; debt = λ d. d }

pub settles-join : (x y z : Option Cleaning) → Settles x y → Settles y z → Settles x z
settles-join x y z a b = record { same = b.same ∙ a.same; debt = λ d. a.debt (b.debt d) }

-- a card that is dirtied
pub settles-dirty : (x : Option Cleaning) (card : ℕ) → Settles x (redirty_off x card)
settles-dirty None card = settles-same None
settles-dirty (Some x) card = by_card (eqb x.card card)
  where
    by_card : (b : Bool) → Settles (Some x) (Some (cond b (record x { redirty = false }) x))
    by_card true = record { same = refl; debt = λ d. absurd (false≢true d) }
    by_card false = settles-same (Some x)

settled-without : (x : Option Cleaning) (c : ℕ) → without_redirty (without_cell x c) ≡ without_cell (without_redirty x) c
settled-without None c = refl
settled-without (Some x) c = by_block (eqb (block_of_card x.card) (c / block_cells))
  where
    less : Cleaning
    less = record x { left = without_bit x.left (c % block_cells); published = without_bit x.published (c % block_cells) }

    by_block : (b : Bool) → without_redirty (Some (cond b less x)) ≡ Some (cond b (record less { redirty = false }) (record x { redirty = false }))
    by_block true = refl
    by_block false = refl

owes-without : (x : Option Cleaning) (c : ℕ) → owes_redirty (without_cell x c) ≡ owes_redirty x
owes-without None c = refl
owes-without (Some x) c = by_block (eqb (block_of_card x.card) (c / block_cells))
  where
    by_block : (b : Bool) → owes_redirty (Some (cond b (record x { left = without_bit x.left (c % block_cells); published = without_bit x.published (c % block_cells) }) x)) ≡ x.redirty
    by_block true = refl
    by_block false = refl

-- a cell that is no longer left
pub settles-without : (x y : Option Cleaning) (c : ℕ) → Settles x y → Settles (without_cell x c) (without_cell y c)
settles-without x y c s =
    record {
      same = settled-without y c ∙ (ap (λ z. without_cell z c) s.same ∙ sym (settled-without x c));
      debt = λ d. owes-without x c ∙ s.debt (sym (owes-without y c) ∙ d);
    }

bit-twice : (w m : ℕ) → bit_and (bit_and w m) m ≡ bit_and w m
bit-twice w m = and_assoc m w m ∙ ap (bit_and w) (and_self m)

-- it can't be left less
pub without-twice : (x : Option Cleaning) (c : ℕ) → without_cell (without_cell x c) c ≡ without_cell x c
without-twice None c = refl
without-twice (Some x) c = by_block (eqb (block_of_card x.card) (c / block_cells)) refl
  where
    less : Cleaning
    less = record x { left = without_bit x.left (c % block_cells); published = without_bit x.published (c % block_cells) }

    by_block : (b : Bool) → eqb (block_of_card x.card) (c / block_cells) ≡ b → without_cell (Some (cond b less x)) c ≡ Some (cond b less x)
    by_block true e =
        ap (λ (d : Bool). Some (cond d (record less { left = without_bit less.left (c % block_cells); published = without_bit less.published (c % block_cells) }) less)) e
        ∙ (λ i. Some (record less { left = bit-twice x.left (complement (2 ^ (c % block_cells))) i; published = bit-twice x.published (complement (2 ^ (c % block_cells))) i }))
    by_block false e = ap (λ (d : Bool). Some (cond d less x)) e

left-settled : (x : Option Cleaning) → cleaning_left x ≡ (cleaning_left (without_redirty x) || owes_redirty x)
left-settled None = refl
left-settled (Some x) = by_debt (not x.known || not (x.left == 0)) x.redirty
  where
    by_debt : (a b : Bool) → (a || b) ≡ (a || false || b)
    by_debt true b = refl
    by_debt false b = refl

or_false : (a b : Bool) → a ≡ false → b ≡ false → (a || b) ≡ false
or_false a b e f = λ i. e i || f i

-- a cleaning with nothing left stays so
pub settles-left : (x y : Option Cleaning) → Settles x y → cleaning_left x ≡ false → cleaning_left y ≡ false
settles-left x y s e =
    let b = or_parts (cleaning_left (without_redirty x)) (owes_redirty x) (sym (left-settled x) ∙ e) in
    left-settled y
    ∙ or_false (cleaning_left (without_redirty y)) (owes_redirty y) (ap cleaning_left s.same ∙ b.0) (false_from_ne_true (owes_redirty y) (λ d. true≢false (sym (s.debt d) ∙ b.1)))

pub without-left : (x : Option Cleaning) (c : ℕ) → cleaning_left x ≡ false → cleaning_left (without_cell x c) ≡ false
without-left None c e = e
without-left (Some x) c e = by_block (eqb (block_of_card x.card) (c / block_cells))
  where
    parts : ((not x.known || not (x.left == 0)) ≡ false) × (x.redirty ≡ false)
    parts = or_parts (not x.known || not (x.left == 0)) x.redirty e

    none : x.left ≡ 0
    none = eqb-true x.left 0 (true_from_ne_false (x.left == 0) (λ f. true≢false (ap not (sym f) ∙ (or_parts (not x.known) (not (x.left == 0)) parts.0).1)))

    by_block : (b : Bool) → cleaning_left (Some (cond b (record x { left = without_bit x.left (c % block_cells); published = without_bit x.published (c % block_cells) }) x)) ≡ false
    by_block true = ap (λ n. not x.known || not (without_bit n (c % block_cells) == 0) || x.redirty) none ∙ (ap (λ n. not x.known || not (n == 0) || x.redirty) (sym none) ∙ e)
    by_block false = e
