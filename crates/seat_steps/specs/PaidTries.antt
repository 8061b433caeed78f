-- How much is counted as traced to pay for caches, by what tries to get one came to.
use Rattle.std.specs.Prelude.{ℕ, ◌≡◌, ◌+◌, ◌-◌, ◌^◌, ◌⊎◌, min, Option, Some}
use Rattle.gc_table.specs.declared.view.View.{View}
use Rattle.gc_cycle.specs.declared.counts.Refill.{Refill}
use Rattle.gc_cycle.specs.declared.counts.Refill.TheVariants as refills
use Rattle.cache_refills.specs.Pieces.{refill_of}
use Rattle.cache_refills.specs.declared.pieces.Piece.{Piece}
use Rattle.mutator_ops.specs.Few.{AtMost}
use Rattle.seat_turns.specs.Standing.{flush_steps}
use Rattle.seat_steps.specs.Filling.{TriesOnce}
use Rattle.seat_steps.specs.Seeking.{SeeksOnce}

-- a count of 64 bits, with this many more
abbrev pub counts_more : ℕ → ℕ → ℕ
counts_more count n = min (count + n) (2 ^ 64 - 1)

-- the count after a try that came to this: if it got a cache, with the objects that were traced to pay for it
abbrev pub counts_after : Option Refill → ℕ → ℕ
counts_after (Some (refills.Cache h paid)) count = counts_more count paid.done
counts_after tried count = count

-- this many steps were taken at most, then a try to get a cell was made, and then this many steps; what it paid was counted
pub record CountsTry (earlier later before after : ℕ) (v w : View) : Type 0 where
  pub tried : Option Refill
  pub tries : TriesOnce earlier later tried v w
  pub counts : after ≡ counts_after tried before

-- this many steps were taken at most in all, and nothing was counted; or a try to get a cell was made, and what it paid was counted
abbrev pub CountsBeside : ℕ → ℕ → ℕ → ℕ → ℕ → View → View → Type 0
CountsBeside most earlier later before after v w = (AtMost most v w × (after ≡ before)) ⊎ CountsTry earlier later before after v w

-- so on the way to a new object
abbrev pub CountsMaking : ℕ → ℕ → View → View → Type 0
CountsMaking before after v w = CountsBeside (flush_steps v + (v.shape.fields + 11)) (flush_steps v + 5) (v.shape.fields + 11) before after v w

-- and on the way to a free cell
abbrev pub CountsComing : ℕ → ℕ → View → View → Type 0
CountsComing before after v w = CountsBeside (flush_steps v + 8) (flush_steps v + 5) 8 before after v w

-- a piece of a search for a cell was made, and what it paid was counted
pub record CountsPiece (earlier later from most before after : ℕ) (v w : View) : Type 0 where
  pub piece : Piece
  pub seeks : SeeksOnce earlier (AtMost later) from most piece v w
  pub counts : after ≡ counts_after (refill_of piece) before

-- nothing was done, or a piece was made
abbrev pub CountsRefill : ℕ → ℕ → ℕ → ℕ → View → View → Type 0
CountsRefill from most before after v w = ((w ≡ v) × (after ≡ before)) ⊎ CountsPiece (flush_steps v + 3) 8 from most before after v w
