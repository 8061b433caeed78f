-- While the world is stopped, a card that was cleaned has to be dirtied again only for a full packet or a store.
use Rattle.std.specs.Prelude.{ℕ, ◌≡◌, List, Bool, false, not, ◌&&◌, ◌==◌, Option, None, Some, slice_index, bit_and}
use Rattle.mark_core.specs.Layout.{words_of}
use Rattle.mark_core.specs.Bits.{complement}
use Rattle.mark_core.specs.Cards.{block_of_card}
use Rattle.mark_core.specs.Seats.{is_phase}
use Rattle.mark_core.specs.Laws.{IsCore, AllNumbersFit}
use Rattle.mark_core.specs.Steps.{Core}
use Rattle.mark_core.specs.declared.kinds.Event.{Event}
use Rattle.mark_core.specs.declared.kinds.Phase.TheVariants.{Drain}
use Rattle.mark_core.specs.declared.kinds.Step.TheVariants.{ReadAlloc}
use Rattle.mark_core.specs.declared.seat.Cleaning.{Cleaning}
use Rattle.work_laws.specs.Counting.{Sort, count_events}

-- the card that is cleaned has a marked cell of block b, whose allocation word lacks its bit
abbrev pub lacks_bits : Option Cleaning → ℕ → ℕ → Bool
lacks_bits None b word = false
lacks_bits (Some x) b word = x.known && (block_of_card x.card == b) && not (bit_and x.left (complement word) == 0)

-- a marked cell of a card that is cleaned is found unpublished in Drain, so that the card has to be dirtied again
abbrev pub redirties_in_drain : Sort
redirties_in_drain c s (ReadAlloc b) = is_phase (words_of c.shape c.words).phase Drain && lacks_bits s.cleaning b (slice_index (words_of c.shape c.words).allocs b)
redirties_in_drain c s step = false

-- over every run: none is
pub record DrainsStayClean : Type 0 where
  pub none : (c : Core) (es : List Event) → IsCore c → AllNumbersFit es → count_events redirties_in_drain es c ≡ 0
