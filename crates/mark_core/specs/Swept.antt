-- What a sweep leaves of the marks: none in a block that was handed out and that no seat has in its stretch any more.
use Rattle.std.specs.Prelude.{ℕ, ◌≡◌, ◌<◌, List, ◌||◌, IsTrue, IsFalse, Option, slice_index}
use Rattle.std.specs.List.{All}
use Rattle.mark_core.specs.Shapes.{EachBlock}
use Rattle.mark_core.specs.Layout.{words_of}
use Rattle.mark_core.specs.Seats.{is_phase, in_stretch}
use Rattle.mark_core.specs.Views.{blocks}
use Rattle.mark_core.specs.Steps.{Core}
use Rattle.mark_core.specs.declared.kinds.Shape.{Shape}
use Rattle.mark_core.specs.declared.kinds.Phase.TheVariants.{Sweep, Clear}
use Rattle.mark_core.specs.declared.seat.BlockState.{BlockState}

-- no seat has block b in its stretch
abbrev pub NoneHas : ℕ → List (Option BlockState) → Type 0
NoneHas b bs = All (λ x. IsFalse (in_stretch b x)) bs

-- blocks are handed out in Sweep and in Clear
abbrev pub IsSweepingPhase : ℕ → Type 0
IsSweepingPhase phase = IsTrue (is_phase phase Sweep || is_phase phase Clear)

-- the blocks that are done have no mark
pub record IsSwept (sh : Shape) (phase next_block : ℕ) (marks : List ℕ) (bs : List (Option BlockState)) : Type 0 where
  pub done_is_white : IsSweepingPhase phase → EachBlock sh (λ b. b < next_block → NoneHas b bs → slice_index marks b ≡ 0)

-- in this state the blocks that are done have no mark
abbrev pub IsSweptCore : Core → Type 0
IsSweptCore c = let w = words_of c.shape c.words in IsSwept c.shape w.phase w.next_block w.marks (blocks c.seats)
