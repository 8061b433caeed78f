-- Tracing loses no cell that is in hand.
use Rattle.std.specs.Prelude.{ℕ, List, [], ◌∷◌, Bool, true, not, ◌&&◌, ◌||◌, is_some, is_none}
use Rattle.mark_core.specs.Steps.ColourSteps.{fresh_off, popped_off}
use Rattle.mark_core.specs.Steps.PacketSteps.{may_push}
use Rattle.mark_core.specs.declared.kinds.Step.{Step}
use Rattle.mark_core.specs.declared.kinds.Step.TheVariants.{Push, Pop, SetMark, DirtyCard}
use Rattle.mark_core.specs.declared.seat.SeatState.{SeatState}
use Rattle.gc_table.specs.declared.view.Entry.{Entry}
use Rattle.gc_table.specs.declared.view.View.{View}
use Rattle.gc_table.specs.Taking.{after}

-- a cell in hand is answered for once this card is dirty: a fresh one, or a popped one that was seen unpublished
abbrev pub answers_for : SeatState → ℕ → Bool
answers_for s card = (is_some s.fresh && is_none (fresh_off s.fresh card)) || (is_some s.popped && is_none (popped_off s.popped card))

-- the step loses no cell in hand: a push puts one into a packet, a card is dirtied for one, and none is taken in the place of another
abbrev pub keeps_cells : SeatState → Step → Bool
keeps_cells s (Push p c) = may_push s c
keeps_cells s (DirtyCard card) = answers_for s card
keeps_cells s (Pop p) = not (is_some s.popped)
keeps_cells s (SetMark c) = not (is_some s.fresh)
keeps_cells s step = true

-- none of these steps loses a cell in hand
abbrev pub all_keep : View → List Entry → Bool
all_keep v [] = true
all_keep v (e ∷ es) = keeps_cells v.state e.step && all_keep (after e.step e.found v) es
