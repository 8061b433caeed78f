-- How many steps a call takes at most.
use Rattle.std.specs.Prelude.{ℕ, ◌+◌, ◌*◌, min}
use Rattle.mark_core.specs.Cards.{card_cells}
use Rattle.mark_core.specs.Layout.{card_count}
use Rattle.mark_core.specs.declared.kinds.Shape.{Shape}
use Rattle.packet_pools.specs.StepBounds.{any_steps, follow_steps, give_steps, output_steps, room_steps, scan_steps}
use Rattle.card_clean.specs.DirtyCards.{stretch_cards, stretch_count}

-- this many cells are scanned again, with all their fields
abbrev pub rescan_steps : ℕ → Shape → ℕ
rescan_steps cells sh = cells * scan_steps sh.fields sh

-- a card is cleared, the bits of its block are read, its cells are scanned again, and it is dirtied again; besides it takes what the searches of the call take
abbrev pub clean_steps : ℕ → Shape → ℕ
clean_steps cells sh = rescan_steps cells sh + 4

-- a card is cleaned with a packet that is taken for it and given back
abbrev pub clean_one_steps : ℕ → Shape → ℕ
clean_one_steps cells sh = output_steps sh + clean_steps cells sh + room_steps sh + give_steps

-- the next card is drawn, looked at and cleaned; besides it takes what the searches of the call take
abbrev pub next_steps : Shape → ℕ
next_steps sh = 3 + clean_steps card_cells sh

-- so with this many cards, and one packet that is taken for them and given back
abbrev pub clean_next_steps : ℕ → Shape → ℕ
clean_next_steps looks sh = output_steps sh + looks * next_steps sh + room_steps sh + give_steps

-- this many cards are looked at and cleaned, and this many cells scanned again in all
abbrev pub pass_steps : ℕ → ℕ → Shape → ℕ
pass_steps cards cells sh = 5 * cards + rescan_steps cells sh

-- so with a packet that is taken for it and given back
abbrev pub clean_some_steps : ℕ → ℕ → Shape → ℕ
clean_some_steps cards cells sh = any_steps sh + pass_steps cards cells sh + room_steps sh + give_steps

-- all cards are looked at, and from the first dirty one on passed
abbrev pub clean_dirty_steps : ℕ → Shape → ℕ
clean_dirty_steps cells sh = card_count sh + clean_some_steps (card_count sh) cells sh

-- all cards are passed, stretch by stretch, with a packet for each
abbrev pub clean_round_steps : ℕ → Shape → ℕ
clean_round_steps cells sh = stretch_count sh * clean_some_steps (min stretch_cards (card_count sh)) 0 sh + rescan_steps cells sh

-- this many roots are seen to, with a packet that is taken for it and given back
abbrev pub see_to_steps : ℕ → Shape → ℕ
see_to_steps roots sh = any_steps sh + roots * follow_steps sh + room_steps sh + give_steps
