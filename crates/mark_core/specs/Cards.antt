-- Blocks and cards: how many cells each has, the card of a cell, the block of a card, and the bits of its cells. The sizes of both stand only here.
use Rattle.std.specs.Prelude.{ℕ, ◌-◌, ◌*◌, ◌/◌, ◌%◌, ◌^◌}

-- how many cells a block has: one for each bit of a word
abbrev pub block_cells : ℕ
block_cells = 64

-- how many cells a card has
abbrev pub card_cells : ℕ
card_cells = 16

-- how many cards a block has
abbrev pub block_cards : ℕ
block_cards = block_cells / card_cells

-- the card of a cell
abbrev pub card_of : ℕ → ℕ
card_of c = c / card_cells

-- the block in which a card lies
abbrev pub block_of_card : ℕ → ℕ
block_of_card card = card / block_cards

-- the bit of the card's first cell in the words of its block
abbrev pub first_bit : ℕ → ℕ
first_bit card = card_cells * (card % block_cards)

-- the bits of the card's cells in the words of its block
abbrev pub card_bits : ℕ → ℕ
card_bits card = (2 ^ card_cells - 1) * 2 ^ first_bit card
