-- What is left to drain for a seat that is alone, by what it has noted of the words, and what a call uses up of it.
use Rattle.std.specs.Prelude.{ℕ, ◌≡◌, ◌+◌, ◌*◌, ◌/◌, ◌%◌, ◌<◌, ◌≤◌, ◌⊎◌, ◌==◌, ◌&&◌, not, ⊤, if◌then◌else◌, Bool, false, Option, None, Some, unwrap_or}
use Rattle.std.specs.List.{list_all, sum_by, range_with_len}
use Rattle.mark_core.specs.Bits.{has_bit, reference_in}
use Rattle.mark_core.specs.Numbers.{deferred_pool_number, high_pool_number, low_pool_number, reference_bound, word_bits}
use Rattle.mark_core.specs.Cards.{block_cells}
use Rattle.mark_core.specs.Held.{known_length}
use Rattle.mark_core.specs.Layout.{card_count}
use Rattle.mark_core.specs.Places.{card_at, head_at, mark_at, pool_at}
use Rattle.mark_core.specs.Seats.{empty_handed}
use Rattle.mark_core.specs.declared.kinds.Step.{Step}
use Rattle.mark_core.specs.declared.kinds.Step.TheVariants.{ClearCard}
use Rattle.gc_table.specs.Log.{events}
use Rattle.gc_table.specs.Notes.{look}
use Rattle.gc_table.specs.declared.view.View.{View}
use Rattle.packet_pools.specs.Counts.{count_of, dirties, marks_white, pushes}
use Rattle.card_clean.specs.Drained.{IsSettled}
use Rattle.gc_cycle.specs.Sorts.{pops}
use Rattle.gc_cycle.specs.declared.card_steps.Look.{Look}
use Rattle.gc_cycle.specs.declared.card_steps.Look.TheVariants as looks

-- 1 unless the noted word has the bit
abbrev pub lacks : Option ℕ → ℕ → ℕ
lacks None i = 1
lacks (Some word) i = if has_bit word i then 0 else 1

-- 1 unless the cell is noted as marked
abbrev pub white_left : View → ℕ → ℕ
white_left v c = lacks (look (mark_at (c / block_cells)) v.known) (c % block_cells)

-- 1 unless the noted word is 0
abbrev pub unless_clean : Option ℕ → ℕ
unless_clean None = 1
unless_clean (Some word) = if word == 0 then 0 else 1

-- 1 unless the card is noted as clean
abbrev pub dirty_left : View → ℕ → ℕ
dirty_left v card = unless_clean (look (card_at card) v.known)

-- the length that a noted head says, or else more than any
abbrev pub noted_length : Option ℕ → ℕ
noted_length None = reference_bound
noted_length (Some word) = reference_in word

-- the entries of packet p, at most: by its length in hand, or else by its head
abbrev pub entries_left : View → ℕ → ℕ
entries_left v p = unwrap_or (known_length v.state.held p) (noted_length (look (head_at p) v.known))

-- the cells that aren't noted as marked
abbrev pub cells_left : View → ℕ
cells_left v = sum_by (white_left v) (range_with_len 0 v.shape.cells)

-- the entries that packets have at most
abbrev pub queue_left : View → ℕ
queue_left v = sum_by (entries_left v) (range_with_len 0 v.shape.packets)

-- the cards that aren't noted as clean
abbrev pub cards_left : View → ℕ
cards_left v = sum_by (dirty_left v) (range_with_len 0 (card_count v.shape))

-- all together: a cell counts for three, since what is found white may come into a packet, and have two cards dirtied
abbrev pub left_to_drain : View → ℕ
left_to_drain v = 3 * cells_left v + queue_left v + cards_left v

-- a dirty card is cleaned
abbrev pub cleans_dirty : Step → ℕ → Bool
cleans_dirty (ClearCard card) found = found == 1
cleans_dirty step found = false

-- each white cell that was marked is one fewer; each cell that was popped is one entry fewer, but for those that were pushed; and each dirty card that was cleaned
-- is one fewer, but for those that were dirtied
pub record UsesUp (v w : View) : Type 0 where
  pub cells : count_of marks_white (events v w) + cells_left w ≤ cells_left v
  pub queue : count_of pops (events v w) + queue_left w ≤ queue_left v + count_of pushes (events v w)
  pub cards : count_of cleans_dirty (events v w) + cards_left w ≤ cards_left v + count_of dirties (events v w)

-- less is left to drain; or no more is, and each card is known to be clean, and each packet to be empty
abbrev pub Shrinks : View → View → Type 0
Shrinks v w = (left_to_drain w < left_to_drain v) ⊎ ((left_to_drain w ≤ left_to_drain v) × IsSettled w)

-- what is noted of a word of a pool says that this packet isn't there
abbrev pub says_outside : Option ℕ → ℕ → Bool
says_outside None i = false
says_outside (Some word) i = not (has_bit word i)

-- packet p is noted to be outside pool q
abbrev pub is_outside : View → ℕ → ℕ → Bool
is_outside v q p = says_outside (look (pool_at v.shape q (p / word_bits)) v.known) (p % word_bits)

-- packet p is noted to be outside each pool for packets with entries
abbrev pub is_spent : View → ℕ → Bool
is_spent v p = is_outside v low_pool_number p && (is_outside v high_pool_number p && is_outside v deferred_pool_number p)

-- it is noted that no packet is in such a pool, and the seat has none in hand: no cell is left to trace
abbrev pub has_traced_all : View → Bool
has_traced_all v = list_all (is_spent v) (range_with_len 0 v.shape.packets) && empty_handed v.state

-- each object that was popped is one fewer that is left
abbrev pub TracesDown : View → View → Type 0
TracesDown v w = left_to_drain w + count_of pops (events v w) ≤ left_to_drain v

-- a card that was found dirty is not noted as clean
abbrev pub NotesDirty : Look → View → Type 0
NotesDirty (looks.Clean n) v = ⊤
NotesDirty (looks.Dirty card) v = dirty_left v card ≡ 1

-- no more is left after this many cards from this one on were passed; and less, if the first of them wasn't noted as clean
pub record CleansDown (from n : ℕ) (v w : View) : Type 0 where
  pub no_more : left_to_drain w ≤ left_to_drain v
  pub less : 0 < n → dirty_left v from ≡ 1 → left_to_drain w < left_to_drain v
