-- How often cells are taken from packets in a run.
use Rattle.std.specs.Prelude.{ℕ, ◌+◌, ◌/◌, ◌%◌, ◌≤◌, List, Bool, true, false, not, ◌&&◌, ◌==◌, Option, None, Some, slice_index}
use Rattle.std.specs.List.{sum_by, count_by, range_with_len}
use Rattle.mark_core.specs.Layout.{words_of, Words}
use Rattle.mark_core.specs.Bits.{has_bit}
use Rattle.mark_core.specs.Cards.{block_cells}
use Rattle.mark_core.specs.Held.{Slots}
use Rattle.mark_core.specs.Views.{hands}
use Rattle.mark_core.specs.Seats.{is_the}
use Rattle.mark_core.specs.Cells.{packet_length}
use Rattle.mark_core.specs.Steps.{Core, run_of}
use Rattle.mark_core.specs.Laws.{IsCore, AllNumbersFit}
use Rattle.mark_core.specs.declared.kinds.Event.{Event}
use Rattle.mark_core.specs.declared.kinds.Shape.{Shape}
use Rattle.mark_core.specs.declared.kinds.Step.TheVariants.{Push, Pop, ReadAlloc}
use Rattle.mark_core.specs.declared.seat.SeatState.{SeatState}
use Rattle.work_laws.specs.Counting.{Sort, count_events}

-- a cell goes into a packet
abbrev pub pushes : Sort
pushes c s (Push p x) = true
pushes c s step = false

-- a cell that was popped, and found unpublished, goes back into a packet
abbrev pub puts_back : Sort
puts_back c s (Push p x) = not (is_the s.fresh x)
puts_back c s step = false

-- a cell is taken from a packet
abbrev pub pops : Sort
pops c s (Pop p) = true
pops c s step = false

-- the popped cell is of block b, whose allocation word lacks its bit
abbrev pub lacks_bit : Option (ℕ × Bool) → ℕ → ℕ → Bool
lacks_bit None b word = false
lacks_bit (Some x) b word = (x.0 / block_cells == b) && not (has_bit word (x.0 % block_cells))

-- a popped cell is found unpublished, and so is deferred
abbrev pub defers : Sort
defers c s (ReadAlloc b) = lacks_bit s.popped b (slice_index (words_of c.shape c.words).allocs b)
defers c s step = false

-- how many entries all packets have
abbrev pub entries_in : Shape → Words → List Slots → ℕ
entries_in sh w hs = sum_by (λ p. packet_length w.heads hs p) (range_with_len 0 sh.packets)

-- how many cells are in packets
abbrev pub queued : Core → ℕ
queued c = entries_in c.shape (words_of c.shape c.words) (hands c.seats)

-- the popped cell was found unpublished
abbrev pub is_deferred : Option (ℕ × Bool) → Bool
is_deferred None = false
is_deferred (Some x) = x.1

-- the seat has a popped cell in hand that it found unpublished
abbrev pub has_deferred : SeatState → Bool
has_deferred s = is_deferred s.popped

-- how many such cells seats have in hand
abbrev pub deferred_in_hand : Core → ℕ
deferred_in_hand c = count_by has_deferred c.seats

-- over every run: a cell is popped only as often as one was pushed; what is pushed was marked anew, or is put back; and it is put back only as often as it was
-- found unpublished
pub record PopsAreBounded : Type 0 where
  pub pops : (c : Core) (es : List Event) → IsCore c → AllNumbersFit es → count_events pops es c + queued (run_of es c) ≤ queued c + count_events pushes es c
  pub put_back : (c : Core) (es : List Event) → IsCore c → AllNumbersFit es → count_events puts_back es c + deferred_in_hand (run_of es c) ≤ deferred_in_hand c + count_events defers es c
