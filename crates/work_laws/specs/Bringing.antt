-- How often popped cells are found unpublished in a run: once after they were pushed, and once each time that they are brought back out of the deferred pool in Marking.
use Rattle.std.specs.Prelude.{ℕ, ◌+◌, ◌≤◌, List, [], ◌∷◌, Bool, false, not, ◌&&◌, ◌||◌, if◌then◌else◌, ◌==◌, Option, None, Some, is_none, slice_get, slice_index}
use Rattle.std.specs.List.{sum_by, count_by, range_with_len}
use Rattle.mark_core.specs.Layout.{words_of, Words}
use Rattle.mark_core.specs.Numbers.{deferred_pool_number}
use Rattle.mark_core.specs.Held.{Slots}
use Rattle.mark_core.specs.Views.{hands}
use Rattle.mark_core.specs.Seats.{is_phase, is_the}
use Rattle.mark_core.specs.Cells.{in_pool, packet_length}
use Rattle.mark_core.specs.Steps.{Core, failing_part, after_event, run_of}
use Rattle.mark_core.specs.Laws.{IsCore, AllNumbersFit}
use Rattle.mark_core.specs.declared.kinds.Event.{Event}
use Rattle.mark_core.specs.declared.kinds.Phase.TheVariants.{Marking}
use Rattle.mark_core.specs.declared.kinds.Shape.{Shape}
use Rattle.mark_core.specs.declared.kinds.Step.{Step}
use Rattle.mark_core.specs.declared.kinds.Step.TheVariants.{Give, Pop, Push, ReadAlloc, Take}
use Rattle.mark_core.specs.declared.seat.SeatState.{SeatState}
use Rattle.work_laws.specs.Counting.{Sort, count_events, sum_events}
use Rattle.work_laws.specs.Marking.{pushes_fresh}
use Rattle.work_laws.specs.Queueing.{deferred_in_hand, lacks_bit, puts_back}
use Rattle.work_laws.specs.Dirtying.{spills_deferred}

-- the popped cell of block b, of which nothing is known yet, lacks its bit
abbrev pub lacks_anew : Option (ℕ × Bool) → ℕ → ℕ → Bool
lacks_anew None b word = false
lacks_anew (Some x) b word = not x.1 && lacks_bit (Some x) b word

-- a popped cell is found unpublished, for the first time since it was popped
abbrev pub defers_anew : Sort
defers_anew c s (ReadAlloc b) = lacks_anew s.popped b (slice_index (words_of c.shape c.words).allocs b)
defers_anew c s step = false

-- how many cells the step brings back: those of a packet that it takes out of the deferred pool
abbrev pub brought_by : Core → Step → ℕ
brought_by c (Take q p) =
    let w = words_of c.shape c.words in
    if (q == deferred_pool_number) && in_pool c.shape w.pools deferred_pool_number p then packet_length w.heads (hands c.seats) p else 0
brought_by c step = 0

abbrev pub brought_in : Core → Event → ℕ
brought_in c e = brought_by c e.step

-- so in Marking
abbrev pub brought_in_marking : Core → Event → ℕ
brought_in_marking c e = if is_phase (words_of c.shape c.words).phase Marking then brought_in c e else 0

-- which packets wait: an unpublished cell was put back there, and the packet wasn't given to the deferred pool since
abbrev pub Waits : Type 0
Waits = ℕ → Bool

-- at first none
abbrev pub none_waits : Waits
none_waits p = false

-- those after a step of a seat with this record
abbrev pub waits_after : SeatState → Step → Waits → Waits
waits_after s (Push q x) waits = λ p. waits p || ((p == q) && not (is_the s.fresh x))
waits_after s (Give q deferred) waits = λ p. waits p && not ((p == q) && deferred)
waits_after s step waits = waits

-- if its record was looked up
abbrev pub waits_by : Option SeatState → Step → Waits → Waits
waits_by None step waits = waits
waits_by (Some s) step waits = waits_after s step waits

-- a cell is popped from a packet that waits
abbrev pub pops_out : Step → Waits → Bool
pops_out (Pop p) waits = waits p
pops_out step waits = false

-- how often that is in a run, if these packets wait at first
abbrev pub pops_of_waiting : List Event → Core → Waits → ℕ
pops_of_waiting [] c waits = 0
pops_of_waiting (e ∷ es) c waits =
    if is_none (failing_part c e) then (if pops_out e.step waits then 1 else 0) + pops_of_waiting es (after_event c e) (waits_by (slice_get c.seats e.seat) e.step waits) else 0

-- how many cells are in packet p, if it doesn't wait and isn't in the deferred pool
abbrev pub ready_of : Shape → Words → List Slots → Waits → ℕ → ℕ
ready_of sh w hs waits p = if waits p || in_pool sh w.pools deferred_pool_number p then 0 else packet_length w.heads hs p

-- how many are in all such packets
abbrev pub ready_in : Shape → Words → List Slots → Waits → ℕ
ready_in sh w hs waits = sum_by (ready_of sh w hs waits) (range_with_len 0 sh.packets)

abbrev pub ready_cells : Core → Waits → ℕ
ready_cells c waits = ready_in c.shape (words_of c.shape c.words) (hands c.seats) waits

-- a cell was popped, of which nothing is known yet
abbrev pub is_new : Option (ℕ × Bool) → Bool
is_new None = false
is_new (Some x) = not x.1

abbrev pub has_new : SeatState → Bool
has_new s = is_new s.popped

-- how many seats have one in hand
abbrev pub new_in_hand : Core → ℕ
new_in_hand c = count_by has_new c.seats

-- over every run: a cell is found unpublished only once after it was pushed, and once each time that it is brought back in Marking, unless a seat pops it where it was put back;
-- and it is put back, or dirties its card, only as often
pub record DeferringIsBounded : Type 0 where
  pub found : (c : Core) (es : List Event) → IsCore c → AllNumbersFit es
      → count_events defers_anew es c ≤ ready_cells c none_waits + new_in_hand c + (count_events pushes_fresh es c + sum_events brought_in_marking es c + pops_of_waiting es c none_waits)
  pub put_back : (c : Core) (es : List Event) → IsCore c → AllNumbersFit es → count_events spills_deferred es c + count_events puts_back es c + deferred_in_hand (run_of es c) ≤ deferred_in_hand c + count_events defers_anew es c
