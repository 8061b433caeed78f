-- The state in which nothing has happened meets the rules of the world and of the phase.
use Rattle.std.proofs.Common.{ℕ, ◌≡◌, ◌+◌, ◌-◌, ◌*◌, ◌/◌, ◌%◌, ◌<◌, List, length, arith, refl, sym, ap, ◌∙◌, Bool, false}
use Rattle.std.specs.Prelude.{IsFalse, slice_index}
use Rattle.std.specs.List.{All}
use Rattle.std.proofs.lemmas.Bool.{false≢true}
use Rattle.std.proofs.lemmas.List.{get_or-append_right, get_or-replicate}
use Rattle.std.proofs.lemmas.List.Elements.{All-map}
use Rattle.std.proofs.lemmas.List.FromFn.{length-map-range_with_len}
use Rattle.mark_core.specs.Shapes.{IsShape}
use Rattle.mark_core.specs.Layout.{Words, words_of, region_base, region_sizes, pool_words, block_count}
use Rattle.mark_core.specs.Bits.{has_bit}
use Rattle.mark_core.specs.Held.{holds_any}
use Rattle.mark_core.specs.Views.{Standing, standings, standing_of}
use Rattle.mark_core.specs.Start.{start_words, start_seats, full_pool, packet_bits}
use Rattle.mark_core.proofs.Writing.Places.{words-get}
use Rattle.mark_core.proofs.Count.CountMoves.{count-none}
use Rattle.mark_core.proofs.Pool.PoolStart.{in-gap, past-gap, no-head, each-seat, gap, singles, tail_words}
use Rattle.mark_core.proofs.World.WorldMoves.{nowhere, nowhere-fits, Fits}
use Rattle.mark_core.proofs.World.WorldNumbers.{Numbers, Local}
use Rattle.mark_core.proofs.World.WorldReading.{right-from}
use Rattle.mark_core.proofs.World.WorldPhases.{Sees, IsWhite}
use Rattle.mark_core.proofs.World.WorldPhaseKept.{new-sees}
use Rattle.mark_core.proofs.World.WorldKept.{WorldSound, together, new-local}
use Rattle.mark_core.proofs.Writing.CellBits.{no-bit}
use Rattle.mark_core.proofs.Writing.Ranges.{block-exists}
use Rattle.mark_core.specs.declared.kinds.Shape.{Shape}
use Rattle.mark_core.specs.declared.seat.SeatState.{SeatState}

-- no seat helps
no_help : (sh : Shape) → (words_of sh (start_words sh)).help ≡ 0
no_help sh =
    let w : ℕ = pool_words sh in
    let long : length (full_pool sh) ≡ w = length-map-range_with_len (packet_bits sh.packets) 0 w in
    sym (words-get (region_sizes sh) 13 (start_words sh) 0 0 (omega arith))
    ∙ (past-gap (singles sh) (full_pool sh) (tail_words sh) 11 (gap sh) (region_base (region_sizes sh) 13 + 0) (4 * w) refl (omega arith)
    ∙ (get_or-append_right (full_pool sh) (tail_words sh) w (4 * w) 0 long (omega arith) ∙ get_or-replicate (3 * w + 2) (4 * w - w) 0 0 (omega arith)))

-- no cell is marked
starts_white : (sh : Shape) → IsShape sh → IsWhite sh (words_of sh (start_words sh)).marks
starts_white sh z x h =
    let b : ℕ = x / 64 in
    let hb : b < block_count sh = block-exists sh x z h in
    let word : slice_index (words_of sh (start_words sh)).marks b ≡ 0 =
    sym (words-get (region_sizes sh) 5 (start_words sh) b 0 hb) ∙ in-gap (singles sh) (full_pool sh) (tail_words sh) 11 (gap sh) (region_base (region_sizes sh) 5 + b) refl (omega arith) (omega (arith, hb)) in
    ap (λ w. has_bit w (x % 64)) word ∙ no-bit (x % 64)

all_nowhere : (P : Standing → Type 0) (sh : Shape) (n : ℕ) → P nowhere → All P (standings (start_seats sh n))
all_nowhere P sh n h = All-map P standing_of (start_seats sh n) (each-seat (λ (s : SeatState). P (standing_of s)) sh n (λ k. h))

pub world-starts : (sh : Shape) (n : ℕ) → IsShape sh → WorldSound sh (words_of sh (start_words sh)) (start_seats sh n)
world-starts sh n z =
    let w : Words = words_of sh (start_words sh) in
    let seats : List SeatState = start_seats sh n in
    let ss : List Standing = standings seats in
    let none = λ (f : Standing → Bool) (h : f nowhere ≡ false). count-none f ss (all_nowhere (λ (x : Standing). f x ≡ false) sh n h) in
    let counted = none (λ (x : Standing). x.counted) refl in
    let raised = none (λ (x : Standing). x.raised) refl in
    let helping = none (λ (x : Standing). x.helping) refl in
    let opened = none (λ (x : Standing). x.opened) refl in
    let admitted = none (λ (x : Standing). x.admitted) refl in
    let knows = none (λ (x : Standing). x.knows) refl in
    let numbers : Numbers w.world w.help ss =
    record {
      fits = all_nowhere Fits sh n nowhere-fits;
      tally =
          record {
            world_word = omega (arith, counted, raised);
            one_raised = omega (arith, raised);
            help_word = omega (arith, no_help sh, helping, opened);
            admitted_stopped = λ h. absurd (omega (arith, h, admitted));
            knows_stopped = λ h. absurd (omega (arith, h, knows));
            alone_unhelped = λ h. admitted;
          };
    } in
    together sh w seats (right-from w.world w.help ss numbers) (each-seat (Local sh) sh n (new-local sh))
    (record {
      sees = each-seat (Sees 0) sh n (new-sees 0 sh);
      stopped = λ e. absurd (false≢true e);
      white = λ e. starts_white sh z;
      still = λ e. (each-seat (λ (s : SeatState). IsFalse (holds_any s.held)) sh n (λ k. refl), no-head sh);
    })
