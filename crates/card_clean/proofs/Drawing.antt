-- The next card of the pass is drawn.
use Rattle.std.proofs.Common.{ℕ, ◌≡◌, ◌<◌, ◌≤◌, ◌+◌, arith, refl, ap, ◌∙◌, Bool, true, false, Some, None, Option, unwrap_or}
use Rattle.std.specs.Prelude.{◌&&◌, ◌||◌}
use Rattle.std.proofs.lemmas.Bool.{and_from, and_parts, lt-ltb, le-ltb}
use Rattle.mark_core.specs.Layout.{card_count}
use Rattle.mark_core.specs.Bits.{wrapped_sum}
use Rattle.mark_core.specs.Numbers.{card_counter}
use Rattle.mark_core.specs.Places.{the_phase, the_next_card}
use Rattle.mark_core.specs.Notes.{steady, keeps_bound}
use Rattle.mark_core.specs.Seats.{saw, is_the}
use Rattle.mark_core.specs.declared.kinds.Phase.TheVariants.{Marking, Drain}
use Rattle.mark_core.specs.declared.kinds.Step.TheVariants.{NextOfCards, ReadStat}
use Rattle.mark_core.specs.declared.seat.SeatState.{SeatState}
use Rattle.gc_table.specs.declared.view.View.{View}
use Rattle.gc_table.specs.Notes.{look}
use Rattle.gc_table.specs.Taking.{May, Finds, after}
use Rattle.packet_pools.specs.Tracing.{notes_drain, Traces}
use Rattle.packet_pools.proofs.Conditions.{may-trace, some-is as the-is, or-mono}
use Rattle.packet_pools.proofs.TracedSteps.{read-keeps}
use Rattle.card_clean.specs.Passing.{card_floor}
use Rattle.gc_table.proofs.Noticing.{knows-steady, note-stays}
use Rattle.card_clean.proofs.CardLooks.{noted-here}

-- the record without what is known of the counters
abbrev pub aside : SeatState → SeatState
aside s = record s { below_card = false; below_block = false }

-- a seat that traces still does, if it keeps what it knows of the phase
pub still-traces : (v w : View) → aside w.state ≡ aside v.state → (v.state.knows ≡ true → look the_phase v.known ≡ Some 2 → look the_phase w.known ≡ Some 2) → Traces v → Traces w
still-traces v w e kept t =
    record {
      may =
          ap (λ (s : SeatState). (s.active && saw s.phase_seen Marking) || (w.state.knows && notes_drain w) || (s.admitted && saw s.phase_seen Drain)) e
          ∙ or-mono _ _ _ _
          (λ h.
          let both = and_parts v.state.knows (notes_drain v) h in
          and_from w.state.knows (notes_drain w) (ap (λ (s : SeatState). s.knows) e ∙ both.0) (ap (λ o. is_the o 2) (kept both.0 (the-is (look the_phase v.known) 2 both.1))))
          t.may;
      unreserved = ap (λ (s : SeatState). s.reserved) e ∙ t.unreserved;
      uncredited = ap (λ (s : SeatState). s.credit) e ∙ t.uncredited;
    }

module _ (v : View) (seen : ℕ) (f : Finds (ReadStat card_counter) seen v) (t : Traces v) where
  -- after the look at the counter
  abbrev pub looked : View
  looked = after (ReadStat card_counter) seen v

  pub looked-traces : Traces looked
  looked-traces = still-traces v looked refl (λ k h. read-keeps v (ReadStat card_counter) seen refl f the_phase 2 (knows-steady looked.state 2 k) h) t

  pub may-draw : seen < card_count v.shape → May NextOfCards looked
  may-draw under c k w a = (may-trace c k looked a looked-traces.may, (lt-ltb seen (card_count v.shape) under, tt))

  -- after the counter was raised
  abbrev pub drawn : ℕ → View
  drawn n = after NextOfCards n looked

  pub drawn-traces : (n : ℕ) → Traces (drawn n)
  drawn-traces n =
      still-traces looked (drawn n) refl
      (λ k h. note-stays (steady (drawn n).state) the_next_card the_phase (wrapped_sum n 1) 2 looked.known refl (knows-steady (drawn n).state 2 k) h)
      looked-traces

  over-state : card_count v.shape ≤ seen → looked.state ≡ record v.state { below_card = false }
  over-state h = ap (λ (b : Bool). record v.state { below_card = b }) (le-ltb seen (card_count v.shape) h)

  -- the seat's floor isn't above what it reads
  floor-read : card_floor v ≤ seen
  floor-read = by_note (look the_next_card v.floors) refl
    where
      by_note : (o : Option ℕ) → look the_next_card v.floors ≡ o → unwrap_or o 0 ≤ seen
      by_note None e = omega arith
      by_note (Some m) e = let low = (f.agrees.floored the_next_card m e).1 in omega (arith, low, f.word)

  floor-looked : (v.state.admitted || v.state.knows) ≡ true → look the_next_card looked.floors ≡ Some seen
  floor-looked k = noted-here (λ at m. keeps_bound looked.state at) the_next_card seen v.floors k

  -- the seat's floor isn't above the number that it draws, and is above that number afterwards
  pub rises : (n : ℕ) → Finds NextOfCards n looked → n < card_count v.shape → card_count v.shape < 18446744073709551615 → (v.state.admitted || v.state.knows) ≡ true → (card_floor v ≤ n) × (card_floor (drawn n) ≡ n + 1)
  rises n d below few k =
      let low = (d.agrees.floored the_next_card seen (floor-looked k)).1 in
      let sum : wrapped_sum n 1 ≡ n + 1 = omega (arith, below, few) in (
        omega (arith, low, d.word, floor-read),
        ap (λ (o : Option ℕ). unwrap_or o 0) (noted-here (λ at m. keeps_bound (drawn n).state at) the_next_card (wrapped_sum n 1) looked.floors k) ∙ sum,
      )

pub may-look : (v : View) → May (ReadStat card_counter) v
may-look v c k w a = (lt-ltb 0 (8 + c.core.shape.sections) (omega arith), tt)
