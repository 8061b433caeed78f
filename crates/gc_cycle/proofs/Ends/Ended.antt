-- What the end of a cycle leaves.
use Rattle.std.proofs.Common.{ℕ, ◌≡◌, ◌<◌, ◌-◌, ◌*◌, get_or, length, arith, refl, sym, ap, ◌∙◌, subst, Bool, true, false, ◌||◌}
use Rattle.std.specs.Prelude.{slice_index, unwrap_or}
use Rattle.std.specs.List.{count_by, range_with_len}
use Rattle.std.proofs.lemmas.List.{get_or-map, length-map}
use Rattle.mark_core.specs.Bits.{cell_bit}
use Rattle.mark_core.specs.Cards.{block_cells}
use Rattle.mark_core.specs.Layout.{address, block_count, words_of}
use Rattle.mark_core.specs.Notes.{word_at}
use Rattle.mark_core.specs.Numbers.{card_counter, free_count, last_count, rescanned_count, traced_count}
use Rattle.mark_core.specs.Places.{alloc_at, counter_at}
use Rattle.mark_core.specs.Seats.{has_used}
use Rattle.mark_core.specs.Views.{Standing, standing_of, standings}
use Rattle.mark_core.specs.Rules.WorldRules.{is_resting, IsCalm, NoneActive}
use Rattle.mark_core.specs.declared.kinds.Phase.TheVariants.{Idle}
use Rattle.mark_core.specs.declared.kinds.Shape.{Shape}
use Rattle.mark_core.specs.declared.seat.SeatState.{SeatState}
use Rattle.mark_core.proofs.Count.CountMoves.{count-same}
use Rattle.mark_core.proofs.Formed.FormedWords.{word-in}
use Rattle.mark_core.proofs.Notes.NotesBeside.{Sits, sits}
use Rattle.mark_core.proofs.Notes.NotesKept.{single-word, word-found}
use Rattle.mark_core.specs.Summary.{used_cells}
use Rattle.gc_table.specs.Rule.{Agrees, IsState}
use Rattle.gc_table.specs.TableState.{TableState}
use Rattle.gc_table.specs.declared.view.View.{View}
use Rattle.gc_table.specs.Running.{Known}
use Rattle.stop_world.proofs.Passing.{phase-is}
use Rattle.gc_cycle.specs.Ending.{InEach, is_used, IsCycleEnd, published_count}
use Rattle.gc_cycle.specs.Finishing.{AllocsNoted, IsAloneIn, ones_noted}
use Rattle.gc_cycle.specs.declared.counts.Counts.{Counts}
use Rattle.gc_cycle.proofs.Ends.Counted.{blocks-count, none-used, Reads}

module _ (x : TableState) (i : ℕ) (v : View) (k : IsState x) (a : Agrees x i v) where
  -- if a seat knows that the world is stopped, no seat is active
  none-active : v.state.knows ≡ true → NoneActive (standings x.core.seats)
  none-active h =
      let s : Sits x.core i v.state = sits x.core i v.state a.seat in
      let at : get_or (standings x.core.seats) i (standing_of v.state) ≡ standing_of v.state = get_or-map standing_of x.core.seats i v.state (standing_of v.state) s.within ∙ ap standing_of s.is in
      k.core.sound.world.knows_stopped i (standing_of v.state) (rw length-map s.within) (ap (λ (t : Standing). t.knows) at ∙ h)

  -- so none has a used cell
  none-has : v.state.knows ≡ true → (j : ℕ) (d : SeatState) → j < length x.core.seats → has_used (get_or x.core.seats j d).cache ≡ false
  none-has h j d l =
      let at = get_or-map standing_of x.core.seats j d (standing_of d) l in
      let still = none-active h j (standing_of d) (rw length-map l) in
      let calm : IsCalm (get_or x.core.seats j d) = k.core.sound.world.inactive_calm j d l (sym (ap (λ (t : Standing). t.active) at) ∙ still) in
      calm.no_used_cell

  published-used : v.state.knows ≡ true → used_cells x.core ≡ published_count x.core
  published-used h =
      count-same (cell_bit (words_of x.core.shape x.core.words).allocs) (is_used x.core) 0 x.core.shape.cells
      (λ c l m. ap (λ b. cell_bit (words_of x.core.shape x.core.words).allocs c || b) (none-used c x.core.seats (none-has h)) ∙ or-none (cell_bit (words_of x.core.shape x.core.words).allocs c))
    where
      or-none : (b : Bool) → (b || false) ≡ b
      or-none true = refl
      or-none false = refl

  -- the statistic with this number
  statistic-is : (which j n : ℕ) → counter_at which ≡ (0, j) → j < 11 → Known v (counter_at which) n → slice_index x.core.words j ≡ n
  statistic-is which j n e l h = sym (single-word x.core.shape x.core.words j l) ∙ (ap (word_at x.core.shape x.core.words) (sym e) ∙ (a.noted (counter_at which) n h.0).1)

  reads-noted : AllocsNoted (block_count v.shape) v → Reads (block_count x.core.shape) (words_of x.core.shape x.core.words).allocs v
  reads-noted h b l =
      let one = h b (subst (λ (sh : Shape). b < block_count sh) (sym a.shape) l) in
      let is : word_at x.core.shape x.core.words (alloc_at b) ≡ one.0 = (a.noted (alloc_at b) one.0 one.1.0).1 in (
        ap (λ o. unwrap_or o 0) one.1.0 ∙ sym is,
        subst (λ n. n < 18446744073709551616) (word-found x.core.shape x.core.words (alloc_at b) l) (word-in x.core.words (address x.core.shape (alloc_at b)) k.core.formed.words_in_range),
      )

  cycle-end : (counts : Counts) → IsAloneIn Idle v → AllocsNoted (block_count v.shape) v → counts.marked ≡ ones_noted (block_count v.shape) v
      → Known v (counter_at last_count) counts.marked → Known v (counter_at rescanned_count) counts.rescanned → Known v (counter_at traced_count) 0 → Known v (counter_at card_counter) 0 → Known v (counter_at free_count) (v.shape.cells - counts.marked) → IsCycleEnd counts x.core
  cycle-end counts h noted marked last rescanned traced card free =
      let sh : Shape = x.core.shape in
      let phase = phase-is x i v 0 a h.alone.phase in
      let whole = k.core.formed.shaped.whole_blocks in
      let cells : sh.cells ≡ block_count sh * block_cells = omega (arith, whole) in
      let published : published_count x.core ≡ counts.marked =
      ap (λ n. count_by (cell_bit (words_of sh x.core.words).allocs) (range_with_len 0 n)) cells
      ∙ (blocks-count (block_count sh) (words_of sh x.core.words).allocs v (reads-noted noted) ∙ (ap (λ (s : Shape). ones_noted (block_count s) v) (sym a.shape) ∙ sym marked)) in
      record {
        white = k.core.sound.phases.resting_white (ap is_resting phase);
        used = published-used h.rest.knows ∙ published;
        last = statistic-is last_count 6 counts.marked refl (omega arith) last;
        rescanned = statistic-is rescanned_count 7 counts.rescanned refl (omega arith) rescanned;
        traced = statistic-is traced_count 8 0 refl (omega arith) traced;
        next_card = statistic-is card_counter 3 0 refl (omega arith) card;
        free = statistic-is free_count 9 (v.shape.cells - counts.marked) refl (omega arith) free ∙ (ap (λ (s : Shape). s.cells - counts.marked) a.shape ∙ ap (λ n. sh.cells - n) (sym published));
      }

pub cycle-ends : (counts : Counts) (v : View) → IsAloneIn Idle v → AllocsNoted (block_count v.shape) v → counts.marked ≡ ones_noted (block_count v.shape) v
    → Known v (counter_at last_count) counts.marked → Known v (counter_at rescanned_count) counts.rescanned → Known v (counter_at traced_count) 0 → Known v (counter_at card_counter) 0 → Known v (counter_at free_count) (v.shape.cells - counts.marked) → InEach (IsCycleEnd counts) v
cycle-ends counts v h noted marked last rescanned traced card free x i k a = cycle-end x i v k a counts h noted marked last rescanned traced card free
