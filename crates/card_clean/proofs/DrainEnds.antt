-- The end of a drain: the counter of blocks is set to 0 before it, and if nothing is left, the seat may go on to the sweep, or to the clearing of marks.
use Rattle.std.proofs.Common.{ℕ, suc, ◌≡◌, ◌<◌, ◌+◌, ◌-◌, ◌/◌, ◌%◌, List, [], ◌∷◌, length, get_or, arith, refl, sym, ap, ◌∙◌, subst, Bool, true, not, Some, eq-eqb, ⊎_elim}
use Rattle.std.specs.Prelude.{◌==◌}
use Rattle.std.specs.List.{list_all}
use Rattle.std.proofs.lemmas.Bool.{and_from, or_left, or_right, true≢false}
use Rattle.mark_core.specs.Bits.{cell_bit, has_bit, nil_or}
use Rattle.mark_core.specs.Cards.{block_cells}
use Rattle.mark_core.specs.Effects.{seat_after}
use Rattle.mark_core.specs.Layout.{card_count, region_sizes, words_of, root_count}
use Rattle.mark_core.specs.Places.{card_at, mark_at, the_next_block, the_phase}
use Rattle.mark_core.specs.Numbers.{block_counter, empty_offset}
use Rattle.mark_core.specs.Seats.{work_in_hand}
use Rattle.mark_core.specs.Steps.WorldSteps.{cards_clean, is_quiet, roots_marked}
use Rattle.mark_core.specs.declared.kinds.Phase.TheVariants.{Clear, Drain, Sweep}
use Rattle.mark_core.specs.declared.kinds.Shape.{Shape}
use Rattle.mark_core.specs.declared.kinds.Step.TheVariants.{Reset, StorePhase}
use Rattle.mark_core.proofs.Notes.NotesKept.{single-word}
use Rattle.mark_core.proofs.Writing.Places.{region-length}
use Rattle.gc_table.specs.declared.view.View.{View}
use Rattle.gc_table.specs.Notes.{look}
use Rattle.gc_table.specs.Rule.{Agrees, IsState}
use Rattle.gc_table.specs.Running.{Alone}
use Rattle.gc_table.specs.Taking.{after, May}
use Rattle.gc_table.specs.TableState.{TableState}
use Rattle.gc_table.proofs.Noticing.{alone-steady, alone-step, known-here, knows-steady}
use Rattle.packet_pools.specs.OnlyTraced.{IsNotedMarked}
use Rattle.card_clean.specs.Drained.{IsBeforeSweep, IsDrained, IsNotedRoot}

all-from : (f : ℕ → Bool) (xs : List ℕ) → ((i : ℕ) → i < length xs → f (get_or xs i 0) ≡ true) → list_all f xs ≡ true
all-from f [] h = refl
all-from f (x ∷ xs) h = and_from (f x) (list_all f xs) (h 0 (omega arith)) (all-from f xs (λ i l. h (suc i) (omega (arith, l))))

single : (x : TableState) (i : ℕ) (v : View) (j n : ℕ) → Agrees x i v → j < 11 → look (0, j) v.known ≡ Some n → get_or x.core.words j 0 ≡ n
single x i v j n a low h = sym (single-word x.core.shape x.core.words j low) ∙ (a.noted (0, j) n h).1

-- the counter of blocks may be set to 0 in a drain, and the seat knows that it is
pub may-reset_blocks : (v : View) → Alone Drain v → May (Reset block_counter) v
may-reset_blocks v l x i k a = (and_from _ _ l.alone (or_right _ _ (eq-eqb _ 2 (single x i v 1 2 a (omega arith) l.phase))), tt)

pub before-sweep : (v : View) → Alone Drain v → IsBeforeSweep (after (Reset block_counter) 0 v)
before-sweep v l =
    record {
      drains = alone-step Drain v (Reset block_counter) 0 refl (record { found = λ e. absurd (true≢false e); stored = λ e. refl }) l;
      next_block = (known-here v (Reset block_counter) 0 the_next_block refl (alone-steady v.state the_next_block 0 refl l.alone)).0;
    }

module _ (x : TableState) (i : ℕ) (v : View) (k : IsState x) (a : Agrees x i v) (d : IsDrained v) where
  all-clean : cards_clean (words_of x.core.shape x.core.words).cards ≡ true
  all-clean =
      all-from (λ n. n == 0) (words_of x.core.shape x.core.words).cards
      (λ j l.
      let long : length (words_of x.core.shape x.core.words).cards ≡ card_count x.core.shape = region-length (region_sizes x.core.shape) 6 x.core.words (omega (arith, k.core.formed.words)) in
      let there : j < card_count v.shape = subst (λ (sh : Shape). j < card_count sh) (sym a.shape) (subst (λ n. j < n) long l) in
      eq-eqb _ 0 (a.noted (card_at j) 0 (d.cards j (omega arith) there)).1)

  root-marked : (j : ℕ) → IsNotedRoot j v → nil_or (cell_bit (words_of x.core.shape x.core.words).marks) (get_or (words_of x.core.shape x.core.words).roots j 0) ≡ true
  root-marked j r =
      let word : get_or (words_of x.core.shape x.core.words).roots j 0 ≡ r.word = (a.noted (2, j) r.word r.noted).1 in
      subst (λ n. nil_or (cell_bit (words_of x.core.shape x.core.words).marks) n ≡ true) (sym word)
      (⊎_elim
      (λ (z : r.word ≡ 0). or_left (r.word == 0) _ (eq-eqb r.word 0 z))
      (λ (m : IsNotedMarked v (r.word - 1)).
      or_right (r.word == 0) _ (ap (λ n. has_bit n ((r.word - 1) % block_cells)) (a.noted (mark_at ((r.word - 1) / block_cells)) m.0 m.1).1 ∙ m.2))
      r.marked)

  all-marked : roots_marked (words_of x.core.shape x.core.words).roots (words_of x.core.shape x.core.words).marks ≡ true
  all-marked =
      all-from (nil_or (cell_bit (words_of x.core.shape x.core.words).marks)) (words_of x.core.shape x.core.words).roots
      (λ j l.
      let long : length (words_of x.core.shape x.core.words).roots ≡ root_count x.core.shape = region-length (region_sizes x.core.shape) 2 x.core.words (omega (arith, k.core.formed.words)) in
      root-marked j (d.rooted.roots j (subst (λ (sh : Shape). j < root_count sh) (sym a.shape) (subst (λ n. j < n) long l))))

  quiet : is_quiet x.core.shape (words_of x.core.shape x.core.words) v.state ≡ true
  quiet =
      and_from _ _ (eq-eqb _ _ (single x i v 2 (empty_offset + v.shape.packets) a (omega arith) d.empty ∙ ap (λ (sh : Shape). empty_offset + sh.packets) a.shape))
      (ap not (sym (ap (λ (sh : Shape). work_in_hand sh.fields v.state) a.shape) ∙ d.work))

-- a drain at its end may go on to the sweep, or to the clearing of marks
pub may-begin_sweep : (v : View) → IsDrained v → May (StorePhase Sweep) v
may-begin_sweep v d x i k a =
    let l = d.rooted.ready in (
      eq-eqb _ 2 (single x i v 1 2 a (omega arith) l.drains.phase),
      (
        and_from _ _ (and_from _ _ (and_from _ _ (and_from _ _ l.drains.knows (quiet x i v k a d)) (all-clean x i v k a d)) (all-marked x i v k a d)) (eq-eqb _ 0 (single x i v 4 0 a (omega arith) l.next_block)),
        (or_right (not v.state.knows) v.state.alone l.drains.alone, tt),
      ),
    )

pub may-begin_clear : (v : View) → IsDrained v → May (StorePhase Clear) v
may-begin_clear v d x i k a =
    let l = d.rooted.ready in (
      eq-eqb _ 2 (single x i v 1 2 a (omega arith) l.drains.phase),
      (and_from _ _ (and_from _ _ l.drains.knows (quiet x i v k a d)) (eq-eqb _ 0 (single x i v 4 0 a (omega arith) l.next_block)), (or_right (not v.state.knows) v.state.alone l.drains.alone, tt)),
    )

-- the seat is alone in the sweep after the move
pub alone-sweeps : (v w : View) (n : ℕ) → Alone Drain v → w ≡ after (StorePhase Sweep) n v → Alone Sweep w
alone-sweeps v w n l e = subst (Alone Sweep) (sym e) (record { knows = l.knows; alone = l.alone; phase = (known-here v (StorePhase Sweep) n the_phase refl (knows-steady (seat_after v.shape v.state (StorePhase Sweep) n) 3 l.knows)).0 })

pub alone-clears : (v w : View) (n : ℕ) → Alone Drain v → w ≡ after (StorePhase Clear) n v → Alone Clear w
alone-clears v w n l e = subst (Alone Clear) (sym e) (record { knows = l.knows; alone = l.alone; phase = (known-here v (StorePhase Clear) n the_phase refl (knows-steady (seat_after v.shape v.state (StorePhase Clear) n) 4 l.knows)).0 })
