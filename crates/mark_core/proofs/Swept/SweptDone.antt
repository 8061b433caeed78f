-- Once every block was handed out and put down, the seat that is alone in the stop leaves no mark.
use Rattle.std.proofs.Common.{ℕ, ◌≡◌, ◌<◌, ◌≤◌, get_or, length, arith, refl, sym, ap, ◌∙◌, true, eqb, Some, None, ⊎_elim}
use Rattle.std.specs.Prelude.{IsTrue, slice_get}
use Rattle.std.specs.List.{All}
use Rattle.std.proofs.lemmas.Bool.{cases_eq, eq-eqb}
use Rattle.std.proofs.lemmas.List.{length-map, get_or-map, get_or_default}
use Rattle.std.proofs.lemmas.List.Sums.{list_all-from_AllPass}
use Rattle.mark_core.specs.Layout.{Words, words_of, block_count}
use Rattle.mark_core.specs.Views.{blocks}
use Rattle.mark_core.specs.Steps.WorldSteps.{none_marked}
use Rattle.mark_core.specs.Swept.{IsSweepingPhase, IsSweptCore}
use Rattle.mark_core.specs.Steps.{Core}
use Rattle.mark_core.specs.Laws.{IsCore}
use Rattle.mark_core.proofs.HeldBlock.{marks-length}
use Rattle.mark_core.proofs.Notes.NotesBeside.{sits, beside}
use Rattle.mark_core.specs.declared.seat.SeatState.{SeatState}

-- if a seat without a block is alone, no seat has a block
alone_none : (c : Core) (i : ℕ) (s : SeatState) → IsCore c → slice_get c.seats i ≡ Some s → IsTrue s.alone → s.block ≡ None → All (λ b. b ≡ None) (blocks c.seats)
alone_none c i s k got alone own j d h =
    let hj : j < length c.seats = rw (length-map c.seats (λ (y : SeatState). y.block)) at h in
    let x : SeatState = get_or c.seats j s in
    get_or-map (λ (y : SeatState). y.block) c.seats j s d hj
    ∙ ⊎_elim
    (λ (e : j ≡ i). ap (λ (y : SeatState). y.block) (ap (λ m. get_or c.seats m s) e ∙ (sits c i s got).is) ∙ own)
    (λ (n : j ≡ i → ⊥).
    let quiet = (beside c i j s x k (λ z. n (sym z)) (sits c i s got) (record { within = hj; is = get_or_default c.seats j x s hj })).alone_quiet alone in
    (k.sound.world.outside_empty j s hj quiet).no_block)
    (cases_eq j i)

-- then no mark is left once every block was handed out
pub done-white : (c : Core) (i : ℕ) (s : SeatState) → IsCore c → IsSweptCore c → slice_get c.seats i ≡ Some s → IsTrue s.alone → s.block ≡ None → IsSweepingPhase (words_of c.shape c.words).phase → block_count c.shape ≤ (words_of c.shape c.words).next_block
    → none_marked (words_of c.shape c.words).marks ≡ true
done-white c i s k swept got alone own phase all =
    let w : Words = words_of c.shape c.words in
    let none = alone_none c i s k got alone own in
    list_all-from_AllPass (λ x. eqb x 0) w.marks
    (λ b d h.
    let low : b < block_count c.shape = omega (arith, h, marks-length c k) in
    eq-eqb _ 0 (get_or_default w.marks b d 0 h ∙ swept.done_is_white phase b low (omega (arith, low, all)) (λ j e l. rw (none j e l) refl)))
